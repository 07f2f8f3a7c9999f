-- What all accounts have together, and what the bank's threads commit.
use Rattle.std.specs.Prelude.{◌≡◌, ℕ, zero, suc, ◌⊎◌, ◌+◌, ◌-◌, ◌*◌, ◌<◌, ◌≤◌, ◌^◌}
use Rattle.kc_cells.specs.Accumulator.{acc_meaning}
use Rattle.kc_cells.specs.declared.accumulator.AccAct.TheVariants.{Total}
use Rattle.kc_cells.specs.declared.accumulator.Accumulator.{Accumulator}
use Rattle.kc_cells.specs.declared.accumulator.TheConstants.{MOST_CELLS}
use Rattle.kc_compose.specs.Meaning.{both_meaning}
use Rattle.kc_compose.specs.declared.both.Both.{Both}
use Rattle.kc_loc.specs.Meaning.{loc_meaning}
use Rattle.kc_loc.specs.declared.kinds.Rel.TheVariants.{Ge}
use Rattle.kc_loc.specs.declared.operation.LocOp.{LocOp}
use Rattle.kc_loc.specs.declared.operation.LocOp.TheVariants.{Check, FetchAdd}
use Rattle.kc_model.specs.declared.footprint.Loc.{Loc}
use Rattle.kc_sums.specs.declared.bank.Bank.{Bank}
use Rattle.kc_xt.specs.Meaning.{Meaning}

-- two accounts at least, as many as a view can read at most, and together a number
pub record IsBank (b : Bank) : Type 0 where
  pub accounts : 1 < b.accounts
  pub most : b.accounts ≤ MOST_CELLS
  pub total : b.accounts * b.each < 2 ^ 32

-- of the first n locations
abbrev pub accounts_sum : ℕ → (ℕ → ℕ) → ℕ
accounts_sum zero m = 0
accounts_sum (suc n) m = accounts_sum n m + m n

-- the accounts have together what they opened with, which is a number
abbrev pub HasTotal : Bank → (ℕ → ℕ) → Type 0
HasTotal b m = (b.accounts * b.each < 2 ^ 32) × (accounts_sum b.accounts m ≡ b.accounts * b.each)

-- ---- what is committed

-- it checks that the one has the amount, takes it there, and puts it into the other
abbrev pub transferred : Loc → Loc → ℕ → Both LocOp (Both LocOp LocOp)
transferred from to amount = record { first = Check from Ge amount; second = record { first = FetchAdd from (2 ^ 32 - amount); second = FetchAdd to amount } }

abbrev pub transfer_meaning : Loc → Loc → ℕ → Meaning
transfer_meaning from to amount = both_meaning (loc_meaning (Check from Ge amount)) (both_meaning (loc_meaning (FetchAdd from (2 ^ 32 - amount))) (loc_meaning (FetchAdd to amount)))

-- the meaning of a transfer of something between two of the accounts
pub record IsTransfer (b : Bank) (m : Meaning) : Type 0 where
  pub from : Loc
  pub to : Loc
  pub amount : ℕ
  pub from_within : from.0 < b.accounts
  pub to_within : to.0 < b.accounts
  pub some : 0 < amount
  pub fits : amount < 2 ^ 32
  pub is : m ≡ transfer_meaning from to amount

-- the meaning of a view of all accounts
pub record IsReading (b : Bank) (m : Meaning) : Type 0 where
  pub all : Accumulator
  pub base : all.base.0 ≡ 0
  pub cells : all.cells ≡ b.accounts
  pub is : m ≡ acc_meaning (record { acc = all; act = Total })

abbrev pub IsOfBank : Bank → Meaning → Type 0
IsOfBank b m = IsTransfer b m ⊎ IsReading b m
