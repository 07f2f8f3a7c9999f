-- A view of all accounts is one of the bank's.
use Rattle.std.proofs.Common.{◌≡◌, ℕ, ◌+◌, ◌≤◌, Ok, Err, refl, ap, subst, arith}
use Rattle.std.specs.Prelude.{IfOk, IfSome, Option, Result, Some}
use Rattle.kc_cells.specs.Accumulator.{acc_cells_end}
use Rattle.kc_cells.specs.declared.accumulator.Accumulator.{Accumulator}
use Rattle.kc_model.specs.declared.footprint.Loc.{Loc}
use Rattle.kc_model.specs.declared.reply.Reply.{Reply}
use Rattle.kc_model.specs.declared.reply.Reply.TheVariants as reply
use Rattle.kc_sums.proofs.Totals.{all_read}
use Rattle.kc_sums.specs.Sums.{IsReading}
use Rattle.kc_sums.specs.declared.bank.Bank.{Bank}

pub within : (x : Accumulator) (n size : ℕ) → x.base ≡ record { 0 = 0 } → x.cells ≡ n → n ≤ size → acc_cells_end x ≤ size
within x n size base cells le = let e = ap (λ (l : Loc). l.0) base in omega (arith, e, cells, le)

pub reading_of : (b : Bank) (x : Accumulator) → x.base ≡ record { 0 = 0 } → x.cells ≡ b.accounts → IsReading b (all_read x)
reading_of b x base cells = record { all = x; base = ap (λ (l : Loc). l.0) base; cells = cells; is = refl }

pub if_number : {E : Type 0} (said : Option Reply) (P : Reply → Type 0) (Q : ℕ → Type 0) (r : Result ℕ E) → ((n : ℕ) → P (reply.Value n) → Q n) → IfSome said P → IfOk r (λ n. said ≡ Some (reply.Value n)) → IfOk r Q
if_number said P Q (Ok n) f p e = f n (subst (λ o. IfSome o P) e p)
if_number said P Q (Err e) f p q = q
