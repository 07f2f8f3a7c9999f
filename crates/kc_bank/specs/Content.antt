use Rattle.std.specs.Prelude.{ℕ, List, [], ◌∷◌, Option, Some, None, ◌+◌, ◌%◌, ◌^◌, ◌≤◌, ◌⊎◌}
use Rattle.kc_bank.specs.Bank.{credit_of}
use Rattle.kc_bank.specs.declared.bank.Credit.{Credit}
use Rattle.kc_bank.specs.declared.bank.PayNext.{PayNext}
use Rattle.kc_bank.specs.declared.bank.TheConstants.{DIVIDEND}
use Rattle.kc_hash.specs.Content.{value_at, with_pair}
use Rattle.kc_hash.specs.Content.{HashStandsFor as AccountsAre}
use Rattle.kc_hash.specs.Meaning.{hash_cells_end as accounts_end}
use Rattle.kc_model.specs.declared.Reply.TheVariants.{Empty, Unit}
use Rattle.kc_queue.specs.Meaning.{QueueStandsFor as LineIs, queue_cells_end as line_end}
use Rattle.kc_xt.specs.Meaning.{replied, retried}
use Rattle.kc_xt.specs.Structure.{Standing, Value, comes_to}

-- what a credit comes to, where this was found at its account
abbrev pub credit_found : Credit → List (ℕ × ℕ) → Option ℕ → Value (List (ℕ × ℕ))
credit_found c accounts None = comes_to (replied Empty) accounts
credit_found c accounts (Some balance) =
    comes_to (replied Unit) (with_pair accounts c.account ((balance + DIVIDEND) % 2 ^ 32))

-- what a credit comes to on these accounts
abbrev pub credit_value : Credit → List (ℕ × ℕ) → Value (List (ℕ × ℕ))
credit_value c accounts = credit_found c accounts (value_at accounts c.account)

-- the cells stand for the line's accounts, and the balances
abbrev pub LineAndAccounts : PayNext → Standing (List ℕ × List (ℕ × ℕ))
LineAndAccounts p m c = LineIs p.line m c.0 × AccountsAre p.accounts m c.1

-- the line and the table have no cell in common
abbrev pub LieApart : PayNext → Type 0
LieApart p = (line_end p.line ≤ p.accounts.base.0) ⊎ (accounts_end p.accounts ≤ p.line.base.0)

-- what a payout comes to: the line's front is credited, and where there is none it waits
abbrev pub pay_value : PayNext → List ℕ → List (ℕ × ℕ) → Value (List ℕ × List (ℕ × ℕ))
pay_value p [] accounts = comes_to retried ([], accounts)
pay_value p (account ∷ line) accounts =
    let credit = credit_value (credit_of p account) accounts in comes_to credit.outcome (line, credit.content)
