use Rattle.std.specs.Prelude.{ℕ, List, ◌+◌, ◌%◌, ◌^◌, ◌≤◌, length, max}
use Rattle.kc_bank.specs.declared.bank.BankOp.{BankOp}
use Rattle.kc_bank.specs.declared.bank.BankOp.TheVariants.{Account, Count, Line, Pay}
use Rattle.kc_bank.specs.declared.bank.Credit.{Credit}
use Rattle.kc_bank.specs.declared.bank.PayNext.{PayNext}
use Rattle.kc_bank.specs.declared.bank.TheConstants.{BANK_CELLS, DIVIDEND}
use Rattle.kc_hash.specs.Meaning.{hash_end, hash_meaning}
use Rattle.kc_hash.specs.declared.HashAct.TheVariants.{Find, Put}
use Rattle.kc_hash.specs.declared.HashOp.{HashOp}
use Rattle.kc_loc.specs.Meaning.{LocIsFit, loc_end, loc_meaning}
use Rattle.kc_model.specs.declared.Reply.{Reply}
use Rattle.kc_model.specs.declared.Reply.TheVariants.{Empty, Value}
use Rattle.kc_queue.specs.Meaning.{queue_end, queue_meaning}
use Rattle.kc_queue.specs.declared.QueueAct.TheVariants.{DeqWait}
use Rattle.kc_queue.specs.declared.QueueOp.{QueueOp}
use Rattle.kc_term.specs.Fit.{Each}
use Rattle.kc_term.specs.declared.term.TheConstants.{MOST_OPERATIONS}
use Rattle.kc_xt.specs.Meaning.{Meaning, then_meaning}
use Rattle.kc_xt.specs.Program.{meaning, replies}

-- the look for an account's balance
abbrev pub find_of : Credit → HashOp
find_of c = record { hash = c.accounts; act = Find c.account }

abbrev pub credit_put : Credit → ℕ → HashOp
credit_put c balance = record { hash = c.accounts; act = Put c.account balance }

-- the balance grows by the dividend, where there is one
abbrev pub credited : Credit → Reply → Meaning
credited c (Value balance) =
    hash_meaning (credit_put c ((balance + DIVIDEND) % 2 ^ 32))
credited c _ = meaning (replies Empty)

abbrev pub credit_meaning : Credit → Meaning
credit_meaning c = then_meaning (hash_meaning (find_of c)) (credited c)

abbrev pub credit_of : PayNext → ℕ → Credit
credit_of p account = record { accounts = p.accounts; account = account }

-- the account that came out of the line is credited
abbrev pub paid : PayNext → Reply → Meaning
paid p (Value account) = credit_meaning (credit_of p account)
paid p _ = meaning (replies Empty)

abbrev pub next_of : PayNext → QueueOp
next_of p = record { queue = p.line; act = DeqWait }

abbrev pub pay_meaning : PayNext → Meaning
pay_meaning p = then_meaning (queue_meaning (next_of p)) (paid p)

abbrev pub credit_end : Credit → ℕ
credit_end c = hash_end (find_of c)

abbrev pub pay_end : PayNext → ℕ
pay_end p = max (queue_end (next_of p)) (credit_end (credit_of p 0))

abbrev pub bank_meaning : BankOp → Meaning
bank_meaning (Account o) = hash_meaning o
bank_meaning (Line o) = queue_meaning o
bank_meaning (Count o) = loc_meaning o
bank_meaning (Pay p) = pay_meaning p

abbrev pub BankIsFit : BankOp → Type 0
BankIsFit (Account o) = Unit {0}
BankIsFit (Line o) = Unit {0}
BankIsFit (Count o) = LocIsFit o
BankIsFit (Pay p) = Unit {0}

abbrev pub bank_op_end : BankOp → ℕ
bank_op_end (Account o) = hash_end o
bank_op_end (Line o) = queue_end o
bank_op_end (Count o) = loc_end o
bank_op_end (Pay p) = pay_end p

-- it may be run on the bank's cells
abbrev pub LiesInBank : BankOp → Type 0
LiesInBank o = BankIsFit o × (bank_op_end o ≤ BANK_CELLS)

-- operations that a term may have
abbrev pub LieInBank : List BankOp → Type 0
LieInBank os = Each LiesInBank os × (length os ≤ MOST_OPERATIONS)
