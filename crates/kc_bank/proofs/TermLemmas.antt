use Rattle.std.proofs.Common.{◌≤◌, ◌+◌, ◌++◌, ◌∷◌, ◌%◌, ◌^◌, [], List, arith}
use Rattle.kc_bank.proofs.PayLemmas.{then_one}
use Rattle.kc_bank.specs.Bank.{BankIsFit, LieInBank, LiesInBank, bank_meaning, bank_op_end, credit_of, credited, find_of, next_of, paid, credit_put}
use Rattle.kc_bank.specs.declared.bank.BankOp.{BankOp}
use Rattle.kc_bank.specs.declared.bank.BankOp.TheVariants.{Account, Count, Line, Pay}
use Rattle.kc_bank.specs.declared.bank.Credit.{Credit}
use Rattle.kc_bank.specs.declared.bank.PayNext.{PayNext}
use Rattle.kc_bank.specs.declared.bank.TheConstants.{BANK_CELLS, DIVIDEND}
use Rattle.kc_hash.proofs.HashLaw.{hash_stays}
use Rattle.kc_hash.specs.Meaning.{hash_cells_end, hash_begin, hash_meaning, hash_program}
use Rattle.kc_hash.specs.declared.HashOp.{HashOp}
use Rattle.kc_loc.proofs.LocLaw.{loc_stays}
use Rattle.kc_loc.specs.Meaning.{loc_begin, loc_last, loc_program}
use Rattle.kc_model.specs.declared.Reply.{Reply}
use Rattle.kc_model.specs.declared.Reply.TheVariants.{Bool, Cancelled, Empty, Full, Many, Stranded, Unit, Value}
use Rattle.kc_queue.proofs.QueueLaw.{queue_stays}
use Rattle.kc_queue.specs.Meaning.{queue_begin, queue_end, queue_meaning, queue_program}
use Rattle.kc_term.specs.Fit.{AreFit, Each}
use Rattle.kc_term.specs.Meaning.{greatest_end}
use Rattle.kc_xt.proofs.Stay.{stays_one}
use Rattle.kc_xt.specs.Program.{replies}
use Rattle.kc_xt.specs.Structure.{RepliesOneItem}

-- what holds of each in two lists holds of each in both
pub each_append : {X : Type 0} (P : X → Type 0) (xs ys : List X) → Each P xs → Each P ys → Each P (xs ++ ys)
each_append P [] ys left right = right
each_append P (x ∷ xs) ys left right = (left.0, each_append P xs ys left.1 right)

pub account_one : (o : HashOp) → RepliesOneItem (hash_meaning o)
account_one o = stays_one (hash_begin o) (hash_cells_end o.hash) (hash_program o.hash o.act replies) (hash_stays o)

pub credited_one : (c : Credit) → (a : Reply) → RepliesOneItem (credited c a)
credited_one c Unit = λ n m ks. tt
credited_one c (Value v) = account_one (credit_put c ((v + DIVIDEND) % 2 ^ 32))
credited_one c (Bool b) = λ n m ks. tt
credited_one c Empty = λ n m ks. tt
credited_one c Full = λ n m ks. tt
credited_one c Stranded = λ n m ks. tt
credited_one c Cancelled = λ n m ks. tt
credited_one c (Many items) = λ n m ks. tt

pub paid_one : (p : PayNext) → (a : Reply) → RepliesOneItem (paid p a)
paid_one p Unit = λ n m ks. tt
paid_one p (Value v) =
    then_one (hash_meaning (find_of (credit_of p v))) (credited (credit_of p v)) (credited_one (credit_of p v))
paid_one p (Bool b) = λ n m ks. tt
paid_one p Empty = λ n m ks. tt
paid_one p Full = λ n m ks. tt
paid_one p Stranded = λ n m ks. tt
paid_one p Cancelled = λ n m ks. tt
paid_one p (Many items) = λ n m ks. tt

-- each of the bank's operations replies one item
pub bank_one : (o : BankOp) → BankIsFit o → RepliesOneItem (bank_meaning o)
bank_one (Account o) fit = account_one o
bank_one (Line o) fit = stays_one (queue_begin o) (queue_end o) (queue_program o.queue o.act replies) (queue_stays o)
bank_one (Count o) fit = stays_one (loc_begin o) (loc_last o + 1) (loc_program o replies) (loc_stays o)
bank_one (Pay p) fit = then_one (queue_meaning (next_of p)) (paid p) (paid_one p)

pub each_fit : (os : List BankOp) → Each LiesInBank os → Each BankIsFit os
each_fit [] lie = tt
each_fit (o ∷ os) lie = (lie.0.0, each_fit os lie.1)

pub each_one : (os : List BankOp) → Each LiesInBank os → Each (λ o. RepliesOneItem (bank_meaning o)) os
each_one [] lie = tt
each_one (o ∷ os) lie = (bank_one o lie.0.0, each_one os lie.1)

-- operations that lie in the bank make a term that may be run on its cells
pub term_is_fit : (os : List BankOp) → LieInBank os → AreFit BankIsFit bank_meaning os
term_is_fit os lie = record { few = lie.1; each = each_fit os lie.0; single = each_one os lie.0 }

pub term_within : (os : List BankOp) → Each LiesInBank os → greatest_end bank_op_end os ≤ BANK_CELLS
term_within [] lie = omega arith
term_within (o ∷ os) lie =
    let first : bank_op_end o ≤ BANK_CELLS = lie.0.1 in
    let rest : greatest_end bank_op_end os ≤ BANK_CELLS = term_within os lie.1 in omega arith
