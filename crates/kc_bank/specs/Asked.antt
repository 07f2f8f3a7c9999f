-- What is asked of the bank.
use Rattle.std.specs.Prelude.{ℕ, [], ◌∷◌}
use Rattle.kc_bank.specs.declared.bank.BankOp.{BankOp}
use Rattle.kc_bank.specs.declared.bank.BankOp.TheVariants.{Account, Count, Line, Pay}
use Rattle.kc_hash.specs.declared.Hash.{Hash}
use Rattle.kc_hash.specs.declared.HashAct.{HashAct}
use Rattle.kc_hash.specs.declared.HashAct.TheVariants.{Find, Put}
use Rattle.kc_loc.specs.declared.LocOp.TheVariants.{Get, Incr}
use Rattle.kc_model.specs.declared.Loc.{Loc}
use Rattle.kc_queue.specs.declared.Queue.{Queue}
use Rattle.kc_queue.specs.declared.QueueAct.TheVariants.{Enq}
use Rattle.kc_term.specs.Tree.{Tree, first, op, seq, trees}

-- ---- one step

abbrev pub on_accounts : Hash → HashAct → BankOp
on_accounts accounts act = Account (record { hash = accounts; act = act })

abbrev pub give : Hash → ℕ → ℕ → BankOp
give accounts account balance = on_accounts accounts (Put account balance)

abbrev pub look_up : Hash → ℕ → BankOp
look_up accounts account = on_accounts accounts (Find account)

abbrev pub line_up : Queue → ℕ → BankOp
line_up line account = Line (record { queue = line; act = Enq account })

abbrev pub pay_from : Queue → Hash → BankOp
pay_from line accounts = Pay (record { line = line; accounts = accounts })

abbrev pub count_one : Loc → BankOp
count_one made = Count (Incr made)

abbrev pub count_told : Loc → BankOp
count_told made = Count (Get made)

-- ---- steps in one

abbrev pub in_order : Tree BankOp → Tree BankOp → Tree BankOp
in_order a b = seq (trees (a ∷ b ∷ []))

abbrev pub account_opened : Hash → Queue → ℕ → ℕ → Tree BankOp
account_opened accounts line account balance = in_order (op (give accounts account balance)) (op (line_up line account))

abbrev pub paid_and_counted : Tree BankOp → Loc → Tree BankOp
paid_and_counted paying made = in_order paying (op (count_one made))

-- the next of the one line, or else of the other
abbrev pub urgent_or_next : Queue → Queue → Hash → Tree BankOp
urgent_or_next urgent line accounts = first (op (pay_from urgent accounts)) (op (pay_from line accounts))

abbrev pub lined_up_in_both : Queue → ℕ → Queue → ℕ → Tree BankOp
lined_up_in_both urgent one line other = in_order (op (line_up urgent one)) (op (line_up line other))
