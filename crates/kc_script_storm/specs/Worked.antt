-- By hand: the first command of each thread of the storm of number 0, and records with some replies that are `ok`.
use Rattle.std.specs.Prelude.{ℕ, List, [], ◌∷◌}
use Rattle.kc_model.specs.declared.reply.Item.TheVariants as item
use Rattle.kc_model.specs.declared.reply.Reply.TheVariants as reply
use Rattle.kc_model.specs.declared.reply.Answer.{Answer}
use Rattle.kc_model.specs.declared.reply.Answer.TheVariants as answer
use Rattle.kc_loc.specs.declared.kinds.Fun.TheVariants as fun
use Rattle.kc_loc.specs.declared.operation.LocOp.TheVariants as loc
use Rattle.kc_cells.specs.declared.accumulator.AccAct.TheVariants as act
use Rattle.kc_script_bundle.specs.declared.operation.Op.{Op}
use Rattle.kc_term.specs.Tree.{op, seq, trees}
use Rattle.kc_script_bundle.specs.declared.operation.Op.TheVariants as operation
use Rattle.kc_script_bundle.specs.declared.operation.Command.{Command}
use Rattle.kc_script_bundle.specs.declared.operation.Command.TheVariants as command
use Rattle.kc_history.specs.declared.record.Mark.{Mark}
use Rattle.kc_history.specs.declared.record.Mark.TheVariants as mark
use Rattle.kc_history.specs.declared.record.Record.{Record}
use Rattle.kc_script_storm.specs.Storm.{accumulator}

-- the objects lie from location 1 on, in order of declaration
abbrev adds_to : ℕ → ℕ → Op
adds_to at v = operation.Loc (loc.Modify (record { 0 = at }) (fun.Add v))

-- bump a 61
abbrev pub bumps : Command
bumps = command.One (operation.Acc (record { acc = accumulator; act = act.Bump 0 61 }))

-- modify l1 add 61
abbrev pub modifies : Command
modifies = command.One (adds_to 2 61)

-- incr l3
abbrev pub increments : Command
increments = command.One (operation.Loc (loc.Incr (record { 0 = 4 })))

-- a block of modify l4 add 61, modify l0 add 4294967235
abbrev pub transfers : Command
transfers = command.Block (seq (trees (op (adds_to 5 61) ∷ op (adds_to 1 4294967235) ∷ [])))

-- ---- what is counted

abbrev replied : ℕ → Mark → Answer → Record
replied thread m a = record { thread = thread; mark = m; answer = a; footprint = record { reads = record { items = [] }; puts = record { items = [] } } }

-- replies of `ok`, `ok ok`, `7`, `ok 7`, `stranded` and `toolarge`, and an end
abbrev pub some_records : List (List Record)
some_records =
    (replied 1 (mark.Command 1) (answer.Reply reply.Unit)
    ∷ replied 1 (mark.Command 2) (answer.Reply (reply.Many (item.Unit ∷ item.Unit ∷ [])))
    ∷ replied 1 (mark.Command 3) (answer.Reply (reply.Value 7))
    ∷ replied 1 (mark.Command 4) (answer.Reply (reply.Many (item.Unit ∷ item.Value 7 ∷ [])))
    ∷ replied 1 (mark.Command 5) (answer.Reply reply.Stranded)
    ∷ replied 1 (mark.Command 6) answer.TooLarge
    ∷ replied 1 mark.End (answer.Reply reply.Unit)
    ∷ []) ∷ []
