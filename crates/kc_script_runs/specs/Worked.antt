-- Worked scripts by hand, of one thread and of two, and a command that waits. The definitions are computed on them.
use Rattle.std.specs.Prelude.{ℕ, List, [], ◌∷◌, codes, cond, ◌==◌, Some, None}
use Rattle.kc_model.specs.declared.footprint.Entry.{Entry}
use Rattle.kc_model.specs.declared.footprint.Footprint.{Footprint}
use Rattle.kc_model.specs.declared.footprint.Loc.{Loc}
use Rattle.kc_model.specs.declared.footprint.Put.{Put}
use Rattle.kc_model.specs.declared.footprint.Seen.{Seen}
use Rattle.kc_model.specs.declared.reply.Reply.{Reply}
use Rattle.kc_model.specs.declared.reply.Reply.TheVariants as reply
use Rattle.kc_model.specs.declared.reply.Answer.TheVariants as answer
use Rattle.kc_model.specs.Store.{Store}
use Rattle.kc_script_bundle.specs.declared.object.Object.TheVariants as object
use Rattle.kc_script_bundle.specs.declared.operation.Command.{Command}
use Rattle.kc_script_bundle.specs.declared.operation.Command.TheVariants as command
use Rattle.kc_loc.specs.declared.kinds.Rel.TheVariants as rel
use Rattle.kc_xt.specs.Meaning.{Touch}
use Rattle.kc_script_bundle.specs.declared.operation.Op.{Op}
use Rattle.kc_script_bundle.specs.declared.operation.Op.TheVariants as op
use Rattle.kc_term.specs.Tree.{seq, more, none}
use Rattle.kc_term.specs.Tree as tree
use Rattle.kc_loc.specs.declared.operation.LocOp.TheVariants as loc
use Rattle.kc_script_bundle.specs.Script.{Script}
use Rattle.kc_script_bundle.specs.State.{Content, number}
use Rattle.kc_history.specs.declared.record.Mark.TheVariants as mark
use Rattle.kc_history.specs.Callers.{record_entry}
use Rattle.kc_history.specs.declared.record.Place.{Place}
use Rattle.kc_history.specs.declared.record.Record.{Record}

abbrev x : Loc
x = record { 0 = 1 }

-- loc x 5, and a thread of get x, set x 7, add x 1
abbrev pub first_script : Script
first_script = record {
  limit = 64;
  objects = (codes "x", object.Loc x 5) ∷ [];
  threads = (command.One (op.Loc (loc.Get x)) ∷ command.One (op.Loc (loc.Set x 7)) ∷ command.One (op.Loc (loc.FetchAdd x 1)) ∷ []) ∷ [];
}

abbrev saw : Loc → ℕ → ℕ → Seen
saw l version value = record { loc = l; version = version; value = value }

abbrev worked_put : Loc → ℕ → ℕ → Put
worked_put l version after = record { loc = l; version = version; after = after }

abbrev pub first_records : List (List Record)
first_records =
    (record { thread = 1; mark = mark.Command 1; answer = answer.Reply (reply.Value 5); footprint = record { reads = record { items = saw x 0 5 ∷ [] }; puts = record { items = [] } } }
    ∷ record { thread = 1; mark = mark.Command 2; answer = answer.Reply reply.Unit; footprint = record { reads = record { items = saw x 0 5 ∷ [] }; puts = record { items = worked_put x 0 7 ∷ [] } } }
    ∷ record { thread = 1; mark = mark.Command 3; answer = answer.Reply (reply.Value 7); footprint = record { reads = record { items = saw x 1 7 ∷ [] }; puts = record { items = worked_put x 1 8 ∷ [] } } }
    ∷ record { thread = 1; mark = mark.End; answer = answer.Reply reply.Unit; footprint = record { reads = record { items = saw (record { 0 = 0 }) 0 1 ∷ [] }; puts = record { items = worked_put (record { 0 = 0 }) 0 0 ∷ [] } } }
    ∷ []) ∷ []

abbrev at : ℕ → Place
at index = record { thread = 0; index = index }

abbrev pub first_order : List Place
first_order = at 0 ∷ at 1 ∷ at 2 ∷ at 3 ∷ []

abbrev pub first_last : Store
first_last l = cond (l == 1) (record { version = 2; value = 8 }) (record { version = 1; value = 0 })

-- what x holds then
abbrev pub first_contents : List Content
first_contents = number 8 ∷ []

-- check x eq 9
abbrev pub waits_for_nine : Command
waits_for_nine = command.One (op.Loc (loc.Check x rel.Eq 9))

-- one thread lives, and x has 8
abbrev pub one_lives : Store
one_lives l = cond (l == 1) (record { version = 2; value = 8 }) (record { version = 0; value = 1 })

abbrev pub looks_at_x_and_live : List Touch
looks_at_x_and_live = record { cell = 1; wrote = None } ∷ record { cell = 0; wrote = None } ∷ []

-- ---- two threads

-- loc x 0, a thread of add x 1, and one of get x
abbrev pub two_script : Script
two_script = record {
  limit = 64;
  objects = (codes "x", object.Loc x 0) ∷ [];
  threads = (command.One (op.Loc (loc.FetchAdd x 1)) ∷ []) ∷ (command.One (op.Loc (loc.Get x)) ∷ []) ∷ [];
}

abbrev worked_print : List Seen → List Put → Footprint
worked_print reads puts = record { reads = record { items = reads }; puts = record { items = puts } }

abbrev live : Loc
live = record { 0 = 0 }

-- the second thread looks at x before the first one adds to it
abbrev added_print : Footprint
added_print = worked_print (saw x 0 0 ∷ []) (worked_put x 0 1 ∷ [])

abbrev looked_print : Footprint
looked_print = worked_print (saw x 0 0 ∷ []) []

abbrev first_ended : Footprint
first_ended = worked_print (saw live 0 2 ∷ []) (worked_put live 0 1 ∷ [])

abbrev second_ended : Footprint
second_ended = worked_print (saw live 1 1 ∷ []) (worked_put live 1 0 ∷ [])

abbrev pub two_records : List (List Record)
two_records =
    (record { thread = 1; mark = mark.Command 1; answer = answer.Reply (reply.Value 0); footprint = added_print } ∷ record { thread = 1; mark = mark.End; answer = answer.Reply reply.Unit; footprint = first_ended } ∷ [])
    ∷ (record { thread = 2; mark = mark.Command 1; answer = answer.Reply (reply.Value 0); footprint = looked_print } ∷ record { thread = 2; mark = mark.End; answer = answer.Reply reply.Unit; footprint = second_ended } ∷ []) ∷ []

abbrev of_thread : ℕ → ℕ → Place
of_thread thread index = record { thread = thread; index = index }

-- who reads a version stands before who ends it, whatever their numbers
abbrev pub two_order : List Place
two_order = of_thread 1 0 ∷ of_thread 0 0 ∷ of_thread 0 1 ∷ of_thread 1 1 ∷ []

-- a history that has just these records
abbrev pub two_history : List Entry
two_history = record_entry 1 1 looked_print ∷ record_entry 0 1 added_print ∷ record_entry 0 2 first_ended ∷ record_entry 1 2 second_ended ∷ []

abbrev pub two_contents : List Content
two_contents = number 1 ∷ []

-- ---- a look, and then a commit

-- a second caller checks that x is 9 while it has 8
abbrev pub missed : Footprint
missed = worked_print (saw live 0 2 ∷ saw x 0 8 ∷ []) []

-- the first one sets it
abbrev pub made_nine : Footprint
made_nine = worked_print (saw x 0 8 ∷ []) (worked_put x 0 9 ∷ [])

-- the second one tries again
abbrev pub met : Footprint
met = worked_print (saw x 1 9 ∷ []) []

abbrev pub look_and_commit : List Entry
look_and_commit = record_entry 1 1 missed ∷ record_entry 1 2 met ∷ []

abbrev pub waited_history : List Entry
waited_history = record_entry 1 1 missed ∷ record_entry 0 1 made_nine ∷ record_entry 1 2 met ∷ []

abbrev pub commits_alone : List Entry
commits_alone = record_entry 0 1 made_nine ∷ record_entry 1 1 met ∷ []

-- ---- cancels

-- location 0 with one live thread, and with the flag of thread 1 besides
abbrev pub one_live : ℕ
one_live = 1

abbrev pub first_flagged : ℕ
first_flagged = 65537

-- cancel 1, and check x eq 1
abbrev pub cancels_first : Op
cancels_first = op.Cancel (record { live = live; thread = 1 })

abbrev pub waits_for_one : Op
waits_for_one = op.Loc (loc.Check x rel.Eq 1)

-- loc x 0, and a thread of cancel 1, check x eq 1, get x, check x eq 1
abbrev pub cancel_script : Script
cancel_script = record {
  limit = 64;
  objects = (codes "x", object.Loc x 0) ∷ [];
  threads = (command.One cancels_first ∷ command.One waits_for_one ∷ command.One (op.Loc (loc.Get x)) ∷ command.One waits_for_one ∷ []) ∷ [];
}

abbrev answered : ℕ → Reply → Footprint → Record
answered i r f = record { thread = 1; mark = mark.Command i; answer = answer.Reply r; footprint = f }

abbrev pub cancel_records : List (List Record)
cancel_records =
    (answered 1 reply.Unit (worked_print (saw live 0 one_live ∷ []) (worked_put live 0 first_flagged ∷ []))
    ∷ answered 2 reply.Cancelled (worked_print (saw live 1 first_flagged ∷ saw x 0 0 ∷ []) (worked_put live 1 one_live ∷ []))
    ∷ answered 3 (reply.Value 0) (worked_print (saw x 0 0 ∷ []) [])
    ∷ answered 4 reply.Stranded (worked_print (saw live 2 one_live ∷ saw x 0 0 ∷ []) [])
    ∷ record { thread = 1; mark = mark.End; answer = answer.Reply reply.Unit; footprint = worked_print (saw live 2 one_live ∷ []) (worked_put live 2 0 ∷ []) }
    ∷ []) ∷ []

abbrev pub cancel_order : List Place
cancel_order = at 0 ∷ at 1 ∷ at 2 ∷ at 3 ∷ at 4 ∷ []

abbrev pub cancel_contents : List Content
cancel_contents = number 0 ∷ []

-- a store in which x has 0, and location 0 this
abbrev pub holding : ℕ → Store
holding v l = cond (l == 1) (record { version = 0; value = 0 }) (record { version = 0; value = v })

abbrev pub look_touch : ℕ → Touch
look_touch l = record { cell = l; wrote = None }

abbrev pub write_touch : ℕ → ℕ → Touch
write_touch l v = record { cell = l; wrote = Some v }

-- a block of cancel 1, check x eq 1
abbrev pub cancels_and_waits : Command
cancels_and_waits = command.Block (seq (more (tree.op cancels_first) (more (tree.op waits_for_one) none)))
