use Rattle.std.proofs.Common.{◌≡◌, take, true}
use Rattle.kc_machine.specs.Seats.{begun}
use Rattle.kc_machine_steps.specs.declared.task.Task.TheVariants.{Look}
use Rattle.kc_model.specs.Word.{unpacked}
use Rattle.kc_table.specs.Turns.{LooksAgain, seat_behind}
use Rattle.kc_table_moves.specs.Atoms.{Here, is_plain}
use Rattle.kc_table_moves.specs.Rule.{ReadySeat}
use Rattle.kc_table_moves.specs.Views.{seat_seen_as}
use Rattle.kc_table.proofs.rows.look_row.Given as goal

abbrev pub ghosts-load_again : goal.ghosts-load_again
ghosts-load_again a = record { now = begun (seat_behind a._machine.now a._made (take a._count a._reads.now)) (Look a._loc); began = true; takes = λ n. is_plain (unpacked n) }

-- the seat would stand behind the looks that were made, which all found what the reads say
abbrev pub invariant-loop-i : goal.invariant-loop-i
invariant-loop-i l = record {
  machine : l.machine ≡ l.fn.machine;
  here : Here l.words.key l.words.table_id l.base l.token.table_id l.token.me;
  made : (seat_behind l.machine l.made (take l.i l.reads)).made ≡ l.made;
  ready : ReadySeat l.token.me l.pends (seat_behind l.machine l.made (take l.i l.reads));
  looks : LooksAgain (seat_seen_as l.fn.token.table_id l.fn.token.me l.fn.began l.fn.machine) (take l.i l.reads) (seat_seen_as l.token.table_id l.token.me l.pends (seat_behind l.machine l.made (take l.i l.reads)));
}
