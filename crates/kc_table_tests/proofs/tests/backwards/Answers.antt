use Rattle.std.proofs.Common.{◌∙◌, subst, sym}
use Rattle.kc_table_moves.specs.Views.{AreAll}
use Rattle.kc_table_tests.proofs.Trying.{are_all_backwards, not_busy}
use Rattle.kc_table_tests.proofs.tests.backwards.Goals as goal

pub returns : goal.returns
returns c =
    let t = c.requires.table in
    let n = c.requires.numbers in
    subst (AreAll c.args.table.now) (sym c.in_ok-from_array.ensures.items)
    (are_all_backwards c.args.table.now c.args.first c.args.second t.0 t.1 t.2 n.0 n.1 (not_busy _ (sym c.busy.ensures ∙ c.if-busy.false)) (not_busy _ (sym c.busy-else-busy.ensures ∙ c.if-busy-2.false)))
