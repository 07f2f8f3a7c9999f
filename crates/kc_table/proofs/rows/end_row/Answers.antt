use Rattle.std.proofs.Common.{◌≡◌, ◌+◌, ◌-◌, ◌<◌, ◌∙◌, ap, arith, get_or, length, sym, take}
use Rattle.std.proofs.lemmas.List.{take_more}
use Rattle.kc_machine.specs.Points.{seat_told}
use Rattle.kc_machine_steps.specs.declared.task.Told.TheVariants as told
use Rattle.kc_model.specs.declared.footprint.Seen.{Seen}
use Rattle.kc_table.proofs.Turns.{behind_last}
use Rattle.kc_table.specs.Turns.{seat_behind}
use Rattle.kc_table.proofs.rows.end_row.Goals as goal

pub returns : goal.returns
returns c =
    let rs = c.args.reads.now in
    let n = c.args.count in
    let s = c.args.machine.now in
    let d : Seen = record { loc = record { 0 = 0 }; version = 0; value = 0 } in
    let lt : n - 1 < length rs = (let t = c.if-count-eq0.false in let l = c.requires in omega (arith, t, l)) in
    let one : n ≡ n - 1 + 1 = (let t = c.if-count-eq0.false in omega (arith, t)) in
    c.end_with.ensures ∙ (ap (λ k. seat_told s c.args.made k (told.Seen (get_or rs (n - 1) d))) c.calls-calls.ensures ∙ sym (ap (λ k. seat_behind s c.args.made (take k rs)) one ∙ ap (seat_behind s c.args.made) (take_more rs (n - 1) d lt) ∙ behind_last s c.args.made (take (n - 1) rs) (get_or rs (n - 1) d)))
