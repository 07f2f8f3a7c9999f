use Rattle.std.proofs.Common.{◌+◌, ◌-◌, ◌/◌, sym, ap, ◌∙◌, arith}
use Rattle.kc_script_printing.proofs.Bases.{entry_seen, name_found, go_up, go_down, searched_none}
use Rattle.kc_script.specs.Canonical.{name_at}
use Rattle.kc_script_bundle.specs.Script.{named, names_of}
use Rattle.kc_script_printing.proofs.naming.name_at.Goals as goal

pub returns-then-base-at : goal.returns-then-base-at
returns-then-base-at c =
    let objects = c.args.objects.now in
    let middle = c.loop-low.low + (c.loop-low.high - c.loop-low.low) / 2 in
    let here = entry_seen named objects.entries middle (c.in-Some.name.now, c.in-Some.object.now) c.in-Some.ensures.entry in
    c.as_bytes.ensures.value ∙ sym (name_found 1 (names_of objects) middle (named (c.in-Some.name.now, c.in-Some.object.now)) c.requires.lie c.requires.sized here) ∙ ap (name_at (names_of objects)) (sym c.base_of-base.ensures ∙ c.if-base-at.true)

pub loop-low-preserved-then-base-at-2 : goal.loop-low-preserved-then-base-at-2
loop-low-preserved-then-base-at-2 c =
    let objects = c.args.objects.now in
    let middle = c.loop-low.low + (c.loop-low.high - c.loop-low.low) / 2 in
    let here = entry_seen named objects.entries middle (c.in-Some.name.now, c.in-Some.object.now) c.in-Some.ensures.entry in
    (c.loop-low.invariant.0, go_up (names_of objects) c.requires.lie c.requires.sized c.args.at c.loop-low.low c.loop-low.high middle (named (c.in-Some.name.now, c.in-Some.object.now)) here c.loop-low.invariant.1 (omega (arith, c.base_of-base.ensures, c.if-base-at-2.true)))

pub loop-low-preserved : goal.loop-low-preserved
loop-low-preserved c =
    let objects = c.args.objects.now in
    let middle = c.loop-low.low + (c.loop-low.high - c.loop-low.low) / 2 in
    let here = entry_seen named objects.entries middle (c.in-Some.name.now, c.in-Some.object.now) c.in-Some.ensures.entry in
    (omega (arith, c.loop-low.invariant.0, c.loop-low-test.true), go_down (names_of objects) c.requires.lie c.requires.sized c.args.at c.loop-low.low c.loop-low.high middle (named (c.in-Some.name.now, c.in-Some.object.now)) here c.loop-low.invariant.1 (omega (arith, c.base_of-base.ensures, c.if-base-at.false, c.if-base-at-2.false)))

pub returns : goal.returns
returns c = sym (searched_none (names_of c.args.objects.now) c.args.at c.loop-low.low c.loop-low.high c.loop-low.invariant.1 (omega (arith, c.loop-low-test.false)))
