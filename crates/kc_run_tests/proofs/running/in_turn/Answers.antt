use Rattle.std.proofs.Common.{◌≡◌, ap, length, length-append, ◌∙◌, arith}
use Rattle.std.proofs.lemmas.List.Elements.{All-nil, All-push, All-same}
use Rattle.kc_run.specs.Run.{CanRun}
use Rattle.kc_run_tests.proofs.running.in_turn.Goals as goal

pub loop-i-init : goal.loop-i-init
loop-i-init c = (ap length c.in_ok-commands.ensures.items, All-same (CanRun 64) _ _ c.in_ok-commands.ensures.items (All-nil (CanRun 64)))

pub loop-i-preserved : goal.loop-i-preserved
loop-i-preserved c =
    let first = All-same (CanRun 64) _ _ c.in_ok-push.ensures.items (All-push (CanRun 64) _ _ c.loop-i.invariant.1 (record { fit = c.requires.first.0; within = omega (arith, c.requires.first.1) })) in
    let one = ap length c.in_ok-push.ensures.items ∙ length-append c.loop-i.commands.items _ in
    let two = ap length c.in_ok-push-2.ensures.items ∙ length-append c.push.new.self.items _ in
    (omega (arith, one, two, c.loop-i.invariant.0), All-same (CanRun 64) _ _ c.in_ok-push-2.ensures.items (All-push (CanRun 64) _ _ first (record { fit = c.requires.second.0; within = omega (arith, c.requires.second.1) })))

pub returns : goal.returns
returns c = record { few = omega (arith, c.loop-i.invariant.0, c.requires.few, c.loop-i.auto.i-end); each = c.loop-i.invariant.1 }
