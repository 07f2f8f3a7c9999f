use Rattle.std.proofs.Common.{ap, length, arith, rules}
use Rattle.std.proofs.lemmas.List.Elements.{All-nil, All-push, All-same}
use Rattle.kc_run.specs.Run.{CanRun}
use Rattle.kc_run_tests.proofs.running.same.Goals as goal

pub loop-i-init : goal.loop-i-init
loop-i-init c = (ap length c.in_ok-commands.ensures.items, All-same (CanRun 64) _ _ c.in_ok-commands.ensures.items (All-nil (CanRun 64)))

pub loop-i-preserved : goal.loop-i-preserved
loop-i-preserved c = (search rules, All-same (CanRun 64) _ _ c.in_ok-push.ensures.items (All-push (CanRun 64) _ _ c.loop-i.invariant.1 (record { fit = c.requires.0; within = omega (arith, c.requires.1) })))

pub returns : goal.returns
returns c = record { few = omega (arith, c.loop-i.invariant.0, c.requires.2, c.loop-i.auto.i-end); each = c.loop-i.invariant.1 }
