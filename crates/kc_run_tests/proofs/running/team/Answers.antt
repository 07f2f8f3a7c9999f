use Rattle.std.proofs.Common.{ap, length, rules}
use Rattle.std.specs.Global.{Vec}
use Rattle.std.proofs.lemmas.List.Elements.{All-nil, All-push, All-same}
use Rattle.kc_run.specs.Run.{CanRunAll}
use Rattle.kc_script_bundle.specs.declared.operation.Command.{Command}
use Rattle.kc_run_tests.proofs.running.team.Goals as goal

abbrev can : Vec Command → Type 0
can w = CanRunAll 64 w.items

pub loop-i-init : goal.loop-i-init
loop-i-init c = (ap length c.in_ok-team.ensures.items, All-same can _ _ c.in_ok-team.ensures.items (All-nil can))

pub loop-i-preserved : goal.loop-i-preserved
loop-i-preserved c = (search rules, All-same can _ _ c.in_ok-push.ensures.items (All-push can _ _ c.loop-i.invariant.1 c.in_ok-same.ensures))
