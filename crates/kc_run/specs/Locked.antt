-- A store behind one lock, opened for threads.
use Rattle.std.specs.Prelude.{◌≡◌, List}
use Rattle.std.specs.Global.{Vec}
use Rattle.kc_locked.specs.Passes.{LockedStoreView, PassView}
use Rattle.kc_run.specs.Jobs.{AllMayRun}
use Rattle.kc_script_bundle.specs.declared.operation.Command.{Command}

-- the passes of the store are those of the threads, in their order
abbrev pub AllDealt : LockedStoreView → List (Vec Command) → List PassView → Type 0
AllDealt store threads passes = AllMayRun (λ (s : LockedStoreView) (p : PassView). p.table ≡ s.table) (λ (p : PassView). p.caller) (λ (p : PassView). p.left) (λ (p : PassView). p.own) store 0 threads passes
