-- The shares of threads.
use Rattle.std.specs.Prelude.{ℕ, ◌+◌, List, length, map}
use Rattle.std.specs.Global.{Vec}
use Rattle.kc_script_bundle.specs.declared.operation.Command.{Command}

-- a share for each thread: its commands and one more
abbrev pub shares_of : List (Vec Command) → List ℕ
shares_of threads = map (λ v. length v.items + 1) threads
