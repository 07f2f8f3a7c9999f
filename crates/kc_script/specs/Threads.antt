-- What holds of each thread of a bundle.
use Rattle.std.specs.Prelude.{◌≤◌, List, [], ◌∷◌, length}
use Rattle.kc_script_bundle.specs.On.{CommandsAreOn}
use Rattle.kc_script_bundle.specs.Script.{Names}
use Rattle.kc_script_bundle.specs.declared.bundle.TheConstants.{MOST_COMMANDS}
use Rattle.kc_script_bundle.specs.declared.operation.Command.{Command}

-- each has at most 4,096 commands, and they are on these objects
abbrev pub AreThreads : Names → List (List Command) → Type 0
AreThreads names [] = Unit {0}
AreThreads names (commands ∷ threads) = (length commands ≤ MOST_COMMANDS) × CommandsAreOn names commands × AreThreads names threads
