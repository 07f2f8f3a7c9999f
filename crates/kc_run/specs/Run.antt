-- What a store can run.
use Rattle.std.specs.Prelude.{ℕ, ◌≤◌, List, All, length}
use Rattle.kc_script_bundle.specs.Meaning.{CommandIsFit}
use Rattle.kc_script_bundle.specs.declared.bundle.TheConstants.{MOST_COMMANDS}
use Rattle.kc_script_bundle.specs.declared.operation.Command.{Command}
use Rattle.kc_script_runs.specs.Ask.{ask_end}

-- a store of so many locations can run the command
pub record CanRun (locations : ℕ) (c : Command) : Type 0 where
  pub fit : CommandIsFit c
  pub within : ask_end 0 c ≤ locations

-- a store of so many locations can run the thread's commands
pub record CanRunAll (locations : ℕ) (commands : List Command) : Type 0 where
  pub few : length commands ≤ MOST_COMMANDS
  pub each : All (CanRun locations) commands
