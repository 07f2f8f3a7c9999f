-- When a command on a store's objects may be asked for.
use Rattle.std.proofs.Common.{ℕ, ◌<◌, ◌≤◌, arith}
use Rattle.kc_script_runs.specs.Ask.{ask_end}
use Rattle.kc_script_bundle.proofs.Fitting.{command_fits, command_within}
use Rattle.kc_script_bundle.specs.Meaning.{CommandIsFit}
use Rattle.kc_script_bundle.specs.On.{CommandIsOn}
use Rattle.kc_script_bundle.specs.Script.{Names, LieFrom, next_from}
use Rattle.kc_script_bundle.specs.declared.operation.Command.{Command}

module _ (n : ℕ) (names : Names) (lie : LieFrom 1 names) (room : next_from 1 names ≤ n) (c : Command) (on : CommandIsOn names c) where
  pub ask_fit : n ≤ 65536 → CommandIsFit c
  ask_fit le = command_fits names lie (omega arith) c on

  pub ask_within : 0 < n → ask_end 0 c ≤ n
  ask_within some = omega (arith, command_within names lie c on, room, some)
