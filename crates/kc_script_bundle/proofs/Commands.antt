-- Commands keep the cells of all objects well formed.
use Rattle.std.proofs.Common.{◌≢◌, ℕ, List}
use Rattle.kc_script_bundle.specs.declared.operation.Command.{Command}
use Rattle.kc_term.proofs.Closed.{term_preserves}
use Rattle.kc_term.specs.Tree.{operations}
use Rattle.kc_xt.specs.Meaning.{too_large, map_after}
use Rattle.kc_script_bundle.specs.declared.operation.Command.TheVariants as command
use Rattle.kc_script_bundle.proofs.Fitting.{each_on}
use Rattle.kc_script_bundle.proofs.Keeping.{op_keeps}
use Rattle.kc_script_bundle.specs.Meaning.{op_meaning, command_meaning}
use Rattle.kc_script_bundle.specs.On.{CommandIsOn}
use Rattle.kc_script_bundle.specs.Script.{Names, LieFrom}
use Rattle.kc_script_bundle.specs.State.{AreWellFormed}

pub command_keeps : (names : Names) (c : Command) (n : ℕ) (m : ℕ → ℕ) (ks : List ℕ) → LieFrom 1 names → CommandIsOn names c → AreWellFormed names m → (command_meaning c n m ks).outcome ≢ too_large → AreWellFormed names (map_after m (command_meaning c n m ks).touches)
command_keeps names (command.One o) n m ks lie on well ne = op_keeps names lie o n m ks on well ne
command_keeps names (command.Block t) n m ks lie on well ne = term_preserves op_meaning (AreWellFormed names) t (each_on names (λ o h n m ks. op_keeps names lie o n m ks h) (operations t) on.1) n m ks well ne
