-- Commands on objects that lie in order may be run.
use Rattle.std.proofs.Common.{◌≤◌, List, [], ◌∷◌, arith}
use Rattle.kc_model.specs.declared.plain_store.TheConstants.{MOST_LOCATIONS}
use Rattle.kc_script_bundle.specs.declared.operation.Command.{Command}
use Rattle.kc_script_bundle.specs.declared.operation.Op.{Op}
use Rattle.kc_term.specs.Fit.{Each}
use Rattle.kc_term.specs.Meaning.{greatest_end}
use Rattle.kc_term.specs.Tree.{operations}
use Rattle.kc_xt.proofs.Stay.{stays_one}
use Rattle.kc_xt.specs.Program.{replies}
use Rattle.kc_script_bundle.specs.declared.operation.Command.TheVariants as command
use Rattle.kc_script_bundle.proofs.Own.{first_of, behind_of, op_stays, op_end_within, op_fits}
use Rattle.kc_script_bundle.specs.Meaning.{op_program, op_end, command_end, CommandIsFit}
use Rattle.kc_script_bundle.specs.On.{IsOn, AllOn, CommandIsOn}
use Rattle.kc_script_bundle.specs.Script.{Names, LieFrom, next_from}

pub each_on : (names : Names) {P : Op → Type 0} → ((o : Op) → IsOn names o → P o) → (os : List Op) → AllOn names os → Each P os
each_on names f [] on = tt
each_on names f (o ∷ os) on = (f o on.0, each_on names f os on.1)

module _ (names : Names) (lie : LieFrom 1 names) where
  end_within : (os : List Op) → AllOn names os → greatest_end op_end os ≤ next_from 1 names
  end_within [] on = omega arith
  end_within (o ∷ os) on = omega (arith, op_end_within names lie o on.0, end_within os on.1)

  pub command_within : (c : Command) → CommandIsOn names c → command_end c ≤ next_from 1 names
  command_within (command.One o) on = op_end_within names lie o on
  command_within (command.Block t) on = end_within (operations t) on.1

  pub command_fits : next_from 1 names ≤ MOST_LOCATIONS → (c : Command) → CommandIsOn names c → CommandIsFit c
  command_fits within (command.One o) on = op_fits names lie within o on
  command_fits within (command.Block t) on = record {
    few = on.0;
    each = each_on names (op_fits names lie within) (operations t) on.1;
    single = each_on names (λ o h. stays_one (first_of o) (behind_of o) (op_program o replies) (op_stays o)) (operations t) on.1;
  }
