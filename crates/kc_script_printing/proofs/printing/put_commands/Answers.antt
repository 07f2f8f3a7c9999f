use Rattle.std.proofs.Common.{◌<◌, ◌≤◌, length, refl, ◌∙◌, arith}
use Rattle.std.proofs.lemmas.List.{drop_all}
use Rattle.kc_model.proofs.Pens.{owes_all, owes_then, owes_none}
use Rattle.kc_script_printing.proofs.Texts.{commands_next}
use Rattle.kc_script_bundle.specs.Script.{names_of}
use Rattle.kc_script_printing.proofs.printing.put_commands.Goals as goal

pub loop-command-init : goal.loop-command-init
loop-command-init g c = record { same_sink = refl; owes = owes_all _ _ }

pub loop-command-preserved : goal.loop-command-preserved
loop-command-preserved g c =
    let here : c.loop-command.command-index < length c.args.commands.now = omega arith in
    record {
      same_sink = c.put_command.ensures.same_sink ∙ c.loop-command.invariant.same_sink;
      owes = owes_then c.put_command.ensures.asks (rw (commands_next (names_of c.args.objects.now) c.args.commands.now c.loop-command.command-index c.command-item.result here, ← c.command-item.is) at c.loop-command.invariant.owes);
    }

pub returns : goal.returns
returns g c =
    let past : length c.args.commands.now ≤ c.loop-command.command-index = omega arith in
    record { same_sink = c.loop-command.invariant.same_sink; asks = owes_none (rw (drop_all c.loop-command.command-index c.args.commands.now past) at c.loop-command.invariant.owes) }
