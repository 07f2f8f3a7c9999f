use Rattle.std.proofs.Common.{[], ◌∷◌}
use Rattle.kc_model.proofs.Pens.{puts_then}
use Rattle.kc_script.specs.Canonical.{canonical_op_line}
use Rattle.kc_script_bundle.specs.Script.{names_of}
use Rattle.kc_script_printing.proofs.Texts.{texts_join}
use Rattle.kc_script_printing.proofs.printing.put_pair.Goals as goal

pub returns : goal.returns
returns g c =
    let names = names_of c.args.objects.now in
    rw (texts_join (canonical_op_line names c.args.a ∷ []) (canonical_op_line names c.args.b ∷ [])) (puts_then c.put_op_line.ensures c.put_op_line-2.ensures)
