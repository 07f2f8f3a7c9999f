use Rattle.std.proofs.lemmas.Bool.{ne_eqb}
use Rattle.kc_model.specs.declared.footprint.TheConstants.{MOST}
use Rattle.std.proofs.lemmas.List.{append-nil}
use Rattle.kc_model.proofs.Pens.{puts_then}
use Rattle.kc_script_printing.proofs.printer.put_heading.Goals as goal

pub returns-then-limit : goal.returns-then-limit
returns-then-limit g c =
    let all = puts_then c.put.ensures (puts_then c.put_numeral.ensures c.put-then-limit.ensures) in
    rw (ne_eqb c.args.limit MOST c.if-limit.true, append-nil) all
