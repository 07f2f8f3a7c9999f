use Rattle.std.proofs.Common.{rules}
use Rattle.kc_model.proofs.Pens.{prints_sink}
use Rattle.kc_model.specs.Store.{store_of}
use Rattle.kc_script_bundle.proofs.Standing.{all_show}
use Rattle.kc_script_bundle.specs.Script.{names_of}
use Rattle.kc_xt.specs.Meaning.{values}
use Rattle.kc_top.proofs.run.write_run.Goals as goal

pub returns : goal.returns
returns g c = λ contents stand.
    let text = all_show (names_of c.args.bundle.now.objects) (values (store_of c.args.ran.now.store)) contents stand in
    prints_sink c.new-pen.ensures.fresh (rw text at c.put_run.ensures) c.end.ensures.puts c.end.ensures.ok c.end.ensures.err (search rules)
