use Rattle.std.proofs.Common.{rules}
use Rattle.kc_model.proofs.Pens.{prints_sink}
use Rattle.kc_script_bundle.proofs.state.write_object.Goals as goal

pub returns : goal.returns
returns g c = prints_sink c.new-pen.ensures.fresh c.put_line.ensures c.end.ensures.puts c.end.ensures.ok c.end.ensures.err (search rules)
