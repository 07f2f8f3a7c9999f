use Rattle.std.proofs.Common.{rules}
use Rattle.kc_model.proofs.Pens.{prints_sink, puts_then}
use Rattle.kc_text_run.proofs.writing.write_lines.Goals as goal

pub returns : goal.returns
returns g c = prints_sink c.new-pen.ensures.fresh (puts_then c.put_lines.ensures c.put_lines-2.ensures) c.end.ensures.puts c.end.ensures.ok c.end.ensures.err (search rules)
