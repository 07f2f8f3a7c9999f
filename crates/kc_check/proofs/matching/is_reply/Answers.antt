use Rattle.kc_history.specs.Text.{bare_record, reply_line}
use Rattle.kc_check.proofs.Matched.{prints_met}
use Rattle.kc_check.proofs.matching.is_reply.Goals as goal

pub returns : goal.returns
returns c = prints_met c.args.line.now (reply_line (bare_record c.args.head.now)) c.write_reply_line.result c.new-sink.result c.write_reply_line.new.sink c.is_met.result c.new-sink.ensures c.write_reply_line.ensures c.is_met.ensures
