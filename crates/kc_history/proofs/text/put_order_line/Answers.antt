use Rattle.std.proofs.Common.{rules}
use Rattle.kc_history.proofs.Places.{head_line, index_within}
use Rattle.kc_model.proofs.Pens.{puts_then}
use Rattle.kc_history.proofs.text.put_order_line.Goals as goal

pub head-requires : goal.head-requires
head-requires g c = search (rules, index_within c.args.records.now c.args.place.thread c.args.place.index c.index-records-place.result c.index-records-place.is c.requires)

pub returns : goal.returns
returns g c = rw (← head_line c.args.records.now c.args.place.thread c.args.place.index c.index-records-place.result c.head.result.now c.index-records-place.is c.requires c.head.ensures) (puts_then c.put_label.ensures c.put.ensures)
