use Rattle.kc_top.proofs.Complete.{says_in_order}
use Rattle.kc_top.proofs.laws.what_is_in_order_is_done.Goals as goal

pub returns : goal.returns
returns g c = λ words s s' f f' k k' served command end asked given source shelf sink h. says_in_order g.S.Source.left g.S.Source.faults g.S.Source.read_gives g.F.Shelf.files g.F.Shelf.faults g.F.Shelf.sure g.F.Shelf.fetch_gives g.K.Sink.written g.K.Sink.faults g.K.Sink.write_gives words s s' f f' k k' served command end asked given source shelf sink h
