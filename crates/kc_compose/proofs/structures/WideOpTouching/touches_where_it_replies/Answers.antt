use Rattle.kc_compose.proofs.Places.{wide_touches}
use Rattle.kc_compose.proofs.structures.WideOpTouching.touches_where_it_replies.Goals as goal

pub returns : goal.returns
returns c = wide_touches c.args.self.now.wide c.args.self.now.act
