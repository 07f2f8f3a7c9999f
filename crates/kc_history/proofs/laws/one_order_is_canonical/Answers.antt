use Rattle.kc_history.proofs.Choice.{none_ready, one_order}
use Rattle.kc_history.proofs.laws.one_order_is_canonical.Goals as goal

pub returns : goal.returns
returns c a ps qs x y = (one_order a ps qs (λ _. 0) (λ _. 0) x.stand x.versions y.stand y.versions x.chooses (none_ready a x.stand x.versions x.all) y.chooses (none_ready a y.stand y.versions y.all)).0
