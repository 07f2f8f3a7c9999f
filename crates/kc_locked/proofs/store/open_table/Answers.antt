use Rattle.std.proofs.Common.{◌≡◌, ◌∷◌, [], rules}
use Rattle.std.specs.Prelude.{sum}
use Rattle.kc_locked.proofs.Ends.{opens_on}
use Rattle.kc_locked.proofs.store.open_table.Goals as goal

pub new-requires : goal.new-requires
new-requires c =
    let values : c.in_ok-to_vec.field-0.items ≡ c.args.values.now = search rules in
    let shares : c.in_ok-to_vec-2.field-0.items ≡ c.args.shares.now = search rules in
    let spare : c.sum-spare.result ≡ sum c.args.shares.now = search rules in
    let slots : c.push_reserved.new.self.items ≡ c.in-Ok.held ∷ [] = search rules in
    opens_on c.args.values.now c.args.shares.now _ _ c.sum-spare.result c.in-Ok.held _ c.requires values shares spare c.in-Ok.ensures.ok slots
