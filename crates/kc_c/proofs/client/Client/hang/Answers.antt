use Rattle.std.proofs.Common.{◌≡◌, rules}
use Rattle.kc_c.proofs.Hangs.{hangs_on_store}
use Rattle.kc_c.proofs.client.Client.hang.Goals as goal

pub hanging_on-requires-clause-below : goal.hanging_on-requires-clause-below
hanging_on-requires-clause-below c =
    let is : c.replace.result ≡ c.args.self.now.standing = search rules in
    rw is (hangs_on_store c.args.self.now.standing _ c.args.self.now.locations c.args.self.now.footprint c.args.self.now.of c.args.self.now.size (search rules))
