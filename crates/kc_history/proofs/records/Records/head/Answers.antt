use Rattle.std.proofs.Common.{◌≡◌, length, Some, slice_get, sym, ap, subst, ◌∙◌, arith}
use Rattle.std.specs.Option.{option_map}
use Rattle.kc_history.proofs.Kept.{joined_blank, joined_head, length-joined}
use Rattle.kc_history.specs.Records.{head_in}
use Rattle.kc_history.specs.RecordsValue.{RecordsValue}
use Rattle.kc_history.proofs.records.Records.head.Goals as goal

pub returns-then-index-len : goal.returns-then-index-len
returns-then-index-len c =
    let many : length c.args.self.now.items ≡ length c.self.inside.prints.prints = subst (λ (v : RecordsValue). length v.items ≡ length c.self.inside.prints.prints) c.self.view_is (length-joined c.self.inside.heads.items c.self.inside.prints.prints) in
    let lt = c.requires in
    let o = c.self.inside.heads.ok.0 in
    subst (λ (v : RecordsValue). option_map head_in (slice_get v.items c.args.index) ≡ Some c.index.result.now) c.self.view_is (joined_head c.self.inside.heads.items c.self.inside.prints.prints c.args.index c.index.result.now (omega arith) (omega arith) c.index.ensures)

pub returns-else-index-len : goal.returns-else-index-len
returns-else-index-len c =
    let many : length c.args.self.now.items ≡ length c.self.inside.prints.prints = subst (λ (v : RecordsValue). length v.items ≡ length c.self.inside.prints.prints) c.self.view_is (length-joined c.self.inside.heads.items c.self.inside.prints.prints) in
    let lt = c.requires in
    let o = c.self.inside.heads.ok.0 in
    subst (λ (v : RecordsValue). option_map head_in (slice_get v.items c.args.index) ≡ Some c.self.inside.blank) c.self.view_is (joined_blank c.self.inside.heads.items c.self.inside.prints.prints c.args.index (omega arith) (omega arith) ∙ ap Some (sym c.self.invariant.0))
