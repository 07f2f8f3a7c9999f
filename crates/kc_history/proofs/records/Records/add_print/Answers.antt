use Rattle.std.proofs.Common.{◌≡◌, ◌-◌, ◌≤◌, ◌++◌, ◌∷◌, [], length, vec_len, sym, subst, arith}
use Rattle.kc_history.proofs.Kept.{joined_alone}
use Rattle.kc_history.specs.Joined.{blank_head, joined_records, record_of}
use Rattle.kc_history.specs.RecordsValue.{RecordsValue}
use Rattle.kc_history.proofs.records.Records.add_print.Goals as goal

pub returns-clause-items : goal.returns-clause-items
returns-clause-items c =
    let hs = c.self.inside.heads.items in
    let fs = c.self.inside.prints.prints in
    let f = c.args.footprint.now in
    let view = c.self.view_is in
    let none : vec_len c.self.inside.heads - length fs ≡ 0 = subst (λ (v : RecordsValue). v.spare ≡ 0) (sym view) c.requires.spare in
    let o = c.self.inside.heads.ok.0 in
    let room : length hs ≤ length fs = omega arith in
    rw c.add.ensures (subst (λ (v : RecordsValue). joined_records hs (fs ++ f ∷ []) ≡ v.items ++ record_of blank_head f ∷ []) view (joined_alone hs fs f room))
