use Rattle.std.proofs.Common.{◌≡◌, ◌-◌, ◌<◌, ◌++◌, ◌∷◌, [], length, slice_set, vec_len, sym, subst, arith}
use Rattle.kc_history.proofs.Kept.{joined_more}
use Rattle.kc_history.specs.Joined.{joined_records, record_of}
use Rattle.kc_history.specs.RecordsValue.{RecordsValue}
use Rattle.kc_history.specs.declared.record.Head.{Head}
use Rattle.kc_history.proofs.records.Records.add.Goals as goal

pub returns-clause-items : goal.returns-clause-items
returns-clause-items c =
    let hs = c.self.inside.heads.items in
    let fs = c.self.inside.prints.prints in
    let f = c.args.footprint.now in
    let h : Head = record { thread = c.args.thread; mark = c.args.mark; answer = c.args.answer } in
    let view = c.self.view_is in
    let spare : 0 < vec_len c.self.inside.heads - length fs = subst (λ (v : RecordsValue). 0 < v.spare) (sym view) c.requires.spare in
    let o = c.self.inside.heads.ok.0 in
    let room : length fs < length hs = omega arith in
    rw (c.add.ensures, c.len.ensures) (subst (λ (v : RecordsValue). joined_records (slice_set hs (length fs) h) (fs ++ f ∷ []) ≡ v.items ++ record_of h f ∷ []) view (joined_more hs fs h f room))
