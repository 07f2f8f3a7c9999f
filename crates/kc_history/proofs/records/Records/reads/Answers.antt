use Rattle.std.proofs.Common.{◌≡◌, length, subst, ◌∙◌, arith}
use Rattle.kc_history.proofs.Kept.{joined_reads, length-joined}
use Rattle.kc_history.specs.Records.{reads_of}
use Rattle.kc_history.specs.RecordsValue.{RecordsValue}
use Rattle.kc_history.proofs.records.Records.reads.Goals as goal

pub reads-requires : goal.reads-requires
reads-requires c =
    let many : length c.args.self.now.items ≡ length c.self.inside.prints.prints = subst (λ (v : RecordsValue). length v.items ≡ length c.self.inside.prints.prints) c.self.view_is (length-joined c.self.inside.heads.items c.self.inside.prints.prints) in
    let lt = c.requires in
    omega arith

pub returns-clause-reads : goal.returns-clause-reads
returns-clause-reads c = subst (λ (v : RecordsValue). c.reads.result.now ≡ reads_of v.items c.args.index) c.self.view_is (c.reads.ensures.reads ∙ joined_reads c.self.inside.heads.items c.self.inside.prints.prints c.args.index)
