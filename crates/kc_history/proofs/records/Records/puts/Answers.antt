use Rattle.std.proofs.Common.{◌≡◌, length, subst, ◌∙◌, arith}
use Rattle.kc_history.proofs.Kept.{joined_puts, length-joined}
use Rattle.kc_history.specs.Records.{puts_of}
use Rattle.kc_history.specs.RecordsValue.{RecordsValue}
use Rattle.kc_history.proofs.records.Records.puts.Goals as goal

pub puts-requires : goal.puts-requires
puts-requires c =
    let many : length c.args.self.now.items ≡ length c.self.inside.prints.prints = subst (λ (v : RecordsValue). length v.items ≡ length c.self.inside.prints.prints) c.self.view_is (length-joined c.self.inside.heads.items c.self.inside.prints.prints) in
    let lt = c.requires in
    omega arith

pub returns-clause-puts : goal.returns-clause-puts
returns-clause-puts c = subst (λ (v : RecordsValue). c.puts.result.now ≡ puts_of v.items c.args.index) c.self.view_is (c.puts.ensures.puts ∙ joined_puts c.self.inside.heads.items c.self.inside.prints.prints c.args.index)
