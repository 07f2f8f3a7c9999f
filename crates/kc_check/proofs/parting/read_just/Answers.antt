use Rattle.std.proofs.Common.{◌≡◌, [], subst, sym, ◌∙◌}
use Rattle.kc_check.proofs.Forming.{no_other_first, none_first}
use Rattle.kc_check.proofs.Parted.{lacks_fault, other_line}
use Rattle.kc_check.specs.Forms.{just}
use Rattle.kc_check.specs.Laid.{IsLine}
use Rattle.kc_check.proofs.parting.read_just.Goals as goal

pub returns-in-None-clause-lacks : goal.returns-in-None-clause-lacks
returns-in-None-clause-lacks c = lacks_fault [] (just c.args.wanted.now) c.args.rest.now.bytes.now c.args.rest.now.number c.misformed-in-None.result c.misformed-in-None.ensures
    (λ first rest is. none_first c.args.rest.now.bytes.now first rest c.in-None.ensures.none (subst IsLine (sym is) c.requires.wanted))

pub returns-then-ne-clause-lacks : goal.returns-then-ne-clause-lacks
returns-then-ne-clause-lacks c = lacks_fault [] (just c.args.wanted.now) c.args.rest.now.bytes.now c.args.rest.now.number c.misformed.result c.misformed.ensures
    (λ first rest is e.
    let line = c.in-Some.line.now in
    let same : first ≡ line = no_other_first c.args.rest.now.bytes.now line c.next_line.new.self.bytes.now first rest c.in-Some.ensures.line (subst IsLine (sym is) c.requires.wanted) c.in-Some.ensures.next e in
    let equal : line ≡ c.args.wanted.now = sym same ∙ is in
    other_line line c.args.wanted.now c.if-ne.ensures equal)
