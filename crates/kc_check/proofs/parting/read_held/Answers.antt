use Rattle.std.proofs.Common.{◌≡◌, [], subst}
use Rattle.kc_check.proofs.Forming.{no_other_first, none_first}
use Rattle.kc_check.proofs.Matched.{not_both}
use Rattle.kc_check.proofs.Parted.{lacks_fault}
use Rattle.kc_check.proofs.Spaced.{held_is_line}
use Rattle.kc_check.specs.Forms.{IsHeld, holds}
use Rattle.kc_check.proofs.parting.read_held.Goals as goal

pub returns-in_default-clause-lacks : goal.returns-in_default-clause-lacks
returns-in_default-clause-lacks c = lacks_fault [] (holds c.args.name.now) c.args.rest.now.bytes.now c.args.rest.now.number c.misformed.result c.misformed.ensures
    (λ first rest held. none_first c.args.rest.now.bytes.now first rest c.in_default.ensures.none (held_is_line c.args.name.now first c.requires.name held))

pub returns-then-not-is_held-clause-lacks : goal.returns-then-not-is_held-clause-lacks
returns-then-not-is_held-clause-lacks c = lacks_fault [] (holds c.args.name.now) c.args.rest.now.bytes.now c.args.rest.now.number c.misformed-then-not-is_held.result c.misformed-then-not-is_held.ensures
    (λ first rest held e.
    let line = c.in-Some.line.now in
    let same : first ≡ line = no_other_first c.args.rest.now.bytes.now line c.next_line.new.self.bytes.now first rest c.in-Some.ensures.line (held_is_line c.args.name.now first c.requires.name held) c.in-Some.ensures.next e in
    not_both c.is_held.result _ (c.is_held.ensures.1 (subst (IsHeld c.args.name.now) same held)) c.if-not-is_held.true)
