use Rattle.std.proofs.Common.{◌≡◌, subst}
use Rattle.kc_check.proofs.Forming.{no_other_first, none_first}
use Rattle.kc_check.proofs.Parted.{few_of, lacks_fault}
use Rattle.kc_check.specs.Forms.{NamesPlace, place}
use Rattle.kc_check.specs.Replays.{commands_of}
use Rattle.kc_check.proofs.Placed.{named_is_line}
use Rattle.kc_check.proofs.parting.read_place.Goals as goal

pub returns-in_default-clause-lacks : goal.returns-in_default-clause-lacks
returns-in_default-clause-lacks c = lacks_fault (commands_of c.args.threads.now) place c.args.rest.now.bytes.now c.args.rest.now.number c.misformed.result c.misformed.ensures
    (λ first rest named. none_first c.args.rest.now.bytes.now first rest c.in_default.ensures.none (named_is_line (commands_of c.args.threads.now) first (few_of c.args.threads.now c.requires.few c.requires.short) named))

pub returns-in-None-clause-lacks : goal.returns-in-None-clause-lacks
returns-in-None-clause-lacks c = lacks_fault (commands_of c.args.threads.now) place c.args.rest.now.bytes.now c.args.rest.now.number c.misformed-in-None.result c.misformed-in-None.ensures
    (λ first rest named e.
    let line = c.in-Some.line.now in
    let same : first ≡ line = no_other_first c.args.rest.now.bytes.now line c.next_line.new.self.bytes.now first rest c.in-Some.ensures.line (named_is_line (commands_of c.args.threads.now) first (few_of c.args.threads.now c.requires.few c.requires.short) named) c.in-Some.ensures.next e in
    c.in-None.ensures.none (subst (NamesPlace (commands_of c.args.threads.now)) same named))
