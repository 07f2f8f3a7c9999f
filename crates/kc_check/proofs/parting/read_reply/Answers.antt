use Rattle.std.proofs.Common.{◌≡◌, subst, arith}
use Rattle.kc_check.proofs.Forming.{no_other_first, none_first, reply_is_line}
use Rattle.kc_check.proofs.Matched.{not_both}
use Rattle.kc_check.proofs.Parted.{reply_fault}
use Rattle.kc_check.specs.Forms.{IsReply}
use Rattle.kc_check.proofs.parting.read_reply.Goals as goal

pub returns-in_default-clause-lacks : goal.returns-in_default-clause-lacks
returns-in_default-clause-lacks c = reply_fault c.args.thread c.args.number c.args.rest.now.bytes.now c.args.rest.now.number c.misformed.result c.misformed.ensures
    (λ first rest says. none_first c.args.rest.now.bytes.now first rest c.in_default.ensures.none (reply_is_line c.args.thread c.args.number first (omega arith) (omega arith) says))

pub returns-then-not-is_reply_line-clause-lacks : goal.returns-then-not-is_reply_line-clause-lacks
returns-then-not-is_reply_line-clause-lacks c = reply_fault c.args.thread c.args.number c.args.rest.now.bytes.now c.args.rest.now.number c.misformed-then-not-is_reply_line.result c.misformed-then-not-is_reply_line.ensures
    (λ first rest says e.
    let line = c.in-Some.line.now in
    let same : first ≡ line = no_other_first c.args.rest.now.bytes.now line c.next_line.new.self.bytes.now first rest c.in-Some.ensures.line (reply_is_line c.args.thread c.args.number first (omega arith) (omega arith) says) c.in-Some.ensures.next e in
    not_both c.is_reply_line.result _ (c.is_reply_line.ensures.1 (subst (IsReply c.args.thread c.args.number) same says)) c.if-not-is_reply_line.true)
