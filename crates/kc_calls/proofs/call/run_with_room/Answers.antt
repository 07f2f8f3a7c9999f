use Rattle.std.proofs.Common.{sym}
use Rattle.kc_calls.proofs.Room.{op_touches}
use Rattle.kc_compose.proofs.WaitLaw.{obeys_wait_says, obeys_wait_waits}
use Rattle.kc_compose.specs.declared.sort.Sort.TheVariants.{Full}
use Rattle.kc_script_bundle.specs.Meaning.{op_end, op_meaning}
use Rattle.kc_calls.proofs.call.run_with_room.Goals as goal

pub returns-then-has-clause-law : goal.returns-then-has-clause-law
returns-then-has-clause-law g c =
    let o = c.args.operation.now in
    obeys_wait_waits (op_end o) Full (op_meaning o) c.in_ok-reply.reply _ _ (op_touches o) (sym c.if-has.ensures) c.in_ok-reply.ensures.law

pub returns-else-has-clause-law : goal.returns-else-has-clause-law
returns-else-has-clause-law g c =
    let o = c.args.operation.now in
    obeys_wait_says (op_end o) Full (op_meaning o) c.in_ok-reply.reply _ _ (sym c.if-has.ensures) c.in_ok-reply.ensures.law
