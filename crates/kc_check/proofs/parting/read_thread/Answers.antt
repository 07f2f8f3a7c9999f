use Rattle.std.proofs.Common.{◌≡◌, ℕ, length, refl, ◌-◌, ◌+◌, ◌++◌, ◌∷◌, [], List, sym, ap, subst, ◌∙◌, arith}
use Rattle.kc_script_bundle.specs.declared.operation.Command.{Command}
use Rattle.kc_check.proofs.Forming.{goes_more, if_err, reply_is_line, shapes_more, thread_lacks}
use Rattle.kc_check.proofs.Starts.{end_on, line_again, starts_more}
use Rattle.kc_check.specs.Forms.{GoesOverLines, IsReply, Shape, answers, thread_shapes}
use Rattle.kc_check.specs.Reads.{FailsHowever}
use Rattle.kc_check.specs.Walks.{lines_at}
use Rattle.kc_check.proofs.parting.read_thread.Goals as goal

pub returns-in_err-read_reply-clause-fails : goal.returns-in_err-read_reply-clause-fails
returns-in_err-read_reply-clause-fails c =
    if_err (λ e. (threads : List (List Command)) → FailsHowever threads (thread_shapes c.args.thread 1 c.args.commands) c.args.rest.now.bytes.now c.args.rest.now.number e) c.from_residual.result c.in_err-read_reply.field-0.0 c.from_residual.ensures.1
    (λ threads. thread_lacks threads c.args.thread c.loop-k.k c.args.commands c.args.rest.now.number c.loop-k.rest.number c.in_err-read_reply.field-0.0 c.args.rest.now.bytes.now c.loop-k.rest.bytes.now (lines_at c.args.text.now c.loop-k.starts.items) c.loop-k-test.true (c.loop-k.invariant.came threads) c.in_err-read_reply.ensures.lacks)

pub loop-k-preserved : goal.loop-k-preserved
loop-k-preserved c =
    let start : ℕ = length c.args.text.now - length c.loop-k.rest.bytes.now in
    let line = c.in_ok-read_reply.field-0.now in
    let says = subst (λ i. IsReply c.args.thread i line) (let e : c.loop-k.k + 1 ≡ 1 + c.loop-k.k = omega arith in e) c.in_ok-read_reply.ensures.says in
    let again = line_again c.args.text.now c.loop-k.rest.bytes.now line c.read_reply.new.rest.bytes.now start c.loop-k.invariant.end c.in_ok-read_reply.ensures.next (reply_is_line c.args.thread (1 + c.loop-k.k) line (omega arith) (omega arith) says) refl in
    record {
      came = λ threads.
          let more = goes_more threads (thread_shapes c.args.thread 1 c.loop-k.k) (answers c.args.thread (1 + c.loop-k.k)) c.args.rest.now.bytes.now c.args.rest.now.number (lines_at c.args.text.now c.loop-k.starts.items) c.loop-k.rest.bytes.now c.loop-k.rest.number c.in_ok-read_reply.field-0.now c.read_reply.new.rest.bytes.now c.read_reply.new.rest.number
          (c.loop-k.invariant.came threads) says c.in_ok-read_reply.ensures.next c.in_ok-read_reply.ensures.number in
          subst (λ (ks : List Shape). GoesOverLines threads ks c.args.rest.now.bytes.now c.args.rest.now.number (lines_at c.args.text.now c.push_reserved.new.self.items) c.read_reply.new.rest.bytes.now c.read_reply.new.rest.number) (sym (shapes_more c.args.thread 1 c.loop-k.k))
          (subst (λ ls. GoesOverLines threads (thread_shapes c.args.thread 1 c.loop-k.k ++ answers c.args.thread (1 + c.loop-k.k) ∷ []) c.args.rest.now.bytes.now c.args.rest.now.number ls c.read_reply.new.rest.bytes.now c.read_reply.new.rest.number) (sym (ap (lines_at c.args.text.now) c.push_reserved.ensures.items ∙ starts_more c.args.text.now c.loop-k.starts.items start line again)) more);
      room = c.in_ok-read_reply.ensures.room;
      long = (let a = c.push_reserved.ensures.len in let b = c.loop-k.invariant.long in omega (arith, a, b));
      space = (let a = c.push_reserved.ensures.capacity in let b = c.loop-k.invariant.space in omega (arith, a, b));
      end = end_on c.args.text.now c.loop-k.rest.bytes.now line c.read_reply.new.rest.bytes.now c.loop-k.invariant.end c.in_ok-read_reply.ensures.next;
    }

pub push_reserved-requires : goal.push_reserved-requires
push_reserved-requires c = let a = c.loop-k.invariant.long in let b = c.loop-k.invariant.space in let lt = c.loop-k-test.true in omega (arith, a, b, lt)

pub returns-clause-goes : goal.returns-clause-goes
returns-clause-goes c = λ threads. subst (λ i. GoesOverLines threads (thread_shapes c.args.thread 1 i) c.args.rest.now.bytes.now c.args.rest.now.number (lines_at c.args.text.now c.loop-k.starts.items) c.loop-k.rest.bytes.now c.loop-k.rest.number) (let past = c.loop-k-test.false in let within = c.loop-k.auto.k-end in let e : c.loop-k.k ≡ c.args.commands = omega arith in e) (c.loop-k.invariant.came threads)
