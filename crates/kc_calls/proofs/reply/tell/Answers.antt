use Rattle.std.proofs.Common.{refl, ap, ◌∙◌, arith}
use Rattle.std.proofs.lemmas.List.{length-set}
use Rattle.std.specs.Prelude.{slice_get}
use Rattle.kc_calls.proofs.Filling.{filled_more, filled_all}
use Rattle.kc_calls.specs.Told.{places_from, told_or_none}
use Rattle.kc_term.specs.Meaning.{items_of}
use Rattle.kc_calls.proofs.reply.tell.Goals as goal

pub loop-i-init : goal.loop-i-init
unfolding places_from
loop-i-init c = record { size = refl; done = refl }

pub loop-i-preserved : goal.loop-i-preserved
loop-i-preserved c = record {
  size = length-set c.loop-i.replies c.loop-i.i c.reply_at.result ∙ c.loop-i.invariant.size;
  done = filled_more (λ i. told_or_none (slice_get (items_of c.args.reply.now) i)) c.loop-i.replies c.loop-i.i c.reply_at.result (omega (arith, c.loop-i.invariant.size, c.loop-i-test.true)) c.reply_at.ensures c.loop-i.invariant.done;
}

pub returns : goal.returns
returns c = filled_all (λ i. told_or_none (slice_get (items_of c.args.reply.now) i)) c.loop-i.replies c.loop-i.i (let e = c.loop-i.auto.i-end in omega (arith, c.loop-i.invariant.size, c.loop-i-test.false, e)) c.loop-i.invariant.done ∙ ap (places_from (λ i. told_or_none (slice_get (items_of c.args.reply.now) i)) 0) c.loop-i.invariant.size
