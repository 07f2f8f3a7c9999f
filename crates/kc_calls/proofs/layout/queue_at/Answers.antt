use Rattle.std.proofs.Common.{sym, ap, ◌∙◌, arith}
use Rattle.kc_model.specs.declared.footprint.Loc.{Loc}
use Rattle.kc_calls.proofs.Placing.{unsized, size, sized_is, unlaid, queue_laid}
use Rattle.kc_calls.specs.Structures.{call_queue_at}
use Rattle.kc_calls.proofs.layout.queue_at.Goals as goal

pub returns-then-not-is_size : goal.returns-then-not-is_size
unfolding call_queue_at
returns-then-not-is_size c = sym (unsized _ _ _ _ c.is_size.ensures c.if-not-is_size.true)

pub returns-then-not-has_room : goal.returns-then-not-has_room
unfolding call_queue_at
returns-then-not-has_room c = sym (sized_is _ _ _ _ c.is_size.ensures c.if-not-is_size.false ∙ unlaid _ _ _ _ c.has_room.ensures c.if-not-has_room.true (omega arith))

pub returns : goal.returns
returns c = sym (queue_laid c.layout.result _ _ (ap (λ (l : Loc). l.0) c.layout.ensures.base) c.layout.ensures.cap (size _ _ _ c.is_size.ensures c.if-not-is_size.false).1)
