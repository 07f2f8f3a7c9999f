use Rattle.std.proofs.Common.{sym, ap, arith}
use Rattle.kc_model.specs.declared.footprint.Loc.{Loc}
use Rattle.kc_calls.proofs.Placing.{unlaid, promise_laid}
use Rattle.kc_calls.specs.Structures.{call_promise_at}
use Rattle.kc_calls.proofs.layout.promise_at.Goals as goal

pub returns-then-not-has_room : goal.returns-then-not-has_room
unfolding call_promise_at
returns-then-not-has_room c = sym (unlaid _ _ _ _ c.has_room.ensures c.if-not-has_room.true (omega arith))

pub returns : goal.returns
returns c = sym (promise_laid c.layout.result _ (ap (λ (l : Loc). l.0) c.layout.ensures))
