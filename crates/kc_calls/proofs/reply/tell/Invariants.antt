use Rattle.std.proofs.Common.{◌≡◌, length, take}
use Rattle.kc_calls.specs.Told.{replies_told}
use Rattle.kc_term.specs.Meaning.{items_of}
use Rattle.kc_calls.proofs.reply.tell.Given as goal

-- the first are told
abbrev pub invariant-loop-i : goal.invariant-loop-i
invariant-loop-i l = record {
  size : length l.replies ≡ length l.fn.replies;
  done : take l.i l.replies ≡ replies_told (items_of l.reply) l.i;
}
