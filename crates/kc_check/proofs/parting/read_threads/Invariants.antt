use Rattle.std.proofs.Common.{◌≡◌, ◌+◌, ◌<◌, ◌^◌, drop, length, take}
use Rattle.kc_check.proofs.Parted.{ReadTo}
use Rattle.kc_check.specs.Reads.{HaveSpace, IsEndOf}
use Rattle.kc_check.specs.Replays.{commands_of}
use Rattle.kc_check.specs.Walks.{lines_in}
use Rattle.kc_check.proofs.parting.read_threads.Given as goal

abbrev pub invariant-loop-t : goal.invariant-loop-t
invariant-loop-t l = record {
  read : ReadTo l.threads l.t l.fn.rest.bytes.now l.fn.rest.number (lines_in l.text (take l.t l.replies)) l.rest.bytes.now l.rest.number;
  room : l.rest.number + length l.rest.bytes.now < 2 ^ 32;
  size : length l.replies ≡ length l.fn.replies;
  space : HaveSpace (drop l.t (commands_of l.threads)) (drop l.t l.replies);
  end : IsEndOf l.text l.rest.bytes.now;
}
