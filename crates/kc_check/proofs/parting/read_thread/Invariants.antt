use Rattle.std.proofs.Common.{List, ◌≡◌, ◌+◌, ◌<◌, ◌≤◌, ◌^◌, length, vec_capacity, vec_len}
use Rattle.kc_check.specs.Forms.{GoesOverLines, thread_shapes}
use Rattle.kc_check.specs.Reads.{IsEndOf}
use Rattle.kc_check.specs.Walks.{lines_at}
use Rattle.kc_script_bundle.specs.declared.operation.Command.{Command}
use Rattle.kc_check.proofs.parting.read_thread.Given as goal

abbrev pub invariant-loop-k : goal.invariant-loop-k
invariant-loop-k l = record {
  came : (threads : List (List Command)) → GoesOverLines threads (thread_shapes l.thread 1 l.k) l.fn.rest.bytes.now l.fn.rest.number (lines_at l.text l.starts.items) l.rest.bytes.now l.rest.number;
  room : l.rest.number + length l.rest.bytes.now < 2 ^ 32;
  long : vec_len l.starts ≡ l.k;
  space : l.commands ≤ vec_capacity l.starts;
  end : IsEndOf l.text l.rest.bytes.now;
}
