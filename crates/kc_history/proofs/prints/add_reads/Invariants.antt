use Rattle.std.proofs.Common.{◌≡◌, ◌+◌, ◌++◌, take, vec_len, vec_capacity}
use Rattle.kc_history.proofs.prints.add_reads.Given as goal

abbrev pub invariant-loop-read : goal.invariant-loop-read
invariant-loop-read l = record {
  items : l.all.items ≡ l.initial.all.items ++ take l.read-index l.more;
  len : vec_len l.all ≡ vec_len l.initial.all + l.read-index;
  capacity : vec_capacity l.all ≡ vec_capacity l.initial.all;
}
