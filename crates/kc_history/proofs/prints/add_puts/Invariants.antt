use Rattle.std.proofs.Common.{◌≡◌, ◌+◌, ◌++◌, take, vec_len, vec_capacity}
use Rattle.kc_history.proofs.prints.add_puts.Given as goal

abbrev pub invariant-loop-put : goal.invariant-loop-put
invariant-loop-put l = record {
  items : l.all.items ≡ l.initial.all.items ++ take l.put-index l.more;
  len : vec_len l.all ≡ vec_len l.initial.all + l.put-index;
  capacity : vec_capacity l.all ≡ vec_capacity l.initial.all;
}
