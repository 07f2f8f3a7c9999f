use Rattle.std.proofs.Common.{◌≡◌, ◌+◌, ◌<◌, ◌≤◌, ◌^◌, length, vec_capacity, vec_len}
use Rattle.kc_check.proofs.Parted.{HeldTo}
use Rattle.kc_check.specs.Walks.{now_of}
use Rattle.kc_script_bundle.specs.Script.{names_of}
use Rattle.kc_check.proofs.parting.read_state.Given as goal

abbrev pub invariant-loop-i : goal.invariant-loop-i
invariant-loop-i l = record {
  read : HeldTo (names_of l.bundle.objects) l.i l.fn.rest.bytes.now l.fn.rest.number (now_of l.lines.items) l.rest.bytes.now l.rest.number;
  room : l.rest.number + length l.rest.bytes.now < 2 ^ 32;
  long : vec_len l.lines ≡ l.i;
  space : length (names_of l.bundle.objects) ≤ vec_capacity l.lines;
}
