use Rattle.std.proofs.Common.{◌≡◌, ◌+◌, ◌<◌, ◌≤◌, ◌^◌, length, vec_capacity, vec_len}
use Rattle.kc_check.proofs.Parted.{PlacedTo}
use Rattle.kc_check.specs.Replays.{commands_of}
use Rattle.kc_check.proofs.parting.read_places.Given as goal

abbrev pub invariant-loop : goal.invariant-loop
invariant-loop l = record {
  read : PlacedTo (commands_of l.threads) l.counter l.fn.rest.bytes.now l.fn.rest.number l.places.items l.rest.bytes.now l.rest.number;
  room : l.rest.number + length l.rest.bytes.now < 2 ^ 32;
  long : vec_len l.places ≡ l.counter;
  space : l.count ≤ vec_capacity l.places;
}
