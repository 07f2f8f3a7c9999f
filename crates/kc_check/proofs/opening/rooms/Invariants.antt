use Rattle.std.proofs.Common.{◌≡◌, [], All, take}
use Rattle.kc_check.specs.Replays.{HaveRoom, commands_of}
use Rattle.kc_history.specs.RecordsValue.{RecordsValue}
use Rattle.kc_check.proofs.opening.rooms.Given as goal

abbrev pub invariant-loop-i : goal.invariant-loop-i
invariant-loop-i l = record {
  room : HaveRoom l.limit 1 (commands_of (take l.i l.threads)) l.all.items;
  empty : All (λ (v : RecordsValue). v.items ≡ []) l.all.items;
}
