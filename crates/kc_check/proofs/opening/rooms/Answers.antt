use Rattle.std.proofs.Common.{◌≡◌, ap, arith, length}
use Rattle.kc_check.proofs.Opened.{all_empty, no_room, no_records, room_next, room_whole}
use Rattle.kc_check.proofs.opening.rooms.Goals as goal

pub loop-i-init : goal.loop-i-init
loop-i-init c = record { room = no_room c.args.limit c.args.threads.now c.in_ok-all.all.items c.in_ok-all.ensures.items; empty = no_records c.in_ok-all.all.items c.in_ok-all.ensures.items }

pub loop-i-preserved : goal.loop-i-preserved
loop-i-preserved c =
    let long = c.len-commands.ensures in
    let v = c.index-threads-i.result in
    let ok = v.ok.0 in
    let many : c.len-commands.result ≡ length v.items = omega (arith, long, ok) in
    record {
      room = room_next c.args.limit c.args.threads.now c.loop-i.i c.len-commands.result v c.in_ok-list.list c.loop-i.all.items c.push.new.self.items c.loop-i-test.true c.index-threads-i.is many c.loop-i.invariant.room c.in_ok-list.ensures c.in_ok-push.ensures.items;
      empty = all_empty c.in_ok-list.list c.loop-i.all.items c.push.new.self.items c.loop-i.invariant.empty (ap (λ r. r.items) c.in_ok-list.ensures) c.in_ok-push.ensures.items;
    }

pub returns-clause-room : goal.returns-clause-room
returns-clause-room c = room_whole c.args.limit c.args.threads.now c.loop-i.i c.loop-i.all.items c.loop-i-test.false c.loop-i.invariant.room

pub returns-clause-empty : goal.returns-clause-empty
returns-clause-empty c = c.loop-i.invariant.empty
