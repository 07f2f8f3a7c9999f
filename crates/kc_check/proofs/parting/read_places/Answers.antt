use Rattle.std.proofs.Common.{length, ap, subst, sym, arith}
use Rattle.std.specs.Prelude.{replicate}
use Rattle.kc_check.proofs.Forming.{if_err}
use Rattle.kc_check.proofs.Parted.{PlacedTo, placed_fails, placed_more, placed_none}
use Rattle.kc_check.specs.Forms.{place}
use Rattle.kc_check.specs.Reads.{FailsHowever}
use Rattle.kc_check.specs.Replays.{commands_of}
use Rattle.kc_check.proofs.parting.read_places.Goals as goal

pub loop-init : goal.loop-init
loop-init c = record {
  read = subst (λ ps. PlacedTo (commands_of c.args.threads.now) 0 c.args.rest.now.bytes.now c.args.rest.now.number ps c.args.rest.now.bytes.now c.args.rest.now.number) (sym c.requires.empty) (placed_none (commands_of c.args.threads.now) c.args.rest.now.bytes.now c.args.rest.now.number);
  room = c.requires.room;
  long = (let ok = c.args.places.now.ok.0 in let e = ap length c.requires.empty in omega (arith, ok, e));
  space = c.requires.space;
}

pub read_place-requires-clause-room : goal.read_place-requires-clause-room
read_place-requires-clause-room c = c.loop.invariant.room

pub loop-preserved : goal.loop-preserved
loop-preserved c = record {
  read = placed_more (commands_of c.args.threads.now) c.loop.counter c.args.rest.now.bytes.now c.args.rest.now.number c.loop.places.items c.push_reserved.new.self.items c.in_ok-place.place c.loop.rest.bytes.now c.loop.rest.number c.read_place.new.rest.bytes.now c.read_place.new.rest.number
      c.loop.invariant.read c.in_ok-place.ensures.is c.in_ok-place.ensures.next c.in_ok-place.ensures.number c.push_reserved.ensures.items;
  room = c.in_ok-place.ensures.room;
  long = (let a = c.push_reserved.ensures.len in let b = c.loop.invariant.long in omega (arith, a, b));
  space = (let a = c.push_reserved.ensures.capacity in let b = c.loop.invariant.space in omega (arith, a, b));
}

pub returns-in_err-place-clause-fails : goal.returns-in_err-place-clause-fails
returns-in_err-place-clause-fails c =
    if_err (FailsHowever (commands_of c.args.threads.now) (replicate c.args.count place) c.args.rest.now.bytes.now c.args.rest.now.number) c.from_residual.result c.in_err-place.field-0.0 c.from_residual.ensures.1
    (placed_fails (commands_of c.args.threads.now) c.loop.counter c.args.count c.args.rest.now.bytes.now c.args.rest.now.number c.loop.places.items c.loop.rest.bytes.now c.loop.rest.number c.in_err-place.field-0.0 c.loop-test.true c.loop.invariant.read c.in_err-place.ensures.lacks)
