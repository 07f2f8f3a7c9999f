use Rattle.std.proofs.Common.{◌<◌, ◌≤◌, ℕ, List, length, subst, sym, ap, ◌∙◌, arith}
use Rattle.std.proofs.lemmas.List.{length-map}
use Rattle.kc_script_bundle.proofs.Entries.{entry_at}
use Rattle.kc_script_bundle.specs.Script.{named, names_of}
use Rattle.kc_script_bundle.specs.declared.object.Object.{Object}
use Rattle.kc_script_bundle.specs.declared.operation.Command.{Command}
use Rattle.kc_check.proofs.Forming.{if_err}
use Rattle.kc_check.proofs.Parted.{HeldTo, held_fails, held_more, held_none, held_shapes, held_whole}
use Rattle.kc_check.specs.Laid.{ByteIsMissing}
use Rattle.kc_check.specs.Reads.{FailsHowever}
use Rattle.kc_check.specs.Walks.{now_of}
use Rattle.kc_check.proofs.parting.read_state.Goals as goal

pub loop-i-init : goal.loop-i-init
loop-i-init c = record {
  read = subst (λ ls. HeldTo (names_of c.args.bundle.now.objects) 0 c.args.rest.now.bytes.now c.args.rest.now.number (now_of ls) c.args.rest.now.bytes.now c.args.rest.now.number) (sym c.requires.empty) (held_none (names_of c.args.bundle.now.objects) c.args.rest.now.bytes.now c.args.rest.now.number);
  room = c.requires.room;
  long = (let ok = c.args.lines.now.ok.0 in let e = ap length c.requires.empty in omega (arith, ok, e));
  space = c.requires.space;
}

pub read_held-requires-clause-name : goal.read_held-requires-clause-name
read_held-requires-clause-name c =
    let m = c.args.bundle.now.objects in
    let e : List ℕ × Object = named (c.in-Some.name.now, c.in-Some.field-0-1.now) in
    let at = entry_at named m.entries c.loop-i.i (c.in-Some.name.now, c.in-Some.field-0-1.now) c.in-Some.ensures.entry in
    let lt : c.loop-i.i < length (names_of m) = omega (arith, length-map m.entries named, c.len-i-end.ensures.len) in
    subst (ByteIsMissing 10) (ap (λ (x : List ℕ × Object). x.0) at ∙ sym c.as_bytes.ensures.value) (c.requires.names c.loop-i.i e lt)

pub returns-in_err-line-clause-fails : goal.returns-in_err-line-clause-fails
returns-in_err-line-clause-fails c =
    let m = c.args.bundle.now.objects in
    let e : List ℕ × Object = named (c.in-Some.name.now, c.in-Some.field-0-1.now) in
    let at = entry_at named m.entries c.loop-i.i (c.in-Some.name.now, c.in-Some.field-0-1.now) c.in-Some.ensures.entry in
    let lt : c.loop-i.i < length (names_of m) = omega (arith, length-map m.entries named, c.len-i-end.ensures.len) in
    if_err (λ d. (threads : List (List Command)) → FailsHowever threads (held_shapes (names_of m)) c.args.rest.now.bytes.now c.args.rest.now.number d) c.from_residual.result c.in_err-line.field-0.0 c.from_residual.ensures.1
    (held_fails (names_of m) c.loop-i.i e c.as_bytes.result.now c.args.rest.now.bytes.now c.args.rest.now.number (now_of c.loop-i.lines.items) c.loop-i.rest.bytes.now c.loop-i.rest.number c.in_err-line.field-0.0 lt at c.as_bytes.ensures.value c.loop-i.invariant.read c.in_err-line.ensures.lacks)

pub loop-i-preserved : goal.loop-i-preserved
loop-i-preserved c =
    let m = c.args.bundle.now.objects in
    let e : List ℕ × Object = named (c.in-Some.name.now, c.in-Some.field-0-1.now) in
    let at = entry_at named m.entries c.loop-i.i (c.in-Some.name.now, c.in-Some.field-0-1.now) c.in-Some.ensures.entry in
    let lt : c.loop-i.i < length (names_of m) = omega (arith, length-map m.entries named, c.len-i-end.ensures.len) in
    record {
      read = held_more (names_of m) c.loop-i.i e c.as_bytes.result.now c.args.rest.now.bytes.now c.args.rest.now.number c.loop-i.lines.items c.push_reserved.new.self.items c.in_ok-line.line c.loop-i.rest.bytes.now c.loop-i.rest.number c.read_held.new.rest.bytes.now c.read_held.new.rest.number
          lt at c.as_bytes.ensures.value c.loop-i.invariant.read c.in_ok-line.ensures.is c.in_ok-line.ensures.next c.in_ok-line.ensures.number c.push_reserved.ensures.items;
      room = c.in_ok-line.ensures.room;
      long = (let a = c.push_reserved.ensures.len in let b = c.loop-i.invariant.long in omega (arith, a, b));
      space = (let a = c.push_reserved.ensures.capacity in let b = c.loop-i.invariant.space in omega (arith, a, b));
    }

pub returns-clause-goes : goal.returns-clause-goes
returns-clause-goes c =
    let past = c.loop-i-test.false in
    let le : length (names_of c.args.bundle.now.objects) ≤ c.loop-i.i = omega (arith, length-map c.args.bundle.now.objects.entries named, c.len-i-end.ensures.len, past) in
    held_whole (names_of c.args.bundle.now.objects) c.loop-i.i c.args.rest.now.bytes.now c.args.rest.now.number (now_of c.loop-i.lines.items) c.loop-i.rest.bytes.now c.loop-i.rest.number le c.loop-i.invariant.read

pub push_reserved-requires : goal.push_reserved-requires
push_reserved-requires c =
    let a = c.loop-i.invariant.long in
    let b = c.loop-i.invariant.space in
    let lt : c.loop-i.i < length (names_of c.args.bundle.now.objects) = omega (arith, length-map c.args.bundle.now.objects.entries named, c.len-i-end.ensures.len) in
    omega (arith, a, b, lt)
