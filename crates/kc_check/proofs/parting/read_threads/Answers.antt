use Rattle.std.proofs.Common.{◌≡◌, ◌<◌, length, ◌∙◌, refl, arith}
use Rattle.std.proofs.Math.ListN.{length-set}
use Rattle.kc_check.proofs.Forming.{if_err}
use Rattle.kc_check.proofs.Parted.{read_fails, read_none}
use Rattle.kc_check.proofs.Spaces.{commands_many, filled_more, filled_whole, space_behind, space_here, space_long}
use Rattle.kc_check.specs.Forms.{replies_shapes}
use Rattle.kc_check.specs.Reads.{FailsHowever}
use Rattle.kc_check.specs.Replays.{commands_of}
use Rattle.kc_check.specs.Walks.{lines_in}
use Rattle.std.proofs.Common.{take}
use Rattle.kc_check.proofs.parting.read_threads.Goals as goal

pub loop-t-init : goal.loop-t-init
loop-t-init c = record {
  read = read_none c.args.threads.now c.args.rest.now.bytes.now c.args.rest.now.number;
  room = c.requires.room;
  size = refl;
  space = c.requires.space;
  end = c.requires.end;
}

pub bounds-replies-t : goal.bounds-replies-t
bounds-replies-t c =
    let a = space_long (commands_of c.args.threads.now) c.args.replies.now c.requires.space in
    let b = commands_many c.args.threads.now in
    let d = c.loop-t.invariant.size in
    let lt = c.loop-t-test.true in
    omega (arith, a, b, d, lt)

pub read_thread-requires-clause-empty : goal.read_thread-requires-clause-empty
read_thread-requires-clause-empty c =
    let v = c.index-threads-t.result in
    let ok = v.ok.0 in
    let long = c.len.ensures in
    (space_here c.loop-t.t c.len.result c.args.threads.now c.loop-t.replies v c.index-replies-t.result c.loop-t-test.true c.loop-t.invariant.space c.index-threads-t.is (omega (arith, long, ok))).0

pub read_thread-requires-clause-space : goal.read_thread-requires-clause-space
read_thread-requires-clause-space c =
    let v = c.index-threads-t.result in
    let ok = v.ok.0 in
    let long = c.len.ensures in
    (space_here c.loop-t.t c.len.result c.args.threads.now c.loop-t.replies v c.index-replies-t.result c.loop-t-test.true c.loop-t.invariant.space c.index-threads-t.is (omega (arith, long, ok))).1

pub loop-t-preserved : goal.loop-t-preserved
loop-t-preserved c =
    let v = c.index-threads-t.result in
    let ok = v.ok.0 in
    let long = c.len.ensures in
    let many : c.len.result ≡ length v.items = omega (arith, long, ok) in
    let all = space_long (commands_of c.args.threads.now) c.args.replies.now c.requires.space in
    let count = commands_many c.args.threads.now in
    let size = c.loop-t.invariant.size in
    let lt = c.loop-t-test.true in
    let within : c.loop-t.t < length c.loop-t.replies = omega (arith, all, count, size, lt) in
    record {
      read = filled_more c.args.text.now c.args.threads.now c.loop-t.t c.len.result v c.args.rest.now.bytes.now c.args.rest.now.number c.loop-t.replies c.read_thread.new.starts c.loop-t.rest.bytes.now c.loop-t.rest.number c.read_thread.new.rest.bytes.now c.read_thread.new.rest.number
          c.loop-t-test.true within c.index-threads-t.is many c.loop-t.invariant.read c.in_ok-read_thread.ensures.goes;
      room = c.in_ok-read_thread.ensures.room;
      size = length-set c.loop-t.replies c.loop-t.t c.read_thread.new.starts ∙ size;
      space = space_behind c.loop-t.t c.args.threads.now c.loop-t.replies v c.index-replies-t.result c.read_thread.new.starts c.loop-t-test.true c.loop-t.invariant.space;
      end = c.in_ok-read_thread.ensures.end;
    }

pub read_thread-requires-clause-end : goal.read_thread-requires-clause-end
read_thread-requires-clause-end c = c.loop-t.invariant.end

pub returns-in_err-read_thread-clause-fails : goal.returns-in_err-read_thread-clause-fails
returns-in_err-read_thread-clause-fails c =
    let v = c.index-threads-t.result in
    let ok = v.ok.0 in
    let long = c.len.ensures in
    let many : c.len.result ≡ length v.items = omega (arith, long, ok) in
    if_err (FailsHowever (commands_of c.args.threads.now) (replies_shapes 1 (commands_of c.args.threads.now)) c.args.rest.now.bytes.now c.args.rest.now.number) c.from_residual.result c.in_err-read_thread.field-0.0 c.from_residual.ensures.1
    (read_fails c.args.threads.now c.loop-t.t c.len.result v c.args.rest.now.bytes.now c.args.rest.now.number (lines_in c.args.text.now (take c.loop-t.t c.loop-t.replies)) c.loop-t.rest.bytes.now c.loop-t.rest.number c.in_err-read_thread.field-0.0 c.loop-t-test.true c.index-threads-t.is many c.loop-t.invariant.read c.in_err-read_thread.ensures.fails)

pub returns-clause-goes : goal.returns-clause-goes
returns-clause-goes c =
    let a = space_long (commands_of c.args.threads.now) c.args.replies.now c.requires.space in
    let b = commands_many c.args.threads.now in
    let d = c.loop-t.invariant.size in
    (filled_whole c.args.text.now c.args.threads.now c.loop-t.t c.args.rest.now.bytes.now c.args.rest.now.number c.loop-t.replies c.loop-t.rest.bytes.now c.loop-t.rest.number c.loop-t-test.false (omega (arith, a, b, d)) c.loop-t.invariant.read).0

pub returns-clause-replies : goal.returns-clause-replies
returns-clause-replies c =
    let a = space_long (commands_of c.args.threads.now) c.args.replies.now c.requires.space in
    let b = commands_many c.args.threads.now in
    let d = c.loop-t.invariant.size in
    (filled_whole c.args.text.now c.args.threads.now c.loop-t.t c.args.rest.now.bytes.now c.args.rest.now.number c.loop-t.replies c.loop-t.rest.bytes.now c.loop-t.rest.number c.loop-t-test.false (omega (arith, a, b, d)) c.loop-t.invariant.read).1
