use Rattle.std.proofs.Common.{refl, sym}
use Rattle.kc_store.proofs.Remembering.{learns_same}
use Rattle.kc_text_run.proofs.Picks.{nothing_read, read_more}
use Rattle.kc_text_run.proofs.picking.read_picks.Goals as goal

pub loop-i-init : goal.loop-i-init
loop-i-init g c = nothing_read c.args.texts.now c.args.pool.now c.args.place c.args.picks.now c.args.caller.now c.args.lines.now (learns_same c.args.caller.now).remembers

pub loop-i-preserved : goal.loop-i-preserved
loop-i-preserved g c =
    let e = c.read_pick.ensures in
    read_more c.args.texts.now c.args.pool.now c.args.place c.args.picks.now c.args.caller.now c.args.lines.now c.loop-i.caller c.read_pick.new.caller c.loop-i.lines c.loop-i.i _ c.read_pick.result
    c.loop-i.invariant c.loop-i-test.true (sym c.requires.same) refl e.text e.own e.remembers
