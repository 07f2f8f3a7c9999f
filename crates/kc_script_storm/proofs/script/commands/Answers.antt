use Rattle.std.proofs.Common.{refl}
use Rattle.kc_script_storm.proofs.Making.{drawn_next, drawn_all}
use Rattle.kc_script_storm.proofs.script.commands.Goals as goal

pub loop-init : goal.loop-init
loop-init c = rw c.in_ok-commands.ensures.items refl

pub loop-preserved : goal.loop-preserved
loop-preserved c = rw c.next_draw-draw.ensures (drawn_next c.args.thread c.loop.counter c.loop.draw c.loop.commands.items c.push.new.self.items _ c.command.result c.loop-test.true c.loop.invariant c.in_ok-push.ensures.items (rw c.next_draw-draw.ensures at c.command.ensures))

pub returns : goal.returns
returns c = drawn_all c.args.thread c.loop.counter c.loop.draw c.loop.commands.items _ c.loop-test.false c.loop.invariant
