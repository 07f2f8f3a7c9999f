use Rattle.std.proofs.Common.{sym, refl, ◌∙◌}
use Rattle.kc_check.proofs.Spaced.{says_spaced, spaced_end, spaced_off, spaced_on}
use Rattle.kc_check.proofs.reading.are_spaced.Goals as goal

pub loop-i-init : goal.loop-i-init
loop-i-init c = refl

pub loop-i-preserved : goal.loop-i-preserved
loop-i-preserved c = c.loop-i.invariant ∙ spaced_on c.loop-i.begins c.args.text.now c.loop-i.i 0 c.loop-i-test.true c.if-newline-begins.false

pub returns-then-newline-begins : goal.returns-then-newline-begins
returns-then-newline-begins c = says_spaced c.args.text.now _ (sym (c.loop-i.invariant ∙ spaced_off c.loop-i.begins c.args.text.now c.loop-i.i 0 c.loop-i-test.true c.if-newline-begins.true))

pub returns : goal.returns
returns c = says_spaced c.args.text.now _ (sym (c.loop-i.invariant ∙ spaced_end c.loop-i.begins c.args.text.now c.loop-i.i c.loop-i-test.false))
