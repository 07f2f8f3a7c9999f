use Rattle.kc_text.proofs.Committed.{large_not, later_not}
use Rattle.kc_text.proofs.committing.commit_act.Goals as goal

pub unreachable-requires : goal.unreachable-requires
unreachable-requires g c = later_not c.args.texts.now c.args.act c.args.caller.now c.commit.new.caller c.in-Later.footprint c.in-Later.ensures.so

pub unreachable-requires-in-TooLarge : goal.unreachable-requires-in-TooLarge
unreachable-requires-in-TooLarge g c = large_not c.args.texts.now c.args.act c.args.caller.now c.commit.new.caller c.in-TooLarge.footprint c.in-TooLarge.ensures.so
