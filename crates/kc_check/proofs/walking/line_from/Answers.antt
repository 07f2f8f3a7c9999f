use Rattle.kc_check.proofs.Starts.{last_of, line_of}
use Rattle.kc_check.proofs.walking.line_from.Goals as goal

pub returns-in-Some : goal.returns-in-Some
returns-in-Some c = line_of c.args.text.now c.args.start c.in-Some.end c.in-Some.ensures.within c.in-Some.ensures.some.0 c.in-Some.ensures.some.1

pub returns-in-None : goal.returns-in-None
returns-in-None c = last_of c.args.text.now c.args.start c.in-None.ensures.none
