use Rattle.kc_script_lines.proofs.FirstLine.{first_cut, one_line}
use Rattle.kc_script_lines.proofs.words.first_line.Goals as goal

pub returns-in-Some-clause-more : goal.returns-in-Some-clause-more
returns-in-Some-clause-more c = first_cut c.args.bytes.now c.in-Some.end c.in-Some.ensures.0.high c.in-Some.ensures.0.before c.in-Some.ensures.1

pub returns-in-None-clause-last : goal.returns-in-None-clause-last
returns-in-None-clause-last c = one_line c.args.bytes.now c.in-None.ensures
