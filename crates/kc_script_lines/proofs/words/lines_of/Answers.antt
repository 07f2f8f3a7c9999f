use Rattle.std.proofs.Common.{rules, tests, eqb}
use Rattle.std.proofs.lemmas.Iterator.Consumers.{map_from_collect}
use Rattle.std.proofs.lemmas.Iterator.Splits.{YieldsList-from_slice_split}
use Rattle.kc_script_lines.proofs.words.lines_of.Goals as goal

pub returns-clause-lines : goal.returns-clause-lines
returns-clause-lines c = map_from_collect _ c.collect.ensures.ran (YieldsList-from_slice_split _ (λ b. eqb b 10) c.args.bytes.now (cc) (cc) (cc) (λ x b q k. search (rules, tests)))
