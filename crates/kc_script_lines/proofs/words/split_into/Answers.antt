use Rattle.std.proofs.Common.{rules, tests, length, eqb, ap, ◌∙◌}
use Rattle.std.specs.Prelude.{map, not}
use Rattle.std.proofs.lemmas.Iterator.Consumers.{YieldsList-from_filter}
use Rattle.std.proofs.lemmas.Iterator.Splits.{YieldsList-from_slice_split}
use Rattle.kc_script_lines.proofs.Extended.{extended}
use Rattle.kc_script_lines.specs.Words.{is_blank}
use Rattle.kc_script_lines.proofs.words.split_into.Goals as goal

pub returns : goal.returns
returns c = extended (λ word. word.now) c.extend.result c.extend.ensures.ran (YieldsList-from_filter _ (λ word. not (eqb (length word) 0)) (YieldsList-from_slice_split _ is_blank c.args.line.now (cc) (cc) (cc) (λ x b q k. search (rules, tests))) c.filter.ensures.closure (λ x b q k. search (rules, tests))) (λ xs e h. ap (map (λ word. word.now)) (h.0 ∙ cc) ∙ e)
