use Rattle.std.proofs.Common.{◌++◌, List, ℕ, Some, ap, ◌∙◌}
use Rattle.std.proofs.lemmas.Bool.Decides.{Decides-eqb}
use Rattle.std.proofs.lemmas.Slice.Eq.{strip_prefix_is}
use Rattle.kc_check.proofs.Spaced.{words_spaced}
use Rattle.kc_check.proofs.reading.are_words.Goals as goal

pub returns-in-Some : goal.returns-in-Some
returns-in-Some c = words_spaced c.args.text.now c.in-Some.rest.now c.are_spaced.result (strip_prefix_is Decides-eqb c.args.text.now c.as_slice.result.now (Some c.in-Some.rest) c.in-Some.ensures.cases ∙ ap (λ (z : List ℕ). z ++ c.in-Some.rest.now) c.as_slice.ensures) c.are_spaced.ensures
