use Rattle.std.proofs.Common.{◌++◌, ℕ, List, None, Some, ap, refl, sym, ◌∙◌}
use Rattle.std.proofs.lemmas.Bool.Decides.{Decides-eqb}
use Rattle.std.proofs.lemmas.Slice.Eq.{strip_suffix_is}
use Rattle.kc_check.proofs.Matched.{not_both}
use Rattle.kc_check.proofs.Spaced.{held_words, no_end}
use Rattle.kc_check.proofs.reading.is_held.Goals as goal

pub returns-in-Some-strip_suffix : goal.returns-in-Some-strip_suffix
returns-in-Some-strip_suffix c =
    held_words c.args.name.now c.args.line.now c.in-Some.rest.now c.in-Some-strip_suffix.words.now c.are_words.result c.in-Some.ensures
    (strip_suffix_is Decides-eqb c.in-Some.rest.now c.as_slice.result.now (Some c.in-Some-strip_suffix.words) c.in-Some-strip_suffix.ensures.cases ∙ ap (λ (z : List ℕ). c.in-Some-strip_suffix.words.now ++ z) c.as_slice.ensures)
    c.are_words.ensures

pub returns-in-None : goal.returns-in-None
returns-in-None c = (
  λ h. not_both _ _ h refl,
  λ h. absurd (no_end c.args.name.now c.args.line.now c.in-Some.rest.now c.in-Some.ensures (λ front e. strip_suffix_is Decides-eqb c.in-Some.rest.now c.as_slice.result.now None c.in-None.ensures.cases front (e ∙ ap (λ (z : List ℕ). front ++ z) (sym c.as_slice.ensures))) h),
)
