use Rattle.std.proofs.Common.{◌≡◌, ◌++◌, ◌<◌, ◌^◌, ◌⊎◌, inl, inr, ℕ, List, Some, ap, ◌∙◌, arith}
use Rattle.std.proofs.lemmas.Bool.Decides.{Decides-eqb}
use Rattle.std.proofs.lemmas.Slice.Eq.{strip_suffix_is}
use Rattle.std.specs.Prelude.{codes}
use Rattle.kc_check.proofs.Itemized.{is_word}
use Rattle.kc_check.proofs.Matched.{not_both}
use Rattle.kc_check.proofs.Placed.{index_found, index_none, other_number}
use Rattle.kc_check.proofs.reading.index_of.Goals.{then-number-eq0-via-then-number-eq0, then-number-eq0-via-else-number-eq0+then-commands-number}
use Rattle.kc_check.proofs.reading.index_of.Goals as goal

pub returns-then-number-eq0-clause-none : goal.returns-then-number-eq0-clause-none
returns-then-number-eq0-clause-none c =
    let n = c.args.commands in
    let j = c.in-Some-plain_number.number in
    let word = c.in-Some.word.now in
    let e : c.args.rest.now ≡ word ++ codes "\n" = strip_suffix_is Decides-eqb c.args.rest.now c.as_slice.result.now (Some c.in-Some.word) c.in-Some.ensures.cases ∙ ap (λ (z : List ℕ). word ++ z) c.as_slice.ensures in
    let ends = is_word word c.as_slice-2.result.now (codes "end") c.eq.result c.eq.ensures c.as_slice-2.ensures in
    let small : n < 2 ^ 32 = (let most = c.requires in omega arith) in
    let out : (j ≡ 0) ⊎ (n < j) = elim c.then-number-eq0.branch [ then-number-eq0-via-then-number-eq0 w ↦ inl w.if-number-eq0.true | then-number-eq0-via-else-number-eq0+then-commands-number w ↦ inr w.if-commands-number.true ] in
    index_none n c.args.rest.now word small e (λ h. not_both c.eq.result _ (ends.1 h) c.if-eq.false) (other_number n j word small c.in-Some-plain_number.ensures.0 c.in-Some-plain_number.ensures.1 out)

pub returns-else-commands-number-clause-some : goal.returns-else-commands-number-clause-some
returns-else-commands-number-clause-some c =
    let word = c.in-Some.word.now in
    let e : c.args.rest.now ≡ word ++ codes "\n" = strip_suffix_is Decides-eqb c.args.rest.now c.as_slice.result.now (Some c.in-Some.word) c.in-Some.ensures.cases ∙ ap (λ (z : List ℕ). word ++ z) c.as_slice.ensures in
    index_found c.args.commands c.in-Some-plain_number.number c.args.rest.now word e c.in-Some-plain_number.ensures.1 c.if-number-eq0.false c.if-commands-number.false
