-- The step that each meaning makes, each entry makes.
use Rattle.std.proofs.Common.{ℕ, inl, inr, List, [], ◌∷◌, ◌++◌, sym, subst}
use Rattle.std.proofs.lemmas.List.Elements.{All-head, All-tail}
use Rattle.kc_keep.proofs.Keeping.{left_by, nothing_put, of_front, of_rest, one_keeps, says, stands}
use Rattle.kc_keep.specs.Keeping.{IsKeptBy}
use Rattle.kc_keep.specs.Only.{IsEntryOfThese, IsOfThese, OfMeanings}
use Rattle.kc_keep.specs.Steps.{IsStepOf, IsTransitive, LastsThroughout, StepsThroughout}
use Rattle.kc_model.specs.Legal.{IsLegal}
use Rattle.kc_model.specs.Store.{Store, Finds, after}
use Rattle.kc_model.specs.declared.footprint.Entry.{Entry}
use Rattle.kc_model.specs.declared.footprint.Footprint.{Footprint}
use Rattle.kc_xt.specs.Commit.{run_on}
use Rattle.kc_xt.specs.Meaning.{Meaning, limited, values}

module _ (is_one : Meaning → Type 0) (holds : (ℕ → ℕ) → Type 0) (steps : (ℕ → ℕ) → (ℕ → ℕ) → Type 0) (kept : (m : Meaning) → is_one m → IsKeptBy holds m) (moves : (m : Meaning) → is_one m → IsStepOf holds steps m) (stays : (m : ℕ → ℕ) → holds m → steps m m) where
  pub one_steps : (s : Store) (f : Footprint) → IsOfThese is_one f → Finds f s → holds (values s) → steps (values s) (values (after f s))
  one_steps s f (inl nothing) finds h = subst (steps (values s)) (sym (nothing_put s f nothing)) (stays (values s) h)
  one_steps s f (inr o) finds h =
      let m : Meaning = limited o.most o.meaning in
      subst (steps (values s)) (sym (left_by m o.reply s f o.answers finds)) (moves o.meaning o.one _ (values s) [] o.reply h (says (run_on m s).outcome o.reply (o.answers.run s finds)))

  at_entry : (before behind : List Entry) (x : Entry) (s t e : Store) → OfMeanings is_one (before ++ x ∷ behind) → IsLegal s (before ++ x ∷ behind) e → IsLegal s before t → holds (values s) → steps (values t) (values (after x.footprint t))
  at_entry [] behind x s t e of legal front h =
      subst (λ (u : Store). steps (values u) (values (after x.footprint u))) (sym front) (one_steps s x.footprint (All-head (IsEntryOfThese is_one) x behind of) legal.0 h)
  at_entry (y ∷ ys) behind x s t e of legal front h =
      at_entry ys behind x (after y.footprint s) t e (All-tail (IsEntryOfThese is_one) y (ys ++ x ∷ behind) of) legal.1 front.1
      (one_keeps is_one holds kept s y.footprint (All-head (IsEntryOfThese is_one) y (ys ++ x ∷ behind) of) legal.0 h)

  pub each_steps : (s e : Store) (es : List Entry) → IsLegal s es e → OfMeanings is_one es → holds (values s) → StepsThroughout steps s es
  each_steps s e es legal of h before behind x t is front =
      at_entry before behind x s t e (subst (OfMeanings is_one) is of) (subst (λ (xs : List Entry). IsLegal s xs e) is legal) front h

  module _ (transitive : IsTransitive steps) where
    all_step : (es : List Entry) (t u : Store) → OfMeanings is_one es → IsLegal t es u → holds (values t) → steps (values t) (values u)
    all_step [] t u of legal h = subst (λ (v : Store). steps (values t) (values v)) (sym legal) (stays (values t) h)
    all_step (x ∷ xs) t u of legal h =
        let one = All-head (IsEntryOfThese is_one) x xs of in
        transitive (values t) (values (after x.footprint t)) (values u) (one_steps t x.footprint one legal.0 h)
        (all_step xs (after x.footprint t) u (All-tail (IsEntryOfThese is_one) x xs of) legal.1 (one_keeps is_one holds kept t x.footprint one legal.0 h))

    pub all_last : (s : Store) (es : List Entry) → OfMeanings is_one es → holds (values s) → LastsThroughout steps s es
    all_last s es of h before between behind t u is front middle =
        let both = of_front is_one (before ++ between) behind (subst (OfMeanings is_one) is of) in
        all_step between t u (of_rest is_one before between both) middle (stands is_one holds kept before s t (of_front is_one before between both) front h)
