-- From what each entry does to what all between two places do.
use Rattle.std.proofs.Common.{◌≡◌, ℕ, List, [], ◌∷◌, ◌++◌, refl, sym, ap, subst, ◌∙◌}
use Rattle.std.proofs.lemmas.List.{append_assoc}
use Rattle.kc_keep.specs.Steps.{IsTransitive, LastsThroughout, StepsThroughout}
use Rattle.kc_model.specs.Legal.{IsLegal}
use Rattle.kc_model.specs.Store.{Finds, Store, after}
use Rattle.kc_model.specs.declared.footprint.Entry.{Entry}
use Rattle.kc_xt.specs.Meaning.{values}

pub one_more : (before : List Entry) (x : Entry) (s t : Store) → IsLegal s before t → Finds x.footprint t → IsLegal s (before ++ x ∷ []) (after x.footprint t)
one_more [] x s t legal finds = subst (λ (u : Store). Finds x.footprint u × (after x.footprint t ≡ after x.footprint u)) legal (finds, refl)
one_more (y ∷ ys) x s t legal finds = (legal.0, one_more ys x (after y.footprint s) t legal.1 finds)

module _ (steps lasts : (ℕ → ℕ) → (ℕ → ℕ) → Type 0) (so : (m w : ℕ → ℕ) → steps m w → lasts m w) (same : (m : ℕ → ℕ) → lasts m m) (two : IsTransitive lasts) (s : Store) (es : List Entry) (each : StepsThroughout steps s es) where
  pub lasting : LastsThroughout lasts s es
  lasting before [] behind t u is front between = subst (λ (v : Store). lasts (values t) (values v)) (sym between) (same (values t))
  lasting before (x ∷ xs) behind t u is front between =
      two (values t) (values (after x.footprint t)) (values u) (so _ _ (each before (xs ++ behind) x t (is ∙ append_assoc before (x ∷ xs) behind) front))
      (lasting (before ++ x ∷ []) xs behind (after x.footprint t) u (is ∙ ap (λ (ys : List Entry). ys ++ behind) (sym (append_assoc before (x ∷ []) xs))) (one_more before x s t front between.0) between.1)
