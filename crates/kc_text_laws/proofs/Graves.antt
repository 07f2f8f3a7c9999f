-- A buried text stays buried, and nobody leases it again.
use Rattle.std.proofs.Common.{◌≡◌, ◌≢◌, ℕ, ◌<◌, ◌⊎◌, false, List, [], ◌∷◌, sym, ◌∙◌, subst, arith, inl, inr}
use Rattle.std.specs.Prelude.{◌==◌, ◌++◌}
use Rattle.std.proofs.lemmas.Bool.Decides.{nat_tests}
use borrow.Author.Tests.{eqb-false}
use Rattle.kc_model.specs.Legal.{IsLegal}
use Rattle.kc_model.specs.Store.{Store, Finds, after}
use Rattle.kc_model.specs.declared.footprint.Entry.{Entry}
use Rattle.kc_model.specs.declared.footprint.Footprint.{Footprint}
use Rattle.kc_model.specs.declared.reply.Answer.TheVariants as answer
use Rattle.kc_model.specs.declared.reply.Reply.TheVariants as reply
use Rattle.kc_text.proofs.Forming.{elsewhere, names_no_place, plain_if, same_of}
use Rattle.kc_text_laws.proofs.Holding.{Stand, acted, left, step}
use Rattle.kc_text_laws.proofs.Owning.{wrote}
use Rattle.kc_text.proofs.Replies.{says_there}
use Rattle.kc_text.proofs.TextLaw.{named_some}
use Rattle.kc_text.specs.Forming.{TextsAreWellFormed}
use Rattle.kc_text_laws.specs.Holding.{ActsOnTexts, KeepTexts, LeavesTexts, holders_after}
use Rattle.kc_text.specs.Meaning.{IsFitAct, IsText, leases_at, more, text_named, names_at, op, place_at, text_meaning, text_program}
use Rattle.kc_text.specs.declared.operation.TextAct.{TextAct}
use Rattle.kc_text.specs.declared.operation.TextAct.TheVariants as act
use Rattle.kc_text.specs.declared.texts.TheConstants.{BURIED}
use Rattle.kc_text.specs.declared.texts.Texts.{Texts}
use Rattle.kc_xt.specs.Commit.{Answers}
use Rattle.kc_xt.specs.Meaning.{put, values}
use Rattle.kc_xt.specs.Program.{Plain, plain, replies}

module _ (t : Texts) (j : ℕ) (text : IsText t j) where
  IsBuried : (ℕ → ℕ) → Type 0
  IsBuried m = m (names_at t j) ≡ BURIED

  module _ (m : ℕ → ℕ) (wf : TextsAreWellFormed t m) (is : m (names_at t j) ≡ BURIED) where
    abbrev Stays : Plain → Type 0
    Stays w = w.map (names_at t j) ≡ BURIED

    -- what a number names that isn't this text
    other_named : (v : ℕ) → v ≢ j → (text_named t v == 0) ≡ false → text_named t v ≢ j
    other_named v ne z = grind (arith, nat_tests, ne, z)

    not_named : (p : ℕ) → p < t.places → m (place_at t p) ≢ j
    not_named p place = names_no_place t m wf j p text is place

    -- the text that place p named loses a name, and it isn't this one
    spared : (p : ℕ) → p < t.places → (text_named t (m (place_at t p)) == 0) ≡ false → (v : ℕ) → put m (names_at t (text_named t (m (place_at t p)))) v (names_at t j) ≡ BURIED
    spared p place z v =
        let ne : text_named t (m (place_at t p)) ≢ j = other_named (m (place_at t p)) (not_named p place) z in
        let some : IsText t (text_named t (m (place_at t p))) = named_some t (m (place_at t p)) z in
        elsewhere m (names_at t (text_named t (m (place_at t p)))) v (names_at t j) (omega (arith, ne, some, text)) ∙ is

    act_leaves : (a : TextAct) → IsFitAct t a → Stays (plain (text_program t a replies) m)
    act_leaves (act.Name p i) fit =
        plain_if Stays m (m (names_at t i) == BURIED) _ _ (λ _. is) (λ free.
        plain_if Stays m (m (place_at t p) == i) _ _ (λ _. is) (λ _.
        let ne : i ≢ j = λ e. eqb-false _ _ free (subst (λ k. m (names_at t k) ≡ BURIED) (sym e) is) in
        let last : (u : ℕ → ℕ) → u (names_at t j) ≡ BURIED → put (put u (names_at t i) (more (m (names_at t i)))) (place_at t p) i (names_at t j) ≡ BURIED = λ u h. elsewhere (put u (names_at t i) (more (m (names_at t i)))) (place_at t p) i (names_at t j) (omega (arith, fit)) ∙ elsewhere u (names_at t i) (more (m (names_at t i))) (names_at t j) (omega (arith, ne, fit, text)) ∙ h in
        plain_if Stays m (text_named t (m (place_at t p)) == 0) _ _
        (λ z. last m is)
        (λ z. last (put m (names_at t (text_named t (m (place_at t p)))) _) (spared p fit.0 z _))))
    act_leaves (act.Clear p) fit =
        plain_if Stays m (text_named t (m (place_at t p)) == 0) _ _ (λ _. is) (λ _.
        plain_if Stays m (text_named t (m (place_at t p)) == 0) _ _
        (λ z. elsewhere m (place_at t p) 0 (names_at t j) (omega (arith, fit)) ∙ is)
        (λ z. elsewhere (put m (names_at t (text_named t (m (place_at t p)))) _) (place_at t p) 0 (names_at t j) (omega (arith, fit)) ∙ spared p fit z _))
    act_leaves (act.Lease p) fit =
        plain_if Stays m (text_named t (m (place_at t p)) == 0) _ _ (λ _. is) (λ z.
        plain_if Stays m (m (leases_at t (text_named t (m (place_at t p)))) == BURIED) _ _ (λ _. is) (λ _.
        elsewhere m (leases_at t (text_named t (m (place_at t p)))) _ (names_at t j) (grind (arith, nat_tests, z, text)) ∙ is))
    act_leaves (act.Return i) fit =
        plain_if Stays m (m (leases_at t i) == 0) _ _ (λ _. is) (λ _.
        elsewhere m (leases_at t i) _ (names_at t j) (omega (arith, fit, text)) ∙ is)
    act_leaves (act.Bury i) fit =
        plain_if Stays m (m (names_at t i) == 0) _ _
        (λ z. plain_if Stays m (m (leases_at t i) == 0) _ _
        (λ _. let ne : i ≢ j = λ e. (let none : m (names_at t i) ≡ 0 = same_of _ _ z in absurd (omega (arith, none, subst (λ k. m (names_at t k) ≡ BURIED) (sym e) is))) in
        elsewhere m (names_at t i) BURIED (names_at t j) (omega (arith, ne, fit, text)) ∙ is)
        (λ _. is))
        (λ _. is)

  -- ---- histories

  -- behind one entry it is still buried
  still : (s : Store) (held : ℕ → List ℕ) (f : Footprint) → LeavesTexts t f ⊎ ActsOnTexts t s f → Stand t s held → values s (names_at t j) ≡ BURIED → values (after f s) (names_at t j) ≡ BURIED
  still s held f (inl leaves) h is = left t s f leaves (names_at t j) (omega arith, omega arith) ∙ is
  still s held f (inr a) h is = acted t s f a (names_at t j) (omega arith, omega arith) ∙ act_leaves (values s) h.formed is a.act a.fit

  -- where it is buried no entry has a lease of it
  pub leased_no_more : (between behind : List Entry) (y : Entry) (p : ℕ) (s end : Store) (held : ℕ → List ℕ) → p < t.places → IsLegal s (between ++ y ∷ behind) end → KeepTexts t s held between → Stand t s held → values s (names_at t j) ≡ BURIED
      → Answers (text_meaning (op t (act.Lease p))) (answer.Reply (reply.Value j)) y.footprint → ⊥
  leased_no_more [] behind y p s end held place legal keep stand is answers =
      let says = says_there t (act.Lease p) (answer.Reply (reply.Value j)) y.footprint s answers legal.0 in
      names_no_place t (values s) stand.formed j p text is place (named_is (values s (place_at t p)) says.0)
    where
      named_is : (v : ℕ) → j ≡ text_named t v → v ≡ j
      named_is v e = grind (arith, nat_tests, e, text)
  leased_no_more (x ∷ xs) behind y p s end held place legal keep stand is answers =
      leased_no_more xs behind y p (after x.footprint s) end (λ i. holders_after t i x (held i)) place legal.1 keep.2 (step t s held x legal.0 keep.0 keep.1 stand) (still s held x.footprint keep.0 stand is) answers

  -- a burial buries
  buries : (s : Store) (f : Footprint) → Answers (text_meaning (op t (act.Bury j))) (answer.Reply reply.Unit) f → Finds f s → values (after f s) (names_at t j) ≡ BURIED
  buries s f answers finds =
      let says = says_there t (act.Bury j) (answer.Reply reply.Unit) f s answers finds in
      let a : ActsOnTexts t s f = record { act = act.Bury j; fit = text; made = answers.well_made; puts = λ l cell. wrote t (act.Bury j) reply.Unit f s answers finds l } in
      acted t s f a (names_at t j) (omega arith, omega arith) ∙ plain_buries (values s) says.0 says.1
    where
      plain_buries : (m : ℕ → ℕ) → m (names_at t j) ≡ 0 → m (leases_at t j) ≡ 0 → (plain (text_program t (act.Bury j) replies) m).map (names_at t j) ≡ BURIED
      plain_buries m n l =
          plain_if (λ w. w.map (names_at t j) ≡ BURIED) m (m (names_at t j) == 0) _ _
          (λ _. plain_if (λ w. w.map (names_at t j) ≡ BURIED) m (m (leases_at t j) == 0) _ _ (λ _. grind (arith, nat_tests)) (λ f. absurd (eqb-false _ _ f l)))
          (λ f. absurd (eqb-false _ _ f n))

  -- nobody leases it behind its burial
  pub no_lease_behind : (before between behind : List Entry) (x y : Entry) (p : ℕ) (s end : Store) (held : ℕ → List ℕ) → p < t.places → IsLegal s (before ++ x ∷ between ++ y ∷ behind) end → KeepTexts t s held (before ++ x ∷ between) → Stand t s held
      → Answers (text_meaning (op t (act.Bury j))) (answer.Reply reply.Unit) x.footprint → Answers (text_meaning (op t (act.Lease p))) (answer.Reply (reply.Value j)) y.footprint → ⊥
  no_lease_behind [] between behind x y p s end held place legal keep stand buried leased =
      leased_no_more between behind y p (after x.footprint s) end (λ i. holders_after t i x (held i)) place legal.1 keep.2 (step t s held x legal.0 keep.0 keep.1 stand) (buries s x.footprint buried legal.0) leased
  no_lease_behind (z ∷ zs) between behind x y p s end held place legal keep stand buried leased =
      no_lease_behind zs between behind x y p (after z.footprint s) end (λ i. holders_after t i z (held i)) place legal.1 keep.2 (step t s held z legal.0 keep.0 keep.1 stand) buried leased
