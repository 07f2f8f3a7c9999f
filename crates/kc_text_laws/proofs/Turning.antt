-- An entry opens and ends the leases that its operation and its reply say.
use Rattle.std.proofs.Common.{◌≡◌, ◌≢◌, ℕ, ◌+◌, ◌-◌, Bool, true, false, cond, refl, sym, ap, ◌∙◌, subst, arith}
use Rattle.std.specs.Prelude.{◌==◌, nat_lt, Some, None, []}
use Rattle.std.proofs.lemmas.Bool.Decides.{nat_tests}
use borrow.Author.Tests.{eqb-false}
use Rattle.kc_model.specs.declared.footprint.Footprint.{Footprint}
use Rattle.kc_model.specs.declared.footprint.TheConstants.{MOST}
use Rattle.kc_model.specs.declared.reply.Answer.TheVariants as answer
use Rattle.kc_model.specs.declared.reply.Reply.{Reply}
use Rattle.kc_model.specs.declared.reply.Reply.TheVariants as reply
use Rattle.kc_text.proofs.Forming.{elsewhere, plain_if, same_of}
use Rattle.kc_text_laws.proofs.Holding.{acted, cell_of_leases, not_below, turned}
use Rattle.kc_text_laws.proofs.Owning.{wrote}
use Rattle.kc_text.proofs.Room.{text_small}
use Rattle.kc_text.proofs.TextLaw.{named_some}
use Rattle.kc_text_laws.specs.Holding.{ActsOnTexts, lease_ended, ends_lease, is_text, lease_opened, opens_lease}
use Rattle.kc_text.specs.Meaning.{IsFitAct, IsText, fewer, leases_at, more, text_named, names_at, op, place_at, text_meaning, text_program}
use Rattle.kc_text.specs.declared.operation.TextAct.{TextAct}
use Rattle.kc_text.specs.declared.operation.TextAct.TheVariants as act
use Rattle.kc_text.specs.declared.texts.TheConstants.{BURIED}
use Rattle.kc_text.specs.declared.texts.Texts.{Texts}
use Rattle.kc_xt.proofs.PlainRuns.{plain-meaning}
use Rattle.kc_xt.proofs.Tries.{found_somewhere}
use Rattle.kc_xt.specs.Commit.{Answers, answer_of}
use Rattle.kc_xt.specs.Meaning.{put, replied, values}
use Rattle.kc_xt.specs.Program.{Plain, plain, replies}

below_more : (x : ℕ) → nat_lt x (x + 1) ≡ true
below_more x = grind (arith, nat_tests)

more_not_below : (x : ℕ) → nat_lt (x + 1) x ≡ false
more_not_below x = grind (arith, nat_tests)

module _ (t : Texts) (j : ℕ) (text : IsText t j) where
  module _ (m : ℕ → ℕ) where
    -- by what it replies, and what it leaves in the leases of text j
    record Turns (a : TextAct) (w : Plain) : Type 0 where
      replies_so : Reply
      is : w.outcome ≡ replied replies_so
      opens : nat_lt (m (leases_at t j)) (w.map (leases_at t j)) ≡ is_text (lease_opened a replies_so) j
      ends : nat_lt (w.map (leases_at t j)) (m (leases_at t j)) ≡ is_text (lease_ended a replies_so) j

    -- where nothing is turned the leases stay
    same : (a : TextAct) (r : Reply) (u : ℕ → ℕ) → lease_opened a r ≡ None → lease_ended a r ≡ None → u (leases_at t j) ≡ m (leases_at t j) → Turns a (record { outcome = replied r; map = u })
    same a r u o e h = record {
      replies_so = r;
      is = refl;
      opens = rw (h, o) (not_below (m (leases_at t j)));
      ends = rw (h, e) (not_below (m (leases_at t j)));
    }

    at_leases_of : (i v : ℕ) → IsText t i → (b : Bool) → (i == j) ≡ b → put m (leases_at t i) v (leases_at t j) ≡ cond b v (m (leases_at t j))
    at_leases_of i v h true e = let q : i ≡ j = same_of i j e in rw q (grind (arith, nat_tests))
    at_leases_of i v h false e = let ne : i ≢ j = eqb-false _ _ e in elsewhere m (leases_at t i) v (leases_at t j) (omega (arith, ne, h, text))

    leases_more : (i : ℕ) → IsText t i → (nat_lt (m (leases_at t j)) (put m (leases_at t i) (m (leases_at t i) + 1) (leases_at t j)) ≡ (i == j)) × (nat_lt (put m (leases_at t i) (m (leases_at t i) + 1) (leases_at t j)) (m (leases_at t j)) ≡ false)
    leases_more i h = by_test (i == j) refl
      where
        by_test : (b : Bool) → (i == j) ≡ b → (nat_lt (m (leases_at t j)) (put m (leases_at t i) (m (leases_at t i) + 1) (leases_at t j)) ≡ b) × (nat_lt (put m (leases_at t i) (m (leases_at t i) + 1) (leases_at t j)) (m (leases_at t j)) ≡ false)
        by_test true e =
            let q : m (leases_at t i) ≡ m (leases_at t j) = ap (λ k. m (leases_at t k)) (same_of i j e) in
            let at = at_leases_of i (m (leases_at t i) + 1) h true e in
            rw (at, q) (below_more (m (leases_at t j)), more_not_below (m (leases_at t j)))
        by_test false e = let at = at_leases_of i (m (leases_at t i) + 1) h false e in rw at (not_below (m (leases_at t j)), not_below (m (leases_at t j)))

    leases_fewer : (i : ℕ) → IsText t i → m (leases_at t i) ≢ 0 → (nat_lt (m (leases_at t j)) (put m (leases_at t i) (m (leases_at t i) - 1) (leases_at t j)) ≡ false) × (nat_lt (put m (leases_at t i) (m (leases_at t i) - 1) (leases_at t j)) (m (leases_at t j)) ≡ (i == j))
    leases_fewer i h some = by_test (i == j) refl
      where
        lower : (x : ℕ) → x ≢ 0 → (nat_lt x (x - 1) ≡ false) × (nat_lt (x - 1) x ≡ true)
        lower x ne = (grind (arith, nat_tests, ne), grind (arith, nat_tests, ne))

        by_test : (b : Bool) → (i == j) ≡ b → (nat_lt (m (leases_at t j)) (put m (leases_at t i) (m (leases_at t i) - 1) (leases_at t j)) ≡ false) × (nat_lt (put m (leases_at t i) (m (leases_at t i) - 1) (leases_at t j)) (m (leases_at t j)) ≡ b)
        by_test true e =
            let q : m (leases_at t i) ≡ m (leases_at t j) = ap (λ k. m (leases_at t k)) (same_of i j e) in
            let at = at_leases_of i (m (leases_at t i) - 1) h true e in
            rw (at, q) (lower (m (leases_at t j)) (subst (λ x. x ≢ 0) q some))
        by_test false e = let at = at_leases_of i (m (leases_at t i) - 1) h false e in rw at (not_below (m (leases_at t j)), not_below (m (leases_at t j)))

    act_turns : (a : TextAct) → IsFitAct t a → Turns a (plain (text_program t a replies) m)
    act_turns (act.Name p i) fit =
        let a = act.Name p i in
        let l = leases_at t j in
        let x = more (m (names_at t i)) in
        let k = text_named t (m (place_at t p)) in
        let u = put m (names_at t k) (fewer (m (names_at t k))) in
        plain_if (Turns a) m (m (names_at t i) == BURIED) _ _ (λ _. same a (reply.Bool false) m refl refl refl) (λ _.
        plain_if (Turns a) m (m (place_at t p) == i) _ _ (λ _. same a reply.Unit m refl refl refl) (λ _.
        plain_if (Turns a) m (k == 0) _ _
        (λ z. same a reply.Unit (put (put m (names_at t i) x) (place_at t p) i) refl refl (elsewhere (put m (names_at t i) x) (place_at t p) i l (omega (arith, fit)) ∙ elsewhere m (names_at t i) x l (omega (arith, fit, text))))
        (λ z. let some : IsText t k = named_some t _ z in
        same a reply.Unit (put (put u (names_at t i) x) (place_at t p) i) refl refl (elsewhere (put u (names_at t i) x) (place_at t p) i l (omega (arith, fit)) ∙ elsewhere u (names_at t i) x l (omega (arith, fit, text)) ∙ elsewhere m (names_at t k) (fewer (m (names_at t k))) l (omega (arith, some, text))))))
    act_turns (act.Clear p) fit =
        let a = act.Clear p in
        let l = leases_at t j in
        let k = text_named t (m (place_at t p)) in
        let u = put m (names_at t k) (fewer (m (names_at t k))) in
        plain_if (Turns a) m (k == 0) _ _ (λ _. same a reply.Unit m refl refl refl) (λ _.
        plain_if (Turns a) m (k == 0) _ _
        (λ z. same a reply.Unit (put m (place_at t p) 0) refl refl (elsewhere m (place_at t p) 0 l (omega (arith, fit))))
        (λ z. let some : IsText t k = named_some t _ z in
        same a reply.Unit (put u (place_at t p) 0) refl refl (elsewhere u (place_at t p) 0 l (omega (arith, fit)) ∙ elsewhere m (names_at t k) (fewer (m (names_at t k))) l (omega (arith, some, text)))))
    act_turns (act.Lease p) fit =
        let a = act.Lease p in
        plain_if (Turns a) m (text_named t (m (place_at t p)) == 0) _ _ (λ _. same a reply.Empty m refl refl refl) (λ z.
        plain_if (Turns a) m (m (leases_at t (text_named t (m (place_at t p)))) == BURIED) _ _ (λ _. same a reply.Full m refl refl refl) (λ _.
        let h = leases_more (text_named t (m (place_at t p))) (named_some t _ z) in
        record { replies_so = reply.Value (text_named t (m (place_at t p))); is = refl; opens = h.0; ends = h.1 }))
    act_turns (act.Return i) fit =
        let a = act.Return i in
        plain_if (Turns a) m (m (leases_at t i) == 0) _ _ (λ _. same a (reply.Bool false) m refl refl refl) (λ z.
        let h = leases_fewer i fit (eqb-false _ _ z) in
        record { replies_so = reply.Unit; is = refl; opens = h.0; ends = h.1 })
    act_turns (act.Bury i) fit =
        let a = act.Bury i in
        plain_if (Turns a) m (m (names_at t i) == 0) _ _
        (λ _. plain_if (Turns a) m (m (leases_at t i) == 0) _ _
        (λ _. same a reply.Unit (put m (names_at t i) BURIED) refl refl (elsewhere m (names_at t i) BURIED (leases_at t j) (omega (arith, fit, text))))
        (λ _. same a (reply.Bool false) m refl refl refl))
        (λ _. same a (reply.Bool false) m refl refl refl)

  reply_same : (a b : Reply) → Some (answer.Reply a) ≡ Some (answer.Reply b) → a ≡ b
  reply_same a b e = cc

  -- what the entry of an operation that replied so opens, and what it ends
  pub turned_so : (a : TextAct) (r : Reply) (f : Footprint) → IsFitAct t a → Answers (text_meaning (op t a)) (answer.Reply r) f → (opens_lease t j f ≡ is_text (lease_opened a r) j) × (ends_lease t j f ≡ is_text (lease_ended a r) j)
  turned_so a r f fit answers =
      let found = found_somewhere f answers.well_made in
      let s = found.0 in
      let on : ActsOnTexts t s f = record { act = a; fit = fit; made = answers.well_made; puts = λ l cell. wrote t a r f s answers found.1 l } in
      let left = acted t s f on (leases_at t j) (cell_of_leases t j text) in
      let w = act_turns (values s) a fit in
      let is = (plain-meaning (text_program t a replies) MOST (values s) [] (text_small (op t a) s)).0 in
      let so : w.replies_so ≡ r = reply_same w.replies_so r (sym (ap answer_of (is ∙ w.is)) ∙ answers.run s found.1) in
      let opens = turned nat_lt not_below f s answers.well_made found.1 (leases_at t j) in
      let ends = turned (λ x y. nat_lt y x) not_below f s answers.well_made found.1 (leases_at t j) in
      (opens ∙ rw left w.opens ∙ ap (λ x. is_text (lease_opened a x) j) so, ends ∙ rw left w.ends ∙ ap (λ x. is_text (lease_ended a x) j) so)
