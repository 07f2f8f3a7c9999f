-- What is over stays over, and what has begun doesn't begin again.
use Rattle.std.proofs.Common.{◌≡◌, ℕ, ◌<◌, ◌≤◌, ◌⊎◌, List, [], ◌∷◌, Bool, true, false, cond, refl, sym, ap, ◌∙◌, subst, arith, inl, inr}
use Rattle.std.specs.Prelude.{◌==◌, All}
use Rattle.std.proofs.lemmas.Bool.Decides.{nat_tests}
use Rattle.std.proofs.lemmas.List.Elements.{All-head, All-tail}
use Rattle.kc_model.specs.Legal.{IsLegal}
use Rattle.kc_model.specs.Store.{Store, after}
use Rattle.kc_model.specs.declared.footprint.Entry.{Entry}
use Rattle.kc_shelf.specs.Meaning.{IsTicket, count_at, life_at, life_of, slot_of}
use Rattle.kc_shelf.specs.declared.shelf.Shelf.{Shelf}
use Rattle.kc_shelf_laws.specs.Lives.{EndsAtOne, IsOver, KeepsLives, SlotsTurn, Turns, ticket_names}
use Rattle.kc_xt.specs.Meaning.{values}

turned_over : (a l c k d : ℕ) → Turns l c k d → (a < l) ⊎ ((l ≡ a) × (c ≡ 0)) → (a < k) ⊎ ((k ≡ a) × (d ≡ 0))
turned_over a l c k d (inl (same, none)) (inl later) = inl (omega (arith, same, later))
turned_over a l c k d (inl (same, none)) (inr (is, zero)) = inr (same ∙ is, none zero)
turned_over a l c k d (inr (rises, none)) (inl later) = inl (omega (arith, rises, later))
turned_over a l c k d (inr (rises, none)) (inr (is, zero)) = inl (omega (arith, rises, is))

rises : (l c k d : ℕ) → Turns l c k d → l ≤ k
rises l c k d (inl h) = omega (arith, h.0)
rises l c k d (inr h) = omega (arith, h.0)

abbrev Keeps : Shelf → Entry → Type 0
Keeps t e = KeepsLives t e.footprint

module _ (t : Shelf) (v : ℕ) (ticket : IsTicket t v) where
  pub over_by : (m w : ℕ → ℕ) → SlotsTurn t m w → IsOver t m v → IsOver t w v
  over_by m w turns over = turned_over (life_of t v) _ (m (count_at t (slot_of t v))) _ (w (count_at t (slot_of t v))) (turns (slot_of t v) ticket) over

  pub begun_by : (m w : ℕ → ℕ) → SlotsTurn t m w → life_of t v ≤ m (life_at t (slot_of t v)) → life_of t v ≤ w (life_at t (slot_of t v))
  begun_by m w turns begun = let h = rises _ (m (count_at t (slot_of t v))) _ (w (count_at t (slot_of t v))) (turns (slot_of t v) ticket) in omega (arith, h, begun)

  pub over_stays : (es : List Entry) (s e : Store) → IsLegal s es e → All (Keeps t) es → IsOver t (values s) v → IsOver t (values e) v
  over_stays [] s e legal keep over = subst (λ (u : Store). IsOver t (values u) v) (sym legal) over
  over_stays (x ∷ xs) s e legal keep over =
      over_stays xs (after x.footprint s) e legal.1 (All-tail (Keeps t) x xs keep) (over_by (values s) (values (after x.footprint s)) ((All-head (Keeps t) x xs keep).turns s legal.0) over)

  pub begun_stays : (es : List Entry) (s e : Store) → IsLegal s es e → All (Keeps t) es → life_of t v ≤ values s (life_at t (slot_of t v)) → life_of t v ≤ values e (life_at t (slot_of t v))
  begun_stays [] s e legal keep begun = subst (λ (u : Store). life_of t v ≤ values u (life_at t (slot_of t v))) (sym legal) begun
  begun_stays (x ∷ xs) s e legal keep begun =
      begun_stays xs (after x.footprint s) e legal.1 (All-tail (Keeps t) x xs keep) (begun_by (values s) (values (after x.footprint s)) ((All-head (Keeps t) x xs keep).turns s legal.0) begun)

  -- what is over has no name
  pub over_none : (m : ℕ → ℕ) → IsOver t m v → ticket_names t m v ≡ 0
  over_none m (inl later) = let e : (m (life_at t (slot_of t v)) == life_of t v) ≡ false = grind (arith, nat_tests, later) in rw e refl
  over_none m (inr (is, zero)) = let e : (m (life_at t (slot_of t v)) == life_of t v) ≡ true = grind (arith, nat_tests, is) in rw e zero

-- who has a name is in its life, with a count
pub named_is : (t : Shelf) (m : ℕ → ℕ) (v : ℕ) → 0 < ticket_names t m v → (m (life_at t (slot_of t v)) ≡ life_of t v) × (0 < m (count_at t (slot_of t v)))
named_is t m v some = by_test (m (life_at t (slot_of t v)) == life_of t v) refl some
  where
    by_test : (b : Bool) → (m (life_at t (slot_of t v)) == life_of t v) ≡ b → 0 < cond b (m (count_at t (slot_of t v))) 0 → (m (life_at t (slot_of t v)) ≡ life_of t v) × (0 < m (count_at t (slot_of t v)))
    by_test true e h = (grind (arith, nat_tests, e), h)
    by_test false e h = absurd (omega (arith, h))

-- ---- where a life ends

ends_over : (t : Shelf) (v : ℕ) → IsTicket t v → (m w : ℕ → ℕ) → SlotsTurn t m w → 0 < ticket_names t m v → ticket_names t w v ≡ 0 → IsOver t w v
ends_over t v ticket m w turns some none =
    let is = named_is t m v some in
    by_turn (life_of t v) (m (life_at t (slot_of t v))) (m (count_at t (slot_of t v))) (w (life_at t (slot_of t v))) (w (count_at t (slot_of t v))) (turns (slot_of t v) ticket) is.0 is.1 none
  where
    by_turn : (a l c k d : ℕ) → Turns l c k d → l ≡ a → 0 < c → cond (k == a) d 0 ≡ 0 → (a < k) ⊎ ((k ≡ a) × (d ≡ 0))
    by_turn a l c k d (inl (same, h)) is some none = let e : k ≡ a = same ∙ is in let t : (k == a) ≡ true = grind (arith, nat_tests, e) in inr (e, rw t at none)
    by_turn a l c k d (inr (rises, z)) is some none = absurd (omega (arith, some, z))

pub ends_at : (t : Shelf) (v : ℕ) → IsTicket t v → (es : List Entry) (s e : Store) → IsLegal s es e → All (Keeps t) es → 0 < ticket_names t (values s) v → ticket_names t (values e) v ≡ 0 → EndsAtOne t s es v
ends_at t v ticket [] s e legal keep some none = let z : ticket_names t (values s) v ≡ 0 = subst (λ (u : Store). ticket_names t (values u) v ≡ 0) legal none in absurd (omega (arith, some, z))
ends_at t v ticket (x ∷ xs) s e legal keep some none = by_test (ticket_names t (values (after x.footprint s)) v == 0) refl (λ more. ends_at t v ticket xs (after x.footprint s) e legal.1 (All-tail (Keeps t) x xs keep) more none)
  where
    turns : SlotsTurn t (values s) (values (after x.footprint s))
    turns = (All-head (Keeps t) x xs keep).turns s legal.0

    by_test : (b : Bool) → (ticket_names t (values (after x.footprint s)) v == 0) ≡ b → (0 < ticket_names t (values (after x.footprint s)) v → EndsAtOne t (after x.footprint s) xs v) → EndsAtOne t s (x ∷ xs) v
    by_test true h ih = record {
      before = [];
      last = x;
      behind = xs;
      is = refl;
      store = s;
      legal = refl;
      named = some;
      over = ends_over t v ticket (values s) (values (after x.footprint s)) turns some (grind (arith, nat_tests, h));
    }
    by_test false h ih =
        let more : 0 < ticket_names t (values (after x.footprint s)) v = grind (arith, nat_tests, h) in
        let rest = ih more in
        record {
          before = x ∷ rest.before;
          last = rest.last;
          behind = rest.behind;
          is = ap (λ (ys : List Entry). x ∷ ys) rest.is;
          store = rest.store;
          legal = (legal.0, rest.legal);
          named = rest.named;
          over = rest.over;
        }
