-- The count of a ticket is the names of callers and of places, along a history.
use Rattle.std.proofs.Common.{◌≡◌, ◌≢◌, ℕ, zero, suc, ◌+◌, ◌-◌, ◌<◌, ◌≤◌, Bool, true, false, cond, List, [], ◌∷◌, ◌++◌, refl, sym, subst, arith}
use Rattle.std.specs.Prelude.{◌==◌, All, Contains}
use Rattle.std.proofs.lemmas.Bool.Decides.{nat_tests}
use Rattle.std.proofs.lemmas.List.Elements.{All-head, All-tail, All-cons, All-nil}
use borrow.Author.Tests.{eqb-false}
use Rattle.kc_model.specs.Legal.{IsLegal}
use Rattle.kc_model.specs.Store.{Store, Finds, after}
use Rattle.kc_model.specs.declared.footprint.Entry.{Entry}
use Rattle.kc_shelf.specs.Meaning.{IsTicket}
use Rattle.kc_shelf.specs.declared.shelf.Shelf.{Shelf}
use Rattle.kc_shelf_laws.proofs.Footprints.{places_move}
use Rattle.kc_shelf_laws.specs.Lives.{KeepsLives, ticket_names}
use Rattle.kc_shelf_laws.specs.Names.{CallerKeepsNames, GivesItsOwn, KeepNames, NamesAre, all_hands, empty_hands, hands, hands_behind, in_hand_behind, names_gained, names_given, places_of}
use Rattle.kc_shelf.specs.kc_store.Knows.{entries_of}
use Rattle.kc_xt.specs.Meaning.{values}

empty_sum : (n v : ℕ) → all_hands n empty_hands v ≡ 0
empty_sum zero v = refl
empty_sum (suc n) v = omega (arith, empty_sum n v)

none_in_sum : (n k v : ℕ) (held : ℕ → ℕ → ℕ) → k < n → all_hands n held v ≡ 0 → held k v ≡ 0
none_in_sum zero k v held lt none = absurd (omega (arith, lt))
none_in_sum (suc n) k v held lt none = by_test (n == k) refl (λ less. none_in_sum n k v held less (omega (arith, none)))
  where
    by_test : (b : Bool) → (n == k) ≡ b → (k < n → held k v ≡ 0) → held k v ≡ 0
    by_test true e ih = let q : n ≡ k = grind (arith, nat_tests, e) in let z : held n v ≡ 0 = omega (arith, none) in subst (λ i. held i v ≡ 0) q z
    by_test false e ih = let ne : n ≢ k = eqb-false _ _ e in ih (omega (arith, lt, ne))

some_in_sum : (n k v : ℕ) (held : ℕ → ℕ → ℕ) → k < n → held k v ≤ all_hands n held v
some_in_sum zero k v held lt = absurd (omega (arith, lt))
some_in_sum (suc n) k v held lt = by_test (n == k) refl (λ less. some_in_sum n k v held less)
  where
    by_test : (b : Bool) → (n == k) ≡ b → (k < n → held k v ≤ all_hands n held v) → held k v ≤ held n v + all_hands n held v
    by_test true e ih = let q : n ≡ k = grind (arith, nat_tests, e) in subst (λ i. held i v ≤ held n v + all_hands n held v) q (omega arith)
    by_test false e ih = let ne : n ≢ k = eqb-false _ _ e in let h = ih (omega (arith, lt, ne)) in omega (arith, h)

none_at_place : (ps : List ℕ) (m : ℕ → ℕ) (v l : ℕ) → Contains ps l → places_of ps m v ≡ 0 → m l ≢ v
none_at_place [] m v l (i, lt, e) none = absurd (omega (arith, lt))
none_at_place (p ∷ ps) m v l (zero, lt, e) none = λ h. (let is : m p ≡ v = subst (λ i. m i ≡ v) (sym e) h in let t : (m p == v) ≡ true = grind (arith, nat_tests, is) in let z = rw t at none in absurd (omega (arith, z)))
none_at_place (p ∷ ps) m v l (suc i, lt, e) none = none_at_place ps m v l (i, omega (arith, lt), e) (omega (arith, none))

some_at_place : (ps : List ℕ) (m : ℕ → ℕ) (v l : ℕ) → Contains ps l → m l ≡ v → 0 < places_of ps m v
some_at_place [] m v l (i, lt, e) is = absurd (omega (arith, lt))
some_at_place (p ∷ ps) m v l (zero, lt, e) is = let q : m p ≡ v = subst (λ i. m i ≡ v) (sym e) is in let t : (m p == v) ≡ true = grind (arith, nat_tests, q) in rw t (omega arith)
some_at_place (p ∷ ps) m v l (suc i, lt, e) is = let h = some_at_place ps m v l (i, omega (arith, lt), e) is in omega (arith, h)

module _ (t : Shelf) (ps : List ℕ) where
  -- ---- one entry

  module _ (e : Entry) (held : ℕ → ℕ → ℕ) (v : ℕ) where
    others : (n : ℕ) → n ≤ e.caller → all_hands n (hands_behind t ps e held) v ≡ all_hands n held v
    others zero le = refl
    others (suc n) le =
        let ih = others n (omega (arith, le)) in
        let other : (e.caller == n) ≡ false = grind (arith, nat_tests, le) in
        rw other (omega (arith, ih))

    sum_behind : (n : ℕ) → e.caller < n → names_given t ps e.footprint v ≤ held e.caller v + names_gained t ps e.footprint v → all_hands n (hands_behind t ps e held) v + names_given t ps e.footprint v ≡ all_hands n held v + names_gained t ps e.footprint v
    sum_behind zero lt own = absurd (omega (arith, lt))
    sum_behind (suc n) lt own = by_test (e.caller == n) refl (λ less. sum_behind n less own)
      where
        by_test : (b : Bool) → (e.caller == n) ≡ b → (e.caller < n → all_hands n (hands_behind t ps e held) v + names_given t ps e.footprint v ≡ all_hands n held v + names_gained t ps e.footprint v) → (cond b (in_hand_behind t ps e.footprint v (held n v)) (held n v) + all_hands n (hands_behind t ps e held) v) + names_given t ps e.footprint v ≡ (held n v + all_hands n held v) + names_gained t ps e.footprint v
        by_test true h ih =
            let q : e.caller ≡ n = grind (arith, nat_tests, h) in
            let rest = others n (omega (arith, q)) in
            let mine : names_given t ps e.footprint v ≤ held n v + names_gained t ps e.footprint v = subst (λ i. names_given t ps e.footprint v ≤ held i v + names_gained t ps e.footprint v) q own in
            moves (held n v) _ _ _ _ rest mine
          where
            moves : (h a b gives gains : ℕ) → a ≡ b → gives ≤ h + gains → (((h + gains) - gives) + a) + gives ≡ (h + b) + gains
            moves h a b gives gains same le = omega (arith, same, le)
        by_test false h ih =
            let ne : e.caller ≢ n = eqb-false _ _ h in
            let rest = ih (omega (arith, lt, ne)) in
            omega (arith, rest)

  balance : (names names' seen left places places' seen_places left_places all all' : ℕ) → names' + seen ≡ names + left → places' + seen_places ≡ places + left_places → all' + (seen + left_places) ≡ all + (left + seen_places) → names ≡ all + places → names' ≡ all' + places'
  balance a b c d e f g h i j p q r s = omega (arith, p, q, r, s)

  pub step : (n : ℕ) (s : Store) (held : ℕ → ℕ → ℕ) (e : Entry) → Finds e.footprint s → e.caller < n → KeepsLives t e.footprint → GivesItsOwn t ps (held e.caller) e.footprint → NamesAre t ps n (values s) held → NamesAre t ps n (values (after e.footprint s)) (hands_behind t ps e held)
  step n s held e finds below keep own are = λ v ticket.
      balance _ _ _ _ _ _ _ _ _ _ (keep.names s finds v ticket) (places_move e.footprint s keep.made finds ps v) (sum_behind e held v n below (own v ticket)) (are v ticket)

  -- ---- histories

  abbrev Below : ℕ → Entry → Type 0
  Below n e = e.caller < n

  pub stand_behind : (n : ℕ) (es : List Entry) (s end : Store) (held : ℕ → ℕ → ℕ) → IsLegal s es end → All (Below n) es → KeepNames t ps held es → NamesAre t ps n (values s) held → NamesAre t ps n (values end) (hands t ps held es)
  stand_behind n [] s end held legal below keep are = subst (λ (u : Store). NamesAre t ps n (values u) held) (sym legal) are
  stand_behind n (x ∷ xs) s end held legal below keep are =
      stand_behind n xs (after x.footprint s) end (hands_behind t ps x held) legal.1 (All-tail (Below n) x xs below) keep.2 (step n s held x legal.0 (All-head (Below n) x xs below) keep.0 keep.1 are)

  pub opened_are : (n : ℕ) (m : ℕ → ℕ) → ((v : ℕ) → IsTicket t v → (ticket_names t m v ≡ 0) × (places_of ps m v ≡ 0)) → NamesAre t ps n m empty_hands
  opened_are n m none = λ v ticket. let z = none v ticket in let e = empty_sum n v in omega (arith, z, e)

  pub front_keeps : (before behind : List Entry) (held : ℕ → ℕ → ℕ) → KeepNames t ps held (before ++ behind) → KeepNames t ps held before
  front_keeps [] behind held keep = tt
  front_keeps (x ∷ xs) behind held keep = (keep.0, keep.1, front_keeps xs behind (hands_behind t ps x held) keep.2)

  abbrev Lives : Entry → Type 0
  Lives e = KeepsLives t e.footprint

  pub keep_lives : (es : List Entry) (held : ℕ → ℕ → ℕ) → KeepNames t ps held es → All Lives es
  keep_lives [] held keep = All-nil Lives
  keep_lives (x ∷ xs) held keep = All-cons Lives x xs keep.0 (keep_lives xs (hands_behind t ps x held) keep.2)

  -- ---- what follows where the counts are these

  pub nobody_has : (n : ℕ) (m : ℕ → ℕ) (held : ℕ → ℕ → ℕ) (v : ℕ) → IsTicket t v → NamesAre t ps n m held → ticket_names t m v ≡ 0 → ((k : ℕ) → k < n → held k v ≡ 0) × ((l : ℕ) → Contains ps l → m l ≢ v)
  nobody_has n m held v ticket are none =
      let is = are v ticket in
      (λ k lt. none_in_sum n k v held lt (omega (arith, is, none)), λ l there. none_at_place ps m v l there (omega (arith, is, none)))

  pub hand_is_named : (n : ℕ) (m : ℕ → ℕ) (held : ℕ → ℕ → ℕ) (k v : ℕ) → IsTicket t v → NamesAre t ps n m held → k < n → 0 < held k v → 0 < ticket_names t m v
  hand_is_named n m held k v ticket are lt some = let is = are v ticket in let h = some_in_sum n k v held lt in omega (arith, is, h, some)

  pub place_is_named : (n : ℕ) (m : ℕ → ℕ) (held : ℕ → ℕ → ℕ) (l v : ℕ) → IsTicket t v → NamesAre t ps n m held → Contains ps l → m l ≡ v → 0 < ticket_names t m v
  place_is_named n m held l v ticket are there is = let a = are v ticket in let h = some_at_place ps m v l there is in omega (arith, a, h)

  -- ---- from callers to the history

  tail_kept : (k : ℕ) (x : Entry) (es : List Entry) (held : ℕ → ℕ → ℕ) → CallerKeepsNames t ps (held k) (entries_of k (x ∷ es)) → CallerKeepsNames t ps (hands_behind t ps x held k) (entries_of k es)
  tail_kept k x es held keep = by_test (x.caller == k) keep
    where
      by_test : (b : Bool) → CallerKeepsNames t ps (held k) (cond b (x ∷ entries_of k es) (entries_of k es)) → CallerKeepsNames t ps (λ v. cond b (in_hand_behind t ps x.footprint v (held k v)) (held k v)) (entries_of k es)
      by_test true keep = keep.2
      by_test false keep = keep

  head_kept : (x : Entry) (es : List Entry) (held : ℕ → ℕ → ℕ) → CallerKeepsNames t ps (held x.caller) (entries_of x.caller (x ∷ es)) → KeepsLives t x.footprint × GivesItsOwn t ps (held x.caller) x.footprint
  head_kept x es held keep = by_test (x.caller == x.caller) (grind (arith, nat_tests)) keep
    where
      by_test : (b : Bool) → b ≡ true → CallerKeepsNames t ps (held x.caller) (cond b (x ∷ entries_of x.caller es) (entries_of x.caller es)) → KeepsLives t x.footprint × GivesItsOwn t ps (held x.caller) x.footprint
      by_test true e keep = (keep.0, keep.1)
      by_test false e keep = absurd (cc)

  pub together : (es : List Entry) (held : ℕ → ℕ → ℕ) → ((k : ℕ) → CallerKeepsNames t ps (held k) (entries_of k es)) → KeepNames t ps held es
  together [] held keep = tt
  together (x ∷ es) held keep =
      let here = head_kept x es held (keep x.caller) in
      (here.0, here.1, together es (hands_behind t ps x held) (λ k. tail_kept k x es held (keep k)))
