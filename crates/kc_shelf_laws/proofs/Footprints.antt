-- What an entry saw and left is what stands before and behind it, or nothing changed.
use Rattle.std.proofs.Common.{◌≡◌, ℕ, zero, suc, ◌+◌, ◌⊎◌, Bool, true, false, cond, List, [], ◌∷◌, refl, sym, ap, ◌∙◌, subst, arith, inl, inr}
use Rattle.std.specs.Prelude.{◌==◌, Option, Some, None, Contains}
use Rattle.std.proofs.lemmas.Bool.Decides.{nat_tests}
use Rattle.kc_model.proofs.Footprints.{read_at-contained}
use Rattle.kc_model.specs.Footprint.{IsWellMade, put_at, read_at}
use Rattle.kc_model.specs.Store.{Store, Finds, after, cell_after}
use Rattle.kc_model.specs.declared.footprint.Footprint.{Footprint}
use Rattle.kc_model.specs.declared.footprint.Put.{Put}
use Rattle.kc_model.specs.declared.footprint.Seen.{Seen}
use Rattle.kc_model.specs.declared.plain_store.Cell.{Cell}
use Rattle.kc_shelf_laws.specs.Lives.{values_left, values_seen, value_put}
use Rattle.kc_shelf_laws.specs.Names.{places_of}
use Rattle.kc_xt.specs.Meaning.{values}

found_put : (ps : List Put) (l : ℕ) (p : Put) → put_at ps l ≡ Some p → Contains ps p × (p.loc.0 ≡ l)
found_put [] l p e = absurd (cc)
found_put (q ∷ ps) l p e = by_test (q.loc.0 == l) refl e (found_put ps l p)
  where
    by_test : (b : Bool) → (q.loc.0 == l) ≡ b → cond b (Some q) (put_at ps l) ≡ Some p → (put_at ps l ≡ Some p → Contains ps p × (p.loc.0 ≡ l)) → Contains (q ∷ ps) p × (p.loc.0 ≡ l)
    by_test true h e ih = let same : q ≡ p = cc in ((zero, omega arith, same), ap (λ (r : Put). r.loc.0) (sym same) ∙ grind (arith, nat_tests, h))
    by_test false h e ih = let rest = ih e in ((suc rest.0.0, omega (arith, rest.0.1), rest.0.2), rest.1)

-- what is put was read
pub seen_is : (f : Footprint) → IsWellMade f → (l : ℕ) (p : Put) → put_at f.puts.items l ≡ Some p → (r : Seen) × (read_at f.reads.items l ≡ Some r) × Contains f.reads.items r × (r.loc.0 ≡ l)
seen_is f made l p e =
    let found = found_put f.puts.items l p e in
    let r = made.puts_read p found.0 in
    let at : r.0.loc.0 ≡ l = r.2 ∙ found.1 in
    (r.0, subst (λ k. read_at f.reads.items k ≡ Some r.0) at (read_at-contained f.reads.items r.0 made.reads_rise r.1), r.1, at)

found_read : (rs : List Seen) (l : ℕ) (r : Seen) → read_at rs l ≡ Some r → Contains rs r × (r.loc.0 ≡ l)
found_read [] l r e = absurd (cc)
found_read (q ∷ rs) l r e = by_test (q.loc.0 == l) refl e (found_read rs l r)
  where
    by_test : (b : Bool) → (q.loc.0 == l) ≡ b → cond b (Some q) (read_at rs l) ≡ Some r → (read_at rs l ≡ Some r → Contains rs r × (r.loc.0 ≡ l)) → Contains (q ∷ rs) r × (r.loc.0 ≡ l)
    by_test true h e ih = let same : q ≡ r = cc in ((zero, omega arith, same), ap (λ (x : Seen). x.loc.0) (sym same) ∙ grind (arith, nat_tests, h))
    by_test false h e ih = let rest = ih e in ((suc rest.0.0, omega (arith, rest.0.1), rest.0.2), rest.1)

module _ (f : Footprint) (s : Store) (made : IsWellMade f) (finds : Finds f s) where
  -- at a location nothing changes, or all is seen and left
  abbrev pub IsMoved : ℕ → Type 0
  IsMoved l = ((values (after f s) l ≡ values s l) × (values_left f l ≡ values_seen f l)) ⊎ ((values (after f s) l ≡ values_left f l) × (values s l ≡ values_seen f l))

  pub moved : (l : ℕ) → IsMoved l
  moved l = by_put (put_at f.puts.items l) refl
    where
      by_put : (o : Option Put) → put_at f.puts.items l ≡ o → (((cell_after o (s l)).value ≡ values s l) × (value_put o (values_seen f l) ≡ values_seen f l)) ⊎ (((cell_after o (s l)).value ≡ value_put o (values_seen f l)) × (values s l ≡ values_seen f l))
      by_put None e = inl (refl, refl)
      by_put (Some p) e =
          let r = seen_is f made l p e in
          let stood : values s l ≡ r.0.value = subst (λ k. values s k ≡ r.0.value) r.3 (ap (λ (c : Cell). c.value) (finds r.0 r.2)) in
          let read = r.1 in
          inr (refl, rw read stood)

  -- what was read is what stands, and what was left is what stands behind
  pub read_moved : (l : ℕ) (r : Seen) → read_at f.reads.items l ≡ Some r → (values (after f s) l ≡ values_left f l) × (values s l ≡ values_seen f l)
  read_moved l r e = by_move (moved l)
    where
      found : Contains f.reads.items r × (r.loc.0 ≡ l)
      found = found_read f.reads.items l r e

      stood : values s l ≡ values_seen f l
      stood = rw e (subst (λ k. values s k ≡ r.value) found.1 (ap (λ (c : Cell). c.value) (finds r found.0)))

      by_move : ((values (after f s) l ≡ values s l) × (values_left f l ≡ values_seen f l)) ⊎ ((values (after f s) l ≡ values_left f l) × (values s l ≡ values_seen f l)) → (values (after f s) l ≡ values_left f l) × (values s l ≡ values_seen f l)
      by_move (inl (a, b)) = (a ∙ stood ∙ sym b, stood)
      by_move (inr h) = h

  -- the places that hold a ticket change as in what was seen
  pub places_move : (ps : List ℕ) (v : ℕ) → places_of ps (values (after f s)) v + places_of ps (values_seen f) v ≡ places_of ps (values s) v + places_of ps (values_left f) v
  places_move [] v = refl
  places_move (l ∷ ls) v = at_place (moved l) (places_move ls v)
    where
      at_place : IsMoved l → places_of ls (values (after f s)) v + places_of ls (values_seen f) v ≡ places_of ls (values s) v + places_of ls (values_left f) v → places_of (l ∷ ls) (values (after f s)) v + places_of (l ∷ ls) (values_seen f) v ≡ places_of (l ∷ ls) (values s) v + places_of (l ∷ ls) (values_left f) v
      at_place (inl (a, b)) rest = rw (a, b) (omega (arith, rest))
      at_place (inr (a, b)) rest = rw (a, b) (omega (arith, rest))
