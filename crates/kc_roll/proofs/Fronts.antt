-- Each step keeps what is known of the list.
use Rattle.std.proofs.Common.{◌≡◌, ◌≢◌, ℕ, zero, suc, ◌+◌, ◌==◌, Bool, true, false, List, [], ◌∷◌, ◌++◌, length, set, refl, sym, ap, ◌∙◌, ◌⊎◌, inl, inr, ⊎_elim, arith, subst, length-set, get_or-set_same, append_assoc, append-nil}
use Rattle.std.specs.Prelude.{slice_index}
use Rattle.std.proofs.lemmas.List.{set-get_or, length-append}
use mathlib.Core.Option.{some, some-injective, some-ne-none}
use lib.ListN.{get_elem?}
use prog.Atomic.{either}
use borrow.Author.Tests.{eqb-true, eqb-false}
use Rattle.atomic_table.specs.Table as table
use Rattle.atomic_table.specs.Table.{Me, Allows, Joins, Splits, keeps, stepped}
use Rattle.atomic_table.proofs.Lists.{at_set, at_snoc}
use Rattle.kc_roll.specs.Fronts.{StandsAtFront, FrontsKept, HasGrown, HasShown, KnowsAFront, both_seen, longer, nothing_seen}
use Rattle.kc_roll.specs.declared.rule.View.{View}

module _ {A : Type 0} where
  begins_all : (xs : List A) → StandsAtFront xs xs
  begins_all xs = ([], sym (append-nil xs))

  begins_more : (xs ys zs : List A) → StandsAtFront xs ys → StandsAtFront xs (ys ++ zs)
  begins_more xs ys zs (r, e) = (r ++ zs, ap (λ (l : List A). l ++ zs) e ∙ append_assoc xs r zs)

  first_same : (x y : A) (xs ys : List A) → x ∷ xs ≡ y ∷ ys → x ≡ y
  first_same x y xs ys e = cc

  rest_same : (x y : A) (xs ys : List A) → x ∷ xs ≡ y ∷ ys → xs ≡ ys
  rest_same x y xs ys e = cc

  pub longer_left : (xs ys r s : List A) → xs ++ r ≡ ys ++ s → StandsAtFront xs (longer xs ys)
  longer_left [] ys r s e = (ys, refl)
  longer_left (x ∷ xs) [] r s e = begins_all (x ∷ xs)
  longer_left (x ∷ xs) (y ∷ ys) r s e = let b = longer_left xs ys r s (rest_same x y (xs ++ r) (ys ++ s) e) in (b.0, ap (λ (l : List A). x ∷ l) b.1)

  pub longer_right : (xs ys r s : List A) → xs ++ r ≡ ys ++ s → StandsAtFront ys (longer xs ys)
  longer_right [] ys r s e = begins_all ys
  longer_right (x ∷ xs) [] r s e = (x ∷ xs, refl)
  longer_right (x ∷ xs) (y ∷ ys) r s e =
      let b = longer_right xs ys r s (rest_same x y (xs ++ r) (ys ++ s) e) in
      (b.0, ap (λ (l : List A). x ∷ l) b.1 ∙ ap (λ (z : A). z ∷ (ys ++ b.0)) (first_same x y (xs ++ r) (ys ++ s) e))

  pub longer_all : (xs ys r s : List A) → xs ++ r ≡ ys ++ s → StandsAtFront (longer xs ys) (xs ++ r)
  longer_all [] ys r s e = (s, e)
  longer_all (x ∷ xs) [] r s e = (r, refl)
  longer_all (x ∷ xs) (y ∷ ys) r s e = let b = longer_all xs ys r s (rest_same x y (xs ++ r) (ys ++ s) e) in (b.0, ap (λ (l : List A). x ∷ l) b.1)

  none_left : (xs r : List A) → length xs ≡ length (xs ++ r) → r ≡ []
  none_left xs [] e = refl
  none_left xs (x ∷ r) e = let l = length-append xs (x ∷ r) in absurd (omega (arith, e, l))

  longer_long : (xs ys : List A) → (length (longer xs ys) ≡ length xs) ⊎ (length (longer xs ys) ≡ length ys)
  longer_long [] ys = inr refl
  longer_long (x ∷ xs) [] = inl refl
  longer_long (x ∷ xs) (y ∷ ys) = ⊎_elim (λ e. inl (ap suc e)) (λ e. inr (ap suc e)) (longer_long xs ys)

  begins_same : (xs ys : List A) → StandsAtFront xs ys → length ys ≡ length xs → ys ≡ xs
  begins_same xs ys (r, e) same = e ∙ ap (λ (l : List A). xs ++ l) (none_left xs r (sym same ∙ ap length e)) ∙ append-nil xs

  -- of two that begin it the longer is one of them
  pub longer_is : (xs ys zs : List A) → zs ≡ longer xs ys → StandsAtFront xs zs → StandsAtFront ys zs → (zs ≡ xs) ⊎ (zs ≡ ys)
  longer_is xs ys zs is b c = ⊎_elim (λ e. inl (begins_same xs zs b (ap length is ∙ e))) (λ e. inr (begins_same ys zs c (ap length is ∙ e))) (longer_long xs ys)

module _ {E : Type 0} where
  nothing_fits : (all : List E) → KnowsAFront all nothing_seen
  nothing_fits all = record { seen = (all, refl); left = ([], refl); right = ([], refl) }

  pub opens : FrontsKept {E = E} (table.opening (0 ∷ []) [] nothing_seen)
  opens = record { all = []; one_word = refl; count = refl; views = only }
    where
      only : (i : ℕ) (v : View E) → get_elem? (nothing_seen ∷ []) i ≡ some v → KnowsAFront [] v
      only zero v at = subst (KnowsAFront []) (some-injective nothing_seen v at) (nothing_fits [])
      only (suc i) v at = absurd (some-ne-none v (sym at))

  pub copies : (id : ℕ) (v : View E) → Splits FrontsKept id v v v
  copies id v s kept at = record {
    all = kept.all;
    one_word = kept.one_word;
    count = kept.count;
    views = λ j u e. ⊎_elim
        (λ (there : get_elem? (set s.views id v) j ≡ some u). ⊎_elim
        (λ (y : (j ≡ id) × (v ≡ u)). subst (KnowsAFront kept.all) y.1 (kept.views id v at))
        (λ (y : (j ≢ id) × (get_elem? s.views j ≡ some u)). kept.views j u y.1)
        (at_set s.views id j v u there))
        (λ (same : v ≡ u). subst (KnowsAFront kept.all) same (kept.views id v at))
        (at_snoc (set s.views id v) v u j e);
  }

  pub joins : (id : ℕ) (v : View E) (other : ℕ) (w : View E) → Joins FrontsKept id v other w (both_seen v w) nothing_seen
  joins id v other w s kept at apart there =
      let both = both_seen v w in
      let theirs : get_elem? s.views other ≡ some w = ⊎_elim (λ (x : (other ≡ id) × (both ≡ w)). absurd (apart x.0)) (λ (x : (other ≢ id) × (get_elem? s.views other ≡ some w)). x.1) (at_set s.views id other both w there) in
      let f = kept.views id v at in
      let g = kept.views other w theirs in
      let same : v.seen ++ f.seen.0 ≡ w.seen ++ g.seen.0 = sym f.seen.1 ∙ g.seen.1 in
      let fits : KnowsAFront kept.all both = record {
        seen = subst (StandsAtFront (longer v.seen w.seen)) (sym f.seen.1) (longer_all v.seen w.seen f.seen.0 g.seen.0 same);
        left = longer_left v.seen w.seen f.seen.0 g.seen.0 same;
        right = longer_right v.seen w.seen f.seen.0 g.seen.0 same;
      } in
      record {
        all = kept.all;
        one_word = kept.one_word;
        count = kept.count;
        views = λ j u e. ⊎_elim
            (λ (x : (j ≡ other) × (nothing_seen ≡ u)). subst (KnowsAFront kept.all) x.1 (nothing_fits kept.all))
            (λ (x : (j ≢ other) × (get_elem? (set s.views id both) j ≡ some u)). ⊎_elim
            (λ (y : (j ≡ id) × (both ≡ u)). subst (KnowsAFront kept.all) y.1 fits)
            (λ (y : (j ≢ id) × (get_elem? s.views j ≡ some u)). kept.views j u y.1)
            (at_set s.views id j both u x.1))
            (at_set (set s.views id both) other j nothing_seen u e);
      }

  pub shows : (slots id : ℕ) (me : Me (Unit {0}) (View E)) → Allows FrontsKept slots id me 0 (λ n. n) (λ found after. HasShown me after)
  shows slots id me s kept count at small =
      let f = kept.views id me.0 at in
      let ws : set s.words 0 (slice_index s.words 0) ≡ s.words = set-get_or s.words 0 0 in (
        me.0,
        keeps,
        tt,
        subst (λ (l : List ℕ). FrontsKept (record { words = l; homes = s.homes; views = set s.views id me.0 })) (sym ws) (record {
          all = kept.all;
          one_word = kept.one_word;
          count = kept.count;
          views = λ j u e. ⊎_elim
              (λ (y : (j ≡ id) × (me.0 ≡ u)). subst (KnowsAFront kept.all) y.1 f)
              (λ (y : (j ≢ id) × (get_elem? s.views j ≡ some u)). kept.views j u y.1)
              (at_set s.views id j me.0 u e);
        }),
        (refl, f.left, f.right),
      )

  pub grows : (slots id n : ℕ) (x : E) (me : Me (Unit {0}) (View E)) → length me.0.seen ≡ n → Allows FrontsKept slots id me 0 (λ k. either (k == n) (n + 1) k) (HasGrown n x me)
  grows slots id n x me long s kept count at small = by_test (slice_index s.words 0 == n) refl
    where
      k : ℕ
      k = slice_index s.words 0

      f : KnowsAFront kept.all me.0
      f = kept.views id me.0 at

      new : View E
      new = record { seen = me.0.seen ++ x ∷ []; left = me.0.left; right = me.0.right }

      by_test : (b : Bool) → (k == n) ≡ b → (w : View E) × (a : table.Act (Unit {0})) × table.Valid s.homes me.1 a × FrontsKept (stepped s 0 (either b (n + 1) k) id me.1 w a) × HasGrown n x me k (w, table.carried_after me.1 a)
      by_test true e =
          let is : k ≡ n = eqb-true k n e in
          let none : f.seen.0 ≡ [] = none_left me.0.seen f.seen.0 (long ∙ sym is ∙ kept.count ∙ ap length f.seen.1) in
          let all : kept.all ≡ me.0.seen = f.seen.1 ∙ ap (λ (l : List E). me.0.seen ++ l) none ∙ append-nil me.0.seen in
          let one = kept.one_word in (
            new,
            keeps,
            tt,
            record {
              all = kept.all ++ x ∷ [];
              one_word = length-set s.words 0 _ ∙ kept.one_word;
              count = get_or-set_same s.words 0 (n + 1) 0 (omega (arith, one)) ∙ (let l = length-append kept.all (x ∷ []) in let c = kept.count in omega (arith, l, c, is));
              views = λ j u e. ⊎_elim
                  (λ (y : (j ≡ id) × (new ≡ u)). subst (KnowsAFront (kept.all ++ x ∷ [])) y.1 (record {
                    seen = ([], ap (λ (l : List E). l ++ x ∷ []) all ∙ sym (append-nil (me.0.seen ++ x ∷ [])));
                    left = begins_more me.0.left me.0.seen (x ∷ []) f.left;
                    right = begins_more me.0.right me.0.seen (x ∷ []) f.right;
                  }))
                  (λ (y : (j ≢ id) × (get_elem? s.views j ≡ some u)). let g = kept.views j u y.1 in record { seen = begins_more u.seen kept.all (x ∷ []) g.seen; left = g.left; right = g.right })
                  (at_set s.views id j new u e);
            },
            ((λ _. (refl, refl)), (λ ne. absurd (ne is))),
          )
      by_test false e =
          let ne : k ≢ n = eqb-false k n e in
          let ws : set s.words 0 k ≡ s.words = set-get_or s.words 0 0 in (
            me.0,
            keeps,
            tt,
            subst (λ (l : List ℕ). FrontsKept (record { words = l; homes = s.homes; views = set s.views id me.0 })) (sym ws) (record {
              all = kept.all;
              one_word = kept.one_word;
              count = kept.count;
              views = λ j u e. ⊎_elim
                  (λ (y : (j ≡ id) × (me.0 ≡ u)). subst (KnowsAFront kept.all) y.1 f)
                  (λ (y : (j ≢ id) × (get_elem? s.views j ≡ some u)). kept.views j u y.1)
                  (at_set s.views id j me.0 u e);
            }),
            ((λ is. absurd (ne is)), (λ _. refl)),
          )

  pub joined_is : (v w m after : View E) → m ≡ both_seen v w → after.seen ≡ m.seen → StandsAtFront m.left m.seen → StandsAtFront m.right m.seen → (xs ys : List E) → v.seen ≡ xs → w.seen ≡ ys → (after.seen ≡ xs) ⊎ (after.seen ≡ ys)
  joined_is v w m after is same b c xs ys px py =
      let b' : StandsAtFront v.seen after.seen = subst (StandsAtFront v.seen) (sym same) (subst (λ (l : List E). StandsAtFront l m.seen) (ap (λ (x : View E). x.left) is) b) in
      let c' : StandsAtFront w.seen after.seen = subst (StandsAtFront w.seen) (sym same) (subst (λ (l : List E). StandsAtFront l m.seen) (ap (λ (x : View E). x.right) is) c) in
      ⊎_elim (λ e. inl (e ∙ px)) (λ e. inr (e ∙ py)) (longer_is v.seen w.seen after.seen (same ∙ ap (λ (x : View E). x.seen) is) b' c')
