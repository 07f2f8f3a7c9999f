-- The value is taken out, and comes back.
use Rattle.std.proofs.Common.{◌≡◌, ℕ, ◌<◌, ◌==◌, Bool, true, false, List, [], ◌∷◌, Option, Some, set, refl, sym, ap, ◌∙◌, arith, subst, length-set, get_or-set_same}
use Rattle.std.specs.Prelude.{slice_index}
use mathlib.Core.Option.{some}
use prog.Atomic.{either}
use borrow.Author.Tests.{eqb-true, eqb-false}
use Rattle.atomic_table.specs.Table as table
use Rattle.atomic_table.specs.Table.{Allows, Enters, Me, Valid, gives, keeps, stepped, takes}
use Rattle.atomic_table.proofs.Lists.{set_here}
use Rattle.kc_holder.specs.Lent.{LendsKept, TakesOut}

-- a word that is above 0 is left above it
pub above : (n : ℕ) → 0 < either (n == 0) 1 n
above n = by_test (n == 0) refl
  where
    by_test : (b : Bool) → (n == 0) ≡ b → 0 < either b 1 n
    by_test true e = omega arith
    by_test false e = let ne = eqb-false n 0 e in omega arith

module _ {T X : Type 0} (fits : T → X → Type 0) (tag : T) where
  pub opens : (x : X) → fits tag x → LendsKept fits tag (table.opening (0 ∷ []) (Some x ∷ []) tag)
  opens x f = record { one_word = refl; one_slot = refl; home = λ _. (x, refl, f) }

  pub enters : (slots : ℕ) → Enters (LendsKept fits tag) slots 0 (λ n w. ◌≡◌ {A = Me (Option X) T} (w, []) (tag, []))
  enters slots s kept count small = (tag, record { one_word = kept.one_word; one_slot = kept.one_slot; home = kept.home }, refl)

  -- by a step that leaves the word above 0, whatever it finds
  pub takes_out : (slots id : ℕ) (me : Me (Option X) T) (f : ℕ → ℕ) → ((n : ℕ) → 0 < f n) → me.0 ≡ tag → Allows (LendsKept fits tag) slots id me 0 f (TakesOut fits me)
  takes_out slots id me f above is s kept count at small = by_test (slice_index s.words 0 == 0) refl
    where
      n : ℕ
      n = slice_index s.words 0

      word : slice_index (set s.words 0 (f n)) 0 ≡ f n
      word = let one = kept.one_word in get_or-set_same s.words 0 (f n) 0 (omega (arith, one))

      by_test : (b : Bool) → (n == 0) ≡ b → (w : T) × (a : table.Act (Option X)) × Valid s.homes me.1 a × LendsKept fits tag (stepped s 0 (f n) id me.1 w a) × TakesOut fits me n (w, table.carried_after me.1 a)
      by_test true e =
          let zero : n ≡ 0 = eqb-true n 0 e in
          let home = kept.home zero in
          let more = above n in (
            me.0,
            takes 0 (Some home.0),
            home.1,
            record { one_word = length-set s.words 0 _ ∙ kept.one_word; one_slot = length-set s.homes 0 _ ∙ kept.one_slot; home = λ z. absurd (omega (arith, z, word, more)) },
            ((λ _. (home.0, refl, subst (λ t. fits t home.0) (sym is) home.2)), (λ ne. absurd (ne zero))),
          )
      by_test false e =
          let ne = eqb-false n 0 e in
          let more = above n in (
            me.0,
            keeps,
            tt,
            record { one_word = length-set s.words 0 _ ∙ kept.one_word; one_slot = kept.one_slot; home = λ z. absurd (omega (arith, z, word, more)) },
            ((λ z. absurd (ne z)), (λ _. refl)),
          )

  -- with a value that fits
  pub gives_back : (slots id : ℕ) (me : Me (Option X) T) (x : X) → me.1 ≡ (0, Some x) ∷ [] → fits tag x → Allows (LendsKept fits tag) slots id me 0 (λ _. 0) (λ _ after. after ≡ (me.0, []))
  gives_back slots id me x has f s kept count at small = (
    me.0,
    gives,
    tt,
    subst (λ (l : List (ℕ × Option X)). LendsKept fits tag (stepped s 0 0 id l me.0 gives)) (sym has) (record {
      one_word = length-set s.words 0 _ ∙ kept.one_word;
      one_slot = length-set s.homes 0 _ ∙ kept.one_slot;
      home = λ _. (x, set_here s.homes 0 (some (Some x)) (let one = kept.one_slot in omega (arith, one)), f);
    }),
    ap (λ (l : List (ℕ × Option X)). (me.0, table.rest l)) has,
  )
