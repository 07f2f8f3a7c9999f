-- A text misses a line of its form at one place, and none where all lines come.
use Rattle.std.proofs.Common.{◌≡◌, inl, inr, ℕ, zero, suc, ◌+◌, ◌<◌, ◌≤◌, ◌^◌, List, [], ◌∷◌, ◌++◌, length, refl, sym, subst, ◌∙◌, arith, slice_index_or}
use Rattle.std.specs.Prelude.{codes, replicate}
use Rattle.kc_script_bundle.specs.Script.{Names, Script}
use Rattle.kc_script_bundle.specs.declared.operation.Command.{Command}
use Rattle.kc_check.proofs.Forming.{lacks_by_test, reply_is_line}
use Rattle.kc_check.proofs.Parted.{held_shapes}
use Rattle.kc_check.proofs.Placed.{named_is_line}
use Rattle.kc_check.proofs.Spaced.{held_is_line}
use Rattle.kc_check.proofs.Unique.{line_one}
use Rattle.kc_check.specs.Forms.{AreShaped, FailsAt, HasShape, Shape, just, place, replies_shapes, shapes, thread_shapes}
use Rattle.kc_check.specs.Laid.{AreFew, IsLine}
use Rattle.kc_check.specs.Parts.{joined_lines, places_in}
use Rattle.kc_check.specs.Reads.{HaveNames}

module _ (threads : List (List Command)) where
  -- what has one of these shapes is one line
  abbrev pub AreOfLines : List Shape → Type 0
  AreOfLines [] = Unit {0}
  AreOfLines (k ∷ ks) = ((line : List ℕ) → HasShape threads k line → IsLine line) × AreOfLines ks

  of_both : (ks js : List Shape) → AreOfLines ks → AreOfLines js → AreOfLines (ks ++ js)
  of_both [] js h i = i
  of_both (k ∷ ks) js h i = (h.0, of_both ks js h.1 i)

  -- lines that come are not missed
  pub misses_none : (ks : List Shape) (lines : List (List ℕ)) (text : List ℕ) (n line : ℕ) → AreOfLines ks → AreShaped threads ks lines → text ≡ joined_lines lines → FailsAt threads ks text n line → ⊥
  misses_none [] [] text n line of shaped e f = f.0 e
  misses_none [] (l ∷ lines) text n line of shaped e f = shaped
  misses_none (k ∷ ks) [] text n line of shaped e f = shaped
  misses_none (k ∷ ks) (l ∷ lines) text n line of shaped e (inl f) = f.0 l (joined_lines lines) shaped.0 e
  misses_none (k ∷ ks) (l ∷ lines) text n line of shaped e (inr (first, rest, shape, is, fails)) =
      let same = line_one first l rest (joined_lines lines) (of.0 first shape) (of.0 l shaped.0) (sym is ∙ e) in
      misses_none ks lines rest (n + 1) line of.1 shaped.1 same.1 fails

  -- the first line that is missed is one
  pub misses_once : (ks : List Shape) (text : List ℕ) (n line again : ℕ) → AreOfLines ks → FailsAt threads ks text n line → FailsAt threads ks text n again → line ≡ again
  misses_once [] text n line again of f g = f.1 ∙ sym g.1
  misses_once (k ∷ ks) text n line again of (inl f) (inl g) = f.1 ∙ sym g.1
  misses_once (k ∷ ks) text n line again of (inl f) (inr (first, rest, shape, is, fails)) = absurd (f.0 first rest shape is)
  misses_once (k ∷ ks) text n line again of (inr (first, rest, shape, is, fails)) (inl g) = absurd (g.0 first rest shape is)
  misses_once (k ∷ ks) text n line again of (inr (first, rest, shape, is, fails)) (inr (other, back, also, same, misses)) =
      let one = line_one other first back rest (of.0 other also) (of.0 first shape) (sym same ∙ is) in
      misses_once ks rest (n + 1) line again of.1 fails (subst (λ (z : List ℕ). FailsAt threads ks z (n + 1) again) one.1 misses)

  -- ---- the shapes of a script

  thread_of_lines : (thread number n : ℕ) → thread < 2 ^ 64 → number + n < 2 ^ 64 → AreOfLines (thread_shapes thread number n)
  thread_of_lines thread number zero small few = tt
  thread_of_lines thread number (suc n) small few = (λ line h. reply_is_line thread number line small (omega (arith, few)) h, thread_of_lines thread (number + 1) n small (omega (arith, few)))

  replies_of_lines : (thread : ℕ) (all : List (List Command)) → thread + length all ≤ 17 → ((t : ℕ) → length (slice_index_or all t []) ≤ 4096) → AreOfLines (replies_shapes thread all)
  replies_of_lines thread [] few short = tt
  replies_of_lines thread (cs ∷ all) few short =
      let le = short zero in
      of_both (thread_shapes thread 1 (length cs)) (replies_shapes (thread + 1) all) (thread_of_lines thread 1 (length cs) (omega (arith, few)) (omega (arith, le))) (replies_of_lines (thread + 1) all (omega (arith, few)) (λ t. short (suc t)))

  places_of_lines : (n : ℕ) → AreFew threads → AreOfLines (replicate n place)
  places_of_lines zero few = tt
  places_of_lines (suc n) few = (λ line h. named_is_line threads line few h, places_of_lines n few)

  held_of_lines : (names : Names) → HaveNames names → AreOfLines (held_shapes names)
  held_of_lines [] h = tt
  held_of_lines (entry ∷ names) h = (λ line held. held_is_line entry.0 line (h zero entry (omega arith)) held, held_of_lines names (λ i d lt. h (suc i) d (omega arith)))

pub shapes_of_lines : (s : Script) → length s.threads ≤ 16 → ((t : ℕ) → length (slice_index_or s.threads t []) ≤ 4096) → HaveNames s.objects → AreOfLines s.threads (shapes s)
shapes_of_lines s few short names =
    let some : AreFew s.threads = record { threads_few = omega (arith, few); commands_few = λ u. (let le = short u in omega (arith, le)) } in
    of_both s.threads (replies_shapes 1 s.threads) (just (codes "order\n") ∷ (replicate (places_in s.threads) place ++ (just (codes "state\n") ∷ held_shapes s.objects))) (replies_of_lines s.threads 1 s.threads (omega (arith, few)) short) (
      one (codes "order\n") (record { body = codes "order"; lacks = lacks_by_test (codes "order") refl; is = refl }),
      of_both s.threads (replicate (places_in s.threads) place) (just (codes "state\n") ∷ held_shapes s.objects) (places_of_lines s.threads (places_in s.threads) some)
          (one (codes "state\n") (record { body = codes "state"; lacks = lacks_by_test (codes "state") refl; is = refl }), held_of_lines s.threads s.objects names),
    )
  where
    one : (bytes : List ℕ) → IsLine bytes → (line : List ℕ) → line ≡ bytes → IsLine line
    one bytes h line is = subst IsLine (sym is) h
