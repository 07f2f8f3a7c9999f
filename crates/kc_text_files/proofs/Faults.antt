-- The first fault, line by line.
use Rattle.std.proofs.Common.{◌≡◌, ℕ, suc, ◌+◌, ◌<◌, ◌≤◌, Bool, List, [], length, drop, get_or, Option, None, Some, sym, ap, ◌∙◌, arith, drop-cons}
use Rattle.std.proofs.lemmas.List.{drop_all}
use Rattle.kc_script_lines.specs.Tests.{first_failing}
use Rattle.kc_script_lines.specs.declared.fault.Why.{Why}
use Rattle.kc_text_files.specs.Files.{first_faulty_line, or_next}

module _ (tests : ℕ → List ℕ → List (Bool × Why)) (rows : List (List ℕ)) where
  -- the first i lines have no fault
  abbrev pub Passed : ℕ → Type 0
  Passed i = first_faulty_line tests (i + 1) (drop i rows) ≡ first_faulty_line tests 1 rows

  -- at line i, by what its tests say
  here : (i : ℕ) (o : Option Why) → Passed i → i < length rows → first_failing (tests (i + 1) (get_or rows i [])) ≡ o → first_faulty_line tests 1 rows ≡ or_next (i + 1) o (first_faulty_line tests (i + 1 + 1) (drop (i + 1) rows))
  here i o p lt e =
      let next : suc (i + 1) ≡ i + 1 + 1 = omega arith in
      let behind : suc i ≡ i + 1 = omega arith in
      sym p ∙ ap (first_faulty_line tests (i + 1)) (drop-cons rows i [] lt) ∙ (λ j. or_next (i + 1) (e j) (first_faulty_line tests (next j) (drop (behind j) rows)))

  pub passes : (i : ℕ) → Passed i → i < length rows → first_failing (tests (i + 1) (get_or rows i [])) ≡ None → Passed (i + 1)
  passes i p lt e = sym (here i None p lt e)

  pub fails : (i : ℕ) (w : Why) → Passed i → i < length rows → first_failing (tests (i + 1) (get_or rows i [])) ≡ Some w → first_faulty_line tests 1 rows ≡ Some (i + 1, w)
  fails i w p lt e = here i (Some w) p lt e

  pub none_left : (i : ℕ) → Passed i → length rows ≤ i → first_faulty_line tests 1 rows ≡ None
  none_left i p le = sym p ∙ ap (first_faulty_line tests (i + 1)) (drop_all i rows le)
