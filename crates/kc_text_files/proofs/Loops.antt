-- What loops over the lines of a file keep.
use Rattle.std.proofs.Common.{◌≡◌, ℕ, ◌≤◌, true, false, List, [], ◌∷◌, ◌++◌, length, map, take, refl, sym, ap, ◌∙◌, arith}
use Rattle.std.specs.Prelude.{All, ◌==◌}
use Rattle.std.proofs.lemmas.Bool.Decides.{nat_tests}
use Rattle.kc_script_lines.specs.Words.{value_on}
use Rattle.kc_text.specs.declared.texts.TheConstants.{MOST_TEXTS}
use Rattle.kc_text_files.proofs.Faults.{Passed}
use Rattle.kc_text_files.specs.Files.{pick_tests, text_tests, whole}
use Rattle.kc_text_files.specs.declared.TheConstants.{MOST_PICKS}

-- ---- the empty line behind a last newline

whole_less : (before : List (List ℕ)) → whole (before ++ [] ∷ []) ≡ before
whole_less [] = refl
whole_less (x ∷ []) = refl
whole_less (x ∷ y ∷ xs) = ap (λ l. x ∷ l) (whole_less (y ∷ xs))

whole_same : (before : List (List ℕ)) (last : List ℕ) → (length last == 0) ≡ false → whole (before ++ last ∷ []) ≡ before ++ last ∷ []
whole_same [] last e = rw e refl
whole_same (x ∷ []) last e = rw e refl
whole_same (x ∷ y ∷ xs) last e = ap (λ l. x ∷ l) (whole_same (y ∷ xs) last e)

map_last : {X : Type 0} (f : X → List ℕ) (before : List X) (last : X) → map f (before ++ last ∷ []) ≡ map f before ++ f last ∷ []
map_last f [] last = refl
map_last f (x ∷ xs) last = ap (λ l. f x ∷ l) (map_last f xs last)

is_none : (xs : List ℕ) → (length xs == 0) ≡ true → xs ≡ []
is_none [] e = refl
is_none (x ∷ xs) e = absurd (grind (arith, nat_tests, e))

pub without_last : {X : Type 0} (f : X → List ℕ) (rows before : List X) (last : X) → rows ≡ before ++ last ∷ [] → (length (f last) == 0) ≡ true → map f before ≡ whole (map f rows)
without_last f rows before last e none = sym (ap (λ l. whole (map f l)) e ∙ ap whole (map_last f before last) ∙ ap (λ x. whole (map f before ++ x ∷ [])) (is_none (f last) none) ∙ whole_less (map f before))

pub with_last : {X : Type 0} (f : X → List ℕ) (rows before : List X) (last : X) → rows ≡ before ++ last ∷ [] → (length (f last) == 0) ≡ false → map f rows ≡ whole (map f rows)
with_last f rows before last e some =
    let is : map f rows ≡ map f before ++ f last ∷ [] = ap (map f) e ∙ map_last f before last in
    is ∙ sym (whole_same (map f before) (f last) some) ∙ ap whole (sym is)

-- ---- the texts of the first i lines

pub record TextsTo (rows texts : List (List ℕ)) (i : ℕ) : Type 0 where
  pub passed : Passed text_tests rows i
  pub read : texts ≡ take i rows
  pub few : i ≤ MOST_TEXTS

-- ---- the picks

pub record PicksTo (most : ℕ) (rows : List (List ℕ)) (picks : List ℕ) (i : ℕ) : Type 0 where
  pub passed : Passed (pick_tests most) rows i
  pub read : picks ≡ map (value_on 0) (take i rows)
  pub few : i ≤ MOST_PICKS
  pub within : All (λ k. (1 ≤ k) × (k ≤ most)) picks
