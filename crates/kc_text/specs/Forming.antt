-- Which cells of texts are well formed.
use Rattle.std.specs.Prelude.{◌≡◌, ℕ, zero, suc, ◌+◌, ◌≤◌, ◌<◌, ◌==◌, ◌⊎◌, cond}
use Rattle.kc_text.specs.Meaning.{IsText, leases_at, names_at, place_at, texts_cells}
use Rattle.kc_text.specs.declared.texts.TheConstants.{BURIED}
use Rattle.kc_text.specs.declared.texts.Texts.{Texts}
use Rattle.kc_xt.specs.Structure.{Standing}

-- how many of the first n places name text j
abbrev pub naming : Texts → (ℕ → ℕ) → (text n : ℕ) → ℕ
naming t m j zero = 0
naming t m j (suc n) = cond (m (place_at t n) == j) 1 0 + naming t m j n

-- what the cells of a text say is so: as many places name it as its names; or it is buried, and then none names it and no lease of it is open
abbrev pub IsSaid : (names leases places : ℕ) → Type 0
IsSaid names leases places = (names ≡ places) ⊎ ((names ≡ BURIED) × (places ≡ 0) × (leases ≡ 0))

abbrev pub TextsAreWellFormed : Texts → (ℕ → ℕ) → Type 0
TextsAreWellFormed t m = (j : ℕ) → IsText t j → IsSaid (m (names_at t j)) (m (leases_at t j)) (naming t m j t.places)

-- likewise, in the words of the structures: they stand for nothing further
abbrev pub Formed : Texts → Standing (Unit {0})
Formed t m content = TextsAreWellFormed t m

-- l is one of the cells
abbrev pub IsCell : Texts → ℕ → Type 0
IsCell t l = (t.base.0 ≤ l) × (l < t.base.0 + texts_cells t)

-- what each cell opens with
abbrev pub text_opening : ℕ → ℕ
text_opening index = 0

-- as they open
abbrev pub AreZero : Texts → (ℕ → ℕ) → Type 0
AreZero t m = (l : ℕ) → IsCell t l → m l ≡ 0
