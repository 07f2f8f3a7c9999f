-- What is written of the texts that were read.
use Rattle.std.proofs.Common.{◌≡◌, ◌-◌, ℕ, zero, suc, List, [], ◌∷◌, ◌++◌, refl, sym, ◌∙◌}
use Rattle.std.specs.Prelude.{Some, slice_get, slice_index_or}
use Rattle.std.specs.List.{flat_map}
use Rattle.std.proofs.lemmas.Grind.{flat_map-append}
use Rattle.kc_text_files.specs.Files.{file_line, picked_lines}
use Rattle.kc_text_run.specs.Picking.{AreTextsOf}

text_at : (pool : List (List ℕ)) (i : ℕ) (x : List ℕ) → slice_get pool i ≡ Some x → slice_index_or pool i [] ≡ x
text_at [] i x e = absurd (cc)
text_at (y ∷ ys) zero x e = let same : y ≡ x = cc in same
text_at (y ∷ ys) (suc i) x e = text_at ys i x e

lines_of : (pool : List (List ℕ)) (picks : List ℕ) (xs : List (List ℕ)) → AreTextsOf pool picks xs → flat_map file_line xs ≡ picked_lines pool picks
lines_of pool [] [] h = refl
lines_of pool [] (x ∷ xs) h = absurd h
lines_of pool (k ∷ ks) [] h = absurd h
lines_of pool (k ∷ ks) (x ∷ xs) h = let at = text_at pool (k - 1) x h.0 in λ i. file_line (sym at i) ++ lines_of pool ks xs h.1 i

pub are_picked : (pool : List (List ℕ)) (picks : List ℕ) (front back : List (List ℕ)) → AreTextsOf pool picks (front ++ back) → flat_map file_line front ++ flat_map file_line back ≡ picked_lines pool picks
are_picked pool picks front back h = sym (flat_map-append file_line front back) ∙ lines_of pool picks (front ++ back) h
