-- The first line of bytes, cut off at the first newline.
use Rattle.std.proofs.Common.{◌≡◌, ℕ, zero, suc, ◌+◌, ◌-◌, ◌<◌, Bool, true, false, eqb, List, [], ◌∷◌, length, take, drop, refl, ap, ◌∙◌, arith, add-one}
use Rattle.std.specs.List.{onto_first}
use Rattle.std.proofs.lemmas.List.Splits.{slice_split-cons_yes, slice_split-cons_no}
use Rattle.std.proofs.lemmas.List.{length-drop, take_all}
use Rattle.memchr.specs.Find.{Nowhere, Passes, is_byte}
use Rattle.kc_script_lines.specs.Words.{lines}

fails : (b : Bool) → ¬ (b ≡ true) → b ≡ false
fails true h = absurd (h refl)
fails false h = refl

-- no newline in the first bytes, and so none in those behind the first
behind : (b : ℕ) (bs : List ℕ) (n : ℕ) → Nowhere (Passes (is_byte 10) (b ∷ bs)) 0 (suc n) → Nowhere (Passes (is_byte 10) bs) 0 n
behind b bs n h k low high p = h (suc k) (omega arith) (omega arith) p

-- where there is none, all is one line
pub one_line : (bytes : List ℕ) → Nowhere (Passes (is_byte 10) bytes) 0 (length bytes) → lines bytes ≡ bytes ∷ []
one_line [] h = refl
one_line (b ∷ bs) h = slice_split-cons_no (λ x. eqb x 10) b bs (fails _ (h 0 (omega arith) (omega arith))) ∙ ap (onto_first b) (one_line bs (behind b bs (length bs) h))

-- the line ends at the first one
pub cut_line : (bytes : List ℕ) (k : ℕ) → k < length bytes → Nowhere (Passes (is_byte 10) bytes) 0 k → Passes (is_byte 10) bytes k → lines bytes ≡ take k bytes ∷ lines (drop (suc k) bytes)
cut_line [] k lt h p = absurd (omega arith)
cut_line (b ∷ bs) zero lt h p = slice_split-cons_yes (λ x. eqb x 10) b bs p
cut_line (b ∷ bs) (suc k) lt h p = slice_split-cons_no (λ x. eqb x 10) b bs (fails _ (h 0 (omega arith) (omega arith))) ∙ ap (onto_first b) (cut_line bs k (omega arith) (behind b bs k h) p)

pub first_cut : (bytes : List ℕ) (k : ℕ) → k < length bytes → Nowhere (Passes (is_byte 10) bytes) 0 k → Passes (is_byte 10) bytes k → lines bytes ≡ take k bytes ∷ lines (take (length bytes - (k + 1)) (drop (k + 1) bytes))
first_cut bytes k lt h p = rw (take_all (length bytes - (k + 1)) (drop (k + 1) bytes) (omega (arith, length-drop (k + 1) bytes)), add-one) (cut_line bytes k lt h p)
