-- Lines that are found again where they begin.
use Rattle.std.proofs.Common.{◌≡◌, ◌≢◌, ℕ, zero, suc, ◌+◌, ◌-◌, ◌<◌, cond, List, [], ◌∷◌, ◌++◌, take, drop, length, refl, sym, ap, ◌∙◌, append_assoc, arith}
use Rattle.std.proofs.Math.Seq.{drop-append_seam}
use Rattle.std.proofs.lemmas.Bool.{ne_eqb}
use Rattle.std.proofs.lemmas.List.{length-append, length-drop, take_all}
use Rattle.std.specs.Io.BufRead.{take_through}
use Rattle.std.specs.Prelude.{slice_index}
use Rattle.kc_check.specs.Laid.{IsLine, ByteIsMissing}
use Rattle.kc_check.specs.Reads.{IsEndOf}
use Rattle.kc_check.specs.Walks.{lines_at}

-- a byte that ends no line
goes_on : (b : ℕ) (bs : List ℕ) → b ≢ 10 → take_through 10 (b ∷ bs) ≡ b ∷ take_through 10 bs
goes_on b bs far = ap (λ t. cond t (b ∷ []) (b ∷ take_through 10 bs)) (ne_eqb b 10 far)

first_body : (body rest : List ℕ) → ByteIsMissing 10 body → take_through 10 ((body ++ 10 ∷ []) ++ rest) ≡ body ++ 10 ∷ []
first_body [] rest h = refl
first_body (b ∷ body) rest h = goes_on b ((body ++ 10 ∷ []) ++ rest) h.0 ∙ ap (λ (xs : List ℕ). b ∷ xs) (first_body body rest h.1)

-- the first line of a line and more
first_is : (line rest : List ℕ) → IsLine line → take_through 10 (line ++ rest) ≡ line
first_is line rest h = ap (λ (l : List ℕ). take_through 10 (l ++ rest)) h.is ∙ first_body h.body rest h.lacks ∙ sym h.is

-- where none ends
first_all : (bytes : List ℕ) → ByteIsMissing 10 bytes → take_through 10 bytes ≡ bytes
first_all [] h = refl
first_all (b ∷ bytes) h = goes_on b bytes h.0 ∙ ap (λ (xs : List ℕ). b ∷ xs) (first_all bytes h.1)

-- where the first ends
first_to : (bytes : List ℕ) (end : ℕ) → end < length bytes → ByteIsMissing 10 (take end bytes) → slice_index bytes end ≡ 10 → take_through 10 bytes ≡ take (end + 1) bytes
first_to [] end lt h e = absurd (omega arith)
first_to (b ∷ bytes) zero lt h e = ap (λ (x : ℕ). take_through 10 (x ∷ bytes)) e ∙ ap (λ (x : ℕ). x ∷ []) (sym e)
first_to (b ∷ bytes) (suc end) lt h e = goes_on b bytes h.0 ∙ ap (λ (xs : List ℕ). b ∷ xs) (first_to bytes end (omega arith) h.1 e) ∙ ap (λ (n : ℕ). take n (b ∷ bytes)) (let same : suc (end + 1) ≡ suc end + 1 = omega arith in same)

-- a text from a place on, as a slice has it
rest_of : (text : List ℕ) (start : ℕ) → take (length text - start) (drop start text) ≡ drop start text
rest_of text start = let long = length-drop start text in take_all (length text - start) (drop start text) (omega (arith, long))

pub line_of : (text : List ℕ) (start end : ℕ) → end < length (take (length text - start) (drop start text)) → ByteIsMissing 10 (take end (take (length text - start) (drop start text))) → slice_index (take (length text - start) (drop start text)) end ≡ 10
    → take (end + 1) (take (length text - start) (drop start text)) ≡ take_through 10 (drop start text)
line_of text start end lt h e = sym (first_to (take (length text - start) (drop start text)) end lt h e) ∙ ap (take_through 10) (rest_of text start)

pub last_of : (text : List ℕ) (start : ℕ) → ByteIsMissing 10 (take (length text - start) (drop start text)) → take (length text - start) (drop start text) ≡ take_through 10 (drop start text)
last_of text start h = sym (first_all (take (length text - start) (drop start text)) h) ∙ ap (take_through 10) (rest_of text start)

-- what is left behind a line is the end of the text too
pub end_on : (text rest line next : List ℕ) → IsEndOf text rest → rest ≡ line ++ next → IsEndOf text next
end_on text rest line next (front, e) is = (front ++ line, e ∙ ap (λ (xs : List ℕ). front ++ xs) is ∙ sym (append_assoc front line next))

-- the line is the one that begins where so much of the text is left
pub line_again : (text rest line next : List ℕ) (start : ℕ) → IsEndOf text rest → rest ≡ line ++ next → IsLine line → start ≡ length text - length rest → take_through 10 (drop start text) ≡ line
line_again text rest line next start (front, e) is h at =
    let a = ap length e in
    let b = length-append front rest in
    let s : start ≡ length front = omega (arith, a, b, at) in
    ap (λ (k : ℕ). take_through 10 (drop k text)) s ∙ ap (λ (xs : List ℕ). take_through 10 (drop (length front) xs)) e ∙ ap (take_through 10) (drop-append_seam front rest) ∙ ap (take_through 10) is ∙ first_is line next h

pub starts_more : (text starts : List ℕ) (start : ℕ) (line : List ℕ) → take_through 10 (drop start text) ≡ line → lines_at text (starts ++ start ∷ []) ≡ lines_at text starts ++ line ∷ []
starts_more text [] start line e = ap (λ (l : List ℕ). l ∷ []) e
starts_more text (s ∷ starts) start line e = ap (λ (ls : List (List ℕ)). take_through 10 (drop s text) ∷ ls) (starts_more text starts start line e)
