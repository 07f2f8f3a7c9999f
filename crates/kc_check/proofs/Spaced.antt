-- Words with a space before each.
use Rattle.std.proofs.Common.{◌≡◌, ◌≢◌, inl, inr, ℕ, zero, suc, ◌+◌, ◌<◌, ◌≤◌, ◌==◌, ◌&&◌, ◌||◌, not, if◌then◌else◌, Bool, true, false, List, [], ◌∷◌, ◌++◌, All, length, drop, get_or, refl, sym, ap, ◌∙◌, append_assoc, arith, eq-eqb, ne_eqb}
use Rattle.std.proofs.lemmas.List.{drop_more}
use Rattle.std.specs.Prelude.{IsTrue, codes}
use Rattle.kc_history.proofs.Ready.{same_or}
use Rattle.kc_check.proofs.Matched.{not_both}
use Rattle.kc_check.proofs.Unique.{lacks_append}
use Rattle.kc_check.specs.Laid.{IsLine, ByteIsMissing}
use Rattle.kc_check.specs.Forms.{IsHeld, IsWord}
use Rattle.kc_check.specs.Reads.{IsNoFront, SaysSpaced, SaysWords, spaced}

Solid : ℕ → Type 0
Solid b = (b ≢ 32) × (b ≢ 10)

-- what a test of the bytes one after another finds, where a word is to begin or not
unfoldable pub are_spaced : Bool → List ℕ → Bool
are_spaced begins [] = not begins
are_spaced begins (b ∷ bs) = if (b == 10) || (begins && (b == 32)) then false else are_spaced (b == 32) bs

all_cons : {X : Type 0} (P : X → Type 0) (x : X) (xs : List X) → P x → All P xs → All P (x ∷ xs)
all_cons P x xs h k zero d lt = h
all_cons P x xs h k (suc i) d lt = k i d (omega arith)

all_head : {X : Type 0} (P : X → Type 0) (x : X) (xs : List X) → All P (x ∷ xs) → P x
all_head P x xs h = h zero x (omega arith)

all_tail : {X : Type 0} (P : X → Type 0) (x : X) (xs : List X) → All P (x ∷ xs) → All P xs
all_tail P x xs h i d lt = h (suc i) d (omega arith)

all_none : {X : Type 0} (P : X → Type 0) → All P []
all_none P i d lt = absurd (omega arith)

-- what has been said so far of a word, which has at least a byte where it begins, and words behind it
record Says (begins : Bool) (text : List ℕ) : Type 0 where
  word : List ℕ
  words : List (List ℕ)
  some : begins ≡ true → 0 < length word
  solid : All Solid word
  each : All IsWord words
  is : text ≡ word ++ spaced words

there : (begins : Bool) (text : List ℕ) → are_spaced begins text ≡ true → Says begins text
unfolding are_spaced Solid
there true [] e = absurd (cc e)
there false [] e = record { word = []; words = []; some = λ f. absurd (cc f); solid = all_none Solid; each = all_none IsWord; is = refl }
there begins (b ∷ bs) e = elim (same_or b 10) [
  | inl n ↦ absurd (no (b == 10) (begins && (b == 32)) (are_spaced (b == 32) bs) (eq-eqb b 10 n) e)
  | inr ne ↦ elim (same_or b 32) [
    | inl s ↦ space begins s e (there true bs)
    | inr nes ↦
        let f : are_spaced false bs ≡ true = letter begins (b == 10) (b == 32) (ne_eqb b 10 ne) (ne_eqb b 32 nes) e in
        let h = there false bs f in
        record { word = b ∷ h.word; words = h.words; some = λ _. (omega arith); solid = all_cons Solid b h.word (nes, ne) h.solid; each = h.each; is = ap (λ (xs : List ℕ). b ∷ xs) h.is }
  ]
] where
  no : (x y z : Bool) → x ≡ true → (if x || y then false else z) ≡ true → ⊥
  no x y z f g = by x y z f g
    where
      by : (x y z : Bool) → x ≡ true → (if x || y then false else z) ≡ true → ⊥
      by true y z f g = cc g
      by false y z f g = cc f

  letter : (begins x y : Bool) → x ≡ false → y ≡ false → (if x || (begins && y) then false else are_spaced y bs) ≡ true → are_spaced false bs ≡ true
  letter begins true y f g h = absurd (cc f)
  letter begins false true f g h = absurd (cc g)
  letter true false false f g h = h
  letter false false false f g h = h

  space : (begins : Bool) → b ≡ 32 → (if (b == 10) || (begins && (b == 32)) then false else are_spaced (b == 32) bs) ≡ true → (are_spaced true bs ≡ true → Says true bs) → Says begins (b ∷ bs)
  space begins s h rest = at begins (b == 10) (b == 32) (eq-eqb b 32 s) h
    where
      at : (begins x y : Bool) → y ≡ true → (if x || (begins && y) then false else are_spaced y bs) ≡ true → Says begins (b ∷ bs)
      at begins x false f h = absurd (cc f)
      at begins true true f h = absurd (cc h)
      at true false true f h = absurd (cc h)
      at false false true f h =
          let g = rest h in
          record { word = []; words = g.word ∷ g.words; some = λ k. absurd (cc k); solid = all_none Solid; each = all_cons IsWord g.word g.words (record { some = g.some refl; solid = g.solid }) g.each; is = ap (λ (c : ℕ). c ∷ bs) s ∙ ap (λ (xs : List ℕ). 32 ∷ xs) g.is }

back : (begins : Bool) (word : List ℕ) (words : List (List ℕ)) → (begins ≡ true → 0 < length word) → All Solid word → All IsWord words → are_spaced begins (word ++ spaced words) ≡ true
unfolding are_spaced Solid
back true [] words some solid each = absurd (let h = some refl in omega arith)
back false [] [] some solid each = refl
back false [] (w ∷ ws) some solid each =
    let h : IsWord w = all_head IsWord w ws each in
    back true w ws (λ _. h.some) h.solid (all_tail IsWord w ws each)
back begins (b ∷ word) words some solid each =
    let h : Solid b = all_head Solid b word solid in
    letter begins (b == 10) (b == 32) (ne_eqb b 10 h.1) (ne_eqb b 32 h.0) (back false word words (λ f. absurd (cc f)) (all_tail Solid b word solid) each)
  where
    letter : (begins x y : Bool) → x ≡ false → y ≡ false → are_spaced false (word ++ spaced words) ≡ true → (if x || (begins && y) then false else are_spaced y (word ++ spaced words)) ≡ true
    letter begins true y f g h = absurd (cc f)
    letter begins false true f g h = absurd (cc g)
    letter true false false f g h = h
    letter false false false f g h = h

-- the test finds just these texts
pub says_spaced : (text : List ℕ) (b : Bool) → b ≡ are_spaced true text → (IsTrue b → SaysSpaced text) × (SaysSpaced text → IsTrue b)
unfolding Solid
says_spaced text b e = (
  λ t. (let h = there true text (sym e ∙ t) in (h.word, h.words, record { some = h.some refl; solid = h.solid }, h.each, h.is)),
  λ (word, words, is, each, spelled). e ∙ ap (are_spaced true) spelled ∙ back true word words (λ _. is.some) is.solid each,
)

-- a turn of the test
pub spaced_on : (begins : Bool) (bs : List ℕ) (i d : ℕ) → i < length bs → ((get_or bs i d == 10) || (begins && (get_or bs i d == 32))) ≡ false → are_spaced begins (drop i bs) ≡ are_spaced (get_or bs i d == 32) (drop (i + 1) bs)
unfolding are_spaced
spaced_on begins bs i d lt go = ap (are_spaced begins) (drop_more bs i d lt) ∙ by ((get_or bs i d == 10) || (begins && (get_or bs i d == 32))) go
  where
    by : (x : Bool) → x ≡ false → (if x then false else are_spaced (get_or bs i d == 32) (drop (i + 1) bs)) ≡ are_spaced (get_or bs i d == 32) (drop (i + 1) bs)
    by true e = absurd (cc e)
    by false e = refl

pub spaced_off : (begins : Bool) (bs : List ℕ) (i d : ℕ) → i < length bs → ((get_or bs i d == 10) || (begins && (get_or bs i d == 32))) ≡ true → are_spaced begins (drop i bs) ≡ false
unfolding are_spaced
spaced_off begins bs i d lt stop = ap (are_spaced begins) (drop_more bs i d lt) ∙ by ((get_or bs i d == 10) || (begins && (get_or bs i d == 32))) stop
  where
    by : (x : Bool) → x ≡ true → (if x then false else are_spaced (get_or bs i d == 32) (drop (i + 1) bs)) ≡ false
    by true e = refl
    by false e = absurd (cc e)

pub spaced_end : (begins : Bool) (bs : List ℕ) (i : ℕ) → length bs ≤ i → are_spaced begins (drop i bs) ≡ not begins
unfolding are_spaced
spaced_end begins bs i le = ap (are_spaced begins) (past bs i le)
  where
    past : (xs : List ℕ) (n : ℕ) → length xs ≤ n → drop n xs ≡ []
    past [] zero le = refl
    past [] (suc n) le = refl
    past (x ∷ xs) zero le = absurd (omega arith)
    past (x ∷ xs) (suc n) le = past xs n (omega arith)

-- ---- words behind a name

-- behind a space
pub words_spaced : (text rest : List ℕ) (b : Bool) → text ≡ codes " " ++ rest → (IsTrue b → SaysSpaced rest) × (SaysSpaced rest → IsTrue b) → (IsTrue b → SaysWords text) × (SaysWords text → IsTrue b)
words_spaced text rest b e h = (
  λ t. (let (word, words, is, each, spelled) = h.0 t in (word ∷ words, all_cons IsWord word words is each, e ∙ ap (λ (xs : List ℕ). codes " " ++ xs) spelled)),
  λ (words, each, spelled). by words each (sym e ∙ spelled),
) where
  by : (words : List (List ℕ)) → All IsWord words → codes " " ++ rest ≡ spaced words → IsTrue b
  by [] each f = absurd (cc f)
  by (w ∷ ws) each f = h.1 (w, ws, all_head IsWord w ws each, all_tail IsWord w ws each, let g : rest ≡ w ++ spaced ws = cc f in g)

-- no space: no word
pub words_none : (text : List ℕ) (b : Bool) → IsNoFront (codes " ") text → b ≡ (length text == 0) → (IsTrue b → SaysWords text) × (SaysWords text → IsTrue b)
words_none [] b none e = (λ t. ([], all_none IsWord, refl), λ s. e)
words_none (x ∷ xs) b none e = (
  λ t. not_both _ _ (sym e ∙ t) (ne_eqb (length (x ∷ xs)) 0 (λ z. (omega arith))),
  λ (words, each, spelled). absurd (by words spelled),
) where
  by : (words : List (List ℕ)) → x ∷ xs ≡ spaced words → ⊥
  by [] f = cc f
  by (w ∷ ws) f = none (w ++ spaced ws) f

same_rest : (a r q : List ℕ) → a ++ r ≡ a ++ q → r ≡ q
same_rest [] r q e = e
same_rest (x ∷ a) r q e = same_rest a r q (let h : a ++ r ≡ a ++ q = cc in h)

-- the same up to one more byte
same_front : (c : ℕ) (xs ys : List ℕ) → xs ++ c ∷ [] ≡ ys ++ c ∷ [] → xs ≡ ys
same_front c [] [] e = refl
same_front c [] (y ∷ ys) e = absurd (empty ys (cc e))
  where
    empty : (ys : List ℕ) → [] ≡ ys ++ c ∷ [] → ⊥
    empty [] f = cc f
    empty (y ∷ ys) f = cc f
same_front c (x ∷ xs) [] e = absurd (empty xs (cc e))
  where
    empty : (xs : List ℕ) → xs ++ c ∷ [] ≡ [] → ⊥
    empty [] f = cc f
    empty (y ∷ ys) f = cc f
same_front c (x ∷ xs) (y ∷ ys) e =
    let h : x ≡ y = cc e in
    let k : xs ++ c ∷ [] ≡ ys ++ c ∷ [] = cc e in
    ap (λ (z : ℕ). z ∷ xs) h ∙ ap (λ (zs : List ℕ). y ∷ zs) (same_front c xs ys k)

-- a held line, in its parts
held_parts : (name line : List ℕ) (h : IsHeld name line) → line ≡ name ++ (spaced h.words ++ codes "\n")
held_parts name line h = h.spelled ∙ append_assoc name (spaced h.words) (codes "\n")

pub no_name : (name line : List ℕ) → IsNoFront name line → IsHeld name line → ⊥
no_name name line none h = none (spaced h.words ++ codes "\n") (held_parts name line h)

pub no_end : (name line rest : List ℕ) → line ≡ name ++ rest → ((front : List ℕ) → rest ≢ front ++ codes "\n") → IsHeld name line → ⊥
no_end name line rest e none h = none (spaced h.words) (same_rest name rest (spaced h.words ++ codes "\n") (sym e ∙ held_parts name line h))

pub held_words : (name line rest text : List ℕ) (b : Bool) → line ≡ name ++ rest → rest ≡ text ++ codes "\n" → (IsTrue b → SaysWords text) × (SaysWords text → IsTrue b) → (IsTrue b → IsHeld name line) × (IsHeld name line → IsTrue b)
held_words name line rest text b e f w = (
  λ t. (let (words, each, spelled) = w.0 t in record { words = words; each = each; spelled = e ∙ ap (λ (xs : List ℕ). name ++ xs) (f ∙ ap (λ (xs : List ℕ). xs ++ codes "\n") spelled) ∙ sym (append_assoc name (spaced words) (codes "\n")) }),
  λ h. w.1 (h.words, h.each, same_front 10 text (spaced h.words) (sym f ∙ same_rest name rest (spaced h.words ++ codes "\n") (sym e ∙ held_parts name line h))),
)

-- it is one line
pub held_is_line : (name line : List ℕ) → ByteIsMissing 10 name → IsHeld name line → IsLine line
held_is_line name line lacks h = record { body = name ++ spaced h.words; lacks = lacks_append 10 name (spaced h.words) lacks (all h.words h.each); is = h.spelled }
  where
    solid : (w : List ℕ) → All (λ b. (b ≢ 32) × (b ≢ 10)) w → ByteIsMissing 10 w
    solid [] k = tt
    solid (b ∷ w) k = ((k zero b (omega arith)).1, solid w (λ i d lt. k (suc i) d (omega arith)))

    space : ByteIsMissing 10 (codes " ")
    space = ((λ e. (omega arith)), tt)

    all : (ws : List (List ℕ)) → All IsWord ws → ByteIsMissing 10 (spaced ws)
    all [] k = tt
    all (w ∷ ws) k = lacks_append 10 (codes " " ++ w) (spaced ws) (lacks_append 10 (codes " ") w space (solid w (k zero w (omega arith)).solid)) (all ws (λ i d lt. k (suc i) d (omega arith)))
