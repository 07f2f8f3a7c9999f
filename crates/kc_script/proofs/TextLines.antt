-- The words of a line that was put together from words, and the lines of a text that was put together from lines.
use Rattle.std.proofs.Common.{◌≡◌, ℕ, ◌^◌, ◌≤◌, ◌<◌, Bool, true, false, ◌&&◌, not, cond, eqb, List, [], ◌∷◌, ◌++◌, length, refl, ap, ◌∙◌, append_assoc, arith, rules, tests}
use Rattle.std.specs.Prelude.{filter, map, decimal, slice_index}
use Rattle.std.specs.List.{slice_split, onto_first, list_all, AllByRecursion}
use Rattle.std.proofs.lemmas.Bool.{le-leb}
use Rattle.std.proofs.lemmas.Bool.Decides.{nat_tests}
use Rattle.std.proofs.lemmas.List.Splits.{slice_split_at, slice_split_none, slice_split-cons_yes, slice_split-cons_no}
use Rattle.std.proofs.lemmas.List.Elements.{All-from_recursion}
use Rattle.std.proofs.lemmas.Str.Parse.{IsNumeralModel, numerals_by_fold}
use Rattle.std.proofs.lemmas.Fmt.{digits_decimal, digits_value-decimal, length-decimal-le, decimal_nonempty}
use Rattle.kc_script.specs.Canonical.{line_text, text_of_lines}
use Rattle.kc_script.specs.Spells.{Line, contents}
use Rattle.kc_script_lines.specs.Words.{is_blank, words, lines, is_skipped, is_digit, value_on}
use Rattle.kc_script_verbs.specs.Canonical.{IsNumeral}

-- ---- words

-- no byte of a word is a blank or ends a line
abbrev pub IsByte : ℕ → Type 0
IsByte b = (is_blank b ≡ false) × (eqb b 10 ≡ false)

abbrev pub IsWord : List ℕ → Type 0
IsWord w = (0 < length w) × AllByRecursion IsByte w

-- a line that counts
abbrev pub Counts : Line → Type 0
Counts line = AllByRecursion IsWord line × (is_skipped line ≡ false)

abbrev pub AllCount : List Line → Type 0
AllCount lines = AllByRecursion Counts lines

pub all_both : (xs ys : List Line) → AllCount (xs ++ ys) → AllCount xs × AllCount ys
all_both [] ys h = (tt, h)
all_both (x ∷ xs) ys h = let r = all_both xs ys h.1 in ((h.0, r.0), r.1)

pub all_join : (xs ys : List Line) → AllCount xs → AllCount ys → AllCount (xs ++ ys)
all_join [] ys h k = k
all_join (x ∷ xs) ys h k = (h.0, all_join xs ys h.1 k)

-- ---- the lines of bytes count

-- parts of a list that is cut
abbrev AreCut : (ℕ → Bool) → (ℕ → Type 0) → List (List ℕ) → Type 0
AreCut p Q parts = AllByRecursion (λ part. AllByRecursion (λ b. (p b ≡ false) × Q b) part) parts

cut_more : (p : ℕ → Bool) (Q : ℕ → Type 0) (x : ℕ) (xs : List ℕ) → Q x → AreCut p Q (slice_split p xs) → AreCut p Q (slice_split p (x ∷ xs))
cut_more p Q x xs q h = by (p x) refl where
  onto : p x ≡ false → (parts : List (List ℕ)) → AreCut p Q parts → AreCut p Q (onto_first x parts)
  onto e [] k = (((e, q), tt), tt)
  onto e (part ∷ parts) k = (((e, q), k.0), k.1)

  by : (b : Bool) → p x ≡ b → AreCut p Q (slice_split p (x ∷ xs))
  by true e = rw (slice_split-cons_yes p x xs e) (tt, h)
  by false e = rw (slice_split-cons_no p x xs e) (onto e (slice_split p xs) h)

cut : (p : ℕ → Bool) (Q : ℕ → Type 0) (xs : List ℕ) → AllByRecursion Q xs → AreCut p Q (slice_split p xs)
cut p Q [] h = (tt, tt)
cut p Q (x ∷ xs) h = cut_more p Q x xs h.0 (cut p Q xs h.1)

kept : {A : Type 0} (test : A → Bool) (P Q : A → Type 0) (xs : List A) → AllByRecursion P xs → ((x : A) → P x → test x ≡ true → Q x) → AllByRecursion Q (filter test xs)
kept test P Q [] h f = tt
kept {A} test P Q (x ∷ xs) h f = by (test x) refl (kept test P Q xs h.1 f) where
  by : (b : Bool) → test x ≡ b → AllByRecursion Q (filter test xs) → AllByRecursion Q (cond b (x ∷ filter test xs) (filter test xs))
  by true e k = (f x h.0 e, k)
  by false e k = k

mapped : {A B : Type 0} (g : A → B) (P : A → Type 0) (Q : B → Type 0) (xs : List A) → AllByRecursion P xs → ((x : A) → P x → Q (g x)) → AllByRecursion Q (map g xs)
mapped g P Q [] h f = tt
mapped g P Q (x ∷ xs) h f = (f x h.0, mapped g P Q xs h.1 f)

some : (n : ℕ) → not (eqb n 0) ≡ true → 0 < n
some n e = grind (arith, nat_tests)

counts_not : (b : Bool) → not b ≡ true → b ≡ false
counts_not true e = absurd cc
counts_not false e = refl

nothing : (xs : List ℕ) → AllByRecursion (λ (b : ℕ). Unit {0}) xs
nothing [] = tt
nothing (x ∷ xs) = (tt, nothing xs)

-- a line's bytes
abbrev InLine : ℕ → Type 0
InLine b = (eqb b 10 ≡ false) × Unit {0}

bytes_of : (w : List ℕ) → AllByRecursion (λ b. (is_blank b ≡ false) × InLine b) w → AllByRecursion IsByte w
bytes_of [] h = tt
bytes_of (b ∷ w) h = ((h.0.0, h.0.1.0), bytes_of w h.1)

words_are : (text : List ℕ) → AllByRecursion InLine text → AllByRecursion IsWord (words text)
words_are text h = kept (λ word. not (eqb (length word) 0)) (λ word. AllByRecursion (λ b. (is_blank b ≡ false) × InLine b) word) IsWord (slice_split is_blank text) (cut is_blank InLine text h) (λ word k e. (some (length word) e, bytes_of word k))

pub contents_count : (bytes : List ℕ) → AllCount (contents bytes)
contents_count bytes = kept (λ line. not (is_skipped line)) (λ line. AllByRecursion IsWord line) Counts (map words (lines bytes)) (mapped words (λ text. AllByRecursion InLine text) (λ line. AllByRecursion IsWord line) (lines bytes) (cut (λ b. eqb b 10) (λ b. Unit {0}) bytes (nothing bytes)) words_are) (λ line h e. (h, counts_not (is_skipped line) e))

-- ---- numbers

own : IsNumeralModel (λ ds. list_all is_digit ds ≡ true) (value_on 0)
own = numerals_by_fold _ (search (rules, tests)) value_on (search rules)

digit_byte : (b : ℕ) → is_digit b ≡ true → IsByte b
digit_byte b h = (grind (arith, nat_tests), grind (arith, nat_tests))

and_true : (a b : Bool) → (a && b) ≡ true → (a ≡ true) × (b ≡ true)
and_true true b e = (refl, e)
and_true false b e = absurd cc

digit_bytes : (ds : List ℕ) → list_all is_digit ds ≡ true → AllByRecursion IsByte ds
digit_bytes [] e = tt
digit_bytes (d ∷ ds) e = let h = and_true (is_digit d) (list_all is_digit ds) e in (digit_byte d h.0, digit_bytes ds h.1)

digit_first : (ds : List ℕ) → 0 < length ds → list_all is_digit ds ≡ true → eqb (slice_index ds 0) 35 ≡ false
digit_first [] lt e = absurd (omega (arith, lt))
digit_first (d ∷ ds) lt e = first_digit d (and_true (is_digit d) (list_all is_digit ds) e).0 where
  first_digit : (d : ℕ) → is_digit d ≡ true → eqb d 35 ≡ false
  first_digit d h = grind (arith, nat_tests)

module _ (n : ℕ) (small : n ≤ 4294967295) where
  below : n < 2 ^ 64
  below = omega (arith, small)

  pub decimal_word : IsWord (decimal n)
  decimal_word = (decimal_nonempty n below, digit_bytes (decimal n) (digits_decimal own n below))

  pub decimal_counts : eqb (slice_index (decimal n) 0) 35 ≡ false
  decimal_counts = digit_first (decimal n) (decimal_nonempty n below) (digits_decimal own n below)

  pub decimal_numeral : IsNumeral n (decimal n)
  decimal_numeral =
      let long = le-leb 1 (length (decimal n)) (decimal_nonempty n below) in
      let short = le-leb (length (decimal n)) 10 (length-decimal-le 10 n (omega arith) (omega (arith, small)) (omega arith)) in
      (rw (long, short) (digits_decimal own n below), digits_value-decimal own n below, small)

-- ---- text

no_blank : (w : List ℕ) → AllByRecursion IsByte w → AllByRecursion (λ b. is_blank b ≡ false) w
no_blank [] h = tt
no_blank (b ∷ w) h = (h.0.0, no_blank w h.1)

in_line : (w : List ℕ) → AllByRecursion IsByte w → AllByRecursion (λ b. eqb b 10 ≡ false) w
in_line [] h = tt
in_line (b ∷ w) h = (h.0.1, in_line w h.1)

not_zero : (n : ℕ) → 0 < n → not (eqb n 0) ≡ true
not_zero n lt = grind (arith, nat_tests)

a_word : (word : List ℕ) (rest : List (List ℕ)) → 0 < length word → filter (λ word. not (eqb (length word) 0)) (word ∷ rest) ≡ word ∷ filter (λ word. not (eqb (length word) 0)) rest
a_word word rest lt = ap (λ (b : Bool). cond b (word ∷ filter (λ word. not (eqb (length word) 0)) rest) (filter (λ word. not (eqb (length word) 0)) rest)) (not_zero (length word) lt)

words_back : (ws : Line) → AllByRecursion IsWord ws → words (line_text ws) ≡ ws
words_back [] all = refl
words_back (w ∷ []) all = ap (filter (λ word. not (eqb (length word) 0))) (slice_split_none is_blank w (All-from_recursion _ w (no_blank w all.0.1))) ∙ a_word w [] all.0.0
words_back (w ∷ v ∷ ws) all =
    ap (filter (λ word. not (eqb (length word) 0))) (slice_split_at is_blank w 32 (line_text (v ∷ ws)) (All-from_recursion _ w (no_blank w all.0.1)) refl)
    ∙ a_word w (slice_split is_blank (line_text (v ∷ ws))) all.0.0
    ∙ ap (λ (rest : List (List ℕ)). w ∷ rest) (words_back (v ∷ ws) all.1)

joined : (P : ℕ → Type 0) (xs ys : List ℕ) → AllByRecursion P xs → AllByRecursion P ys → AllByRecursion P (xs ++ ys)
joined P [] ys h k = k
joined P (x ∷ xs) ys h k = (h.0, joined P xs ys h.1 k)

one_line : (ws : Line) → AllByRecursion IsWord ws → AllByRecursion (λ b. eqb b 10 ≡ false) (line_text ws)
one_line [] all = tt
one_line (w ∷ []) all = in_line w all.0.1
one_line (w ∷ v ∷ ws) all = joined (λ b. eqb b 10 ≡ false) w (32 ∷ line_text (v ∷ ws)) (in_line w all.0.1) (refl, one_line (v ∷ ws) all.1)

-- the lines of the text of lines that count are these
pub contents_back : (ls : List Line) → AllCount ls → contents (text_of_lines ls) ≡ ls
contents_back [] all = refl
contents_back (ws ∷ ls) all =
    ap (λ (texts : List (List ℕ)). filter (λ line. not (is_skipped line)) (map words texts)) (
    ap lines (append_assoc (line_text ws) (10 ∷ []) (text_of_lines ls))
    ∙ slice_split_at (λ b. eqb b 10) (line_text ws) 10 (text_of_lines ls) (All-from_recursion _ (line_text ws) (one_line ws all.0.0)) refl)
    ∙ ap (λ (line : Line). filter (λ line. not (is_skipped line)) (line ∷ map words (lines (text_of_lines ls)))) (words_back ws all.0.0)
    ∙ ap (λ (b : Bool). cond (not b) (ws ∷ contents (text_of_lines ls)) (contents (text_of_lines ls))) all.0.1
    ∙ ap (λ (rest : List Line). ws ∷ rest) (contents_back ls all.1)
