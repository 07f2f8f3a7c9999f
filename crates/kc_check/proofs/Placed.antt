-- The place that a line names.
use Rattle.std.proofs.Common.{◌≡◌, ◌≢◌, ◌⊎◌, inl, inr, ℕ, ◌+◌, ◌-◌, ◌^◌, ◌<◌, ◌≤◌, if◌then◌else◌, List, [], ◌∷◌, ◌++◌, take, drop, get_or, length, Option, Some, None, refl, sym, ap, subst, ◌∙◌, append_assoc, arith, slice_index_or, eq-eqb, ne_eqb, Vec}
use Rattle.std.specs.Global.{Global}
use Rattle.std.specs.Prelude.{MatchOption, codes, decimal}
use Rattle.std.proofs.lemmas.Fmt.{decimal_injective}
use Rattle.kc_history.proofs.Choice.{some_is}
use Rattle.kc_history.proofs.Ready.{same_or}
use Rattle.kc_history.specs.Text.{mark_text}
use Rattle.kc_history.specs.declared.record.Mark.TheVariants as mark
use Rattle.kc_history.specs.declared.record.Place.{Place}
use Rattle.kc_script_bundle.specs.declared.operation.Command.{Command}
use Rattle.kc_script_lines.specs.Words.{number}
use Rattle.kc_check.proofs.Numerals.{number_of_decimal}
use Rattle.kc_check.proofs.Replays.{commands_are, commands_long}
use Rattle.kc_check.proofs.Unique.{decimal_lacks, place_is_line, split_one}
use Rattle.kc_check.proofs.Walks.{parted}
use Rattle.kc_check.specs.Laid.{AreFew, IsLine, ByteIsMissing}
use Rattle.kc_check.specs.Forms.{NamesPlace}
use Rattle.kc_check.specs.Parts.{IsThreadPlace, mark_at, place_text}
use Rattle.kc_check.specs.Reads.{IsPlainNumber, NamesNone}
use Rattle.kc_check.specs.Replays.{commands_of}

-- ---- the number of a word

pub plain_found : (word : List ℕ) (o : Option ℕ) → IsPlainNumber word → o ≡ number 4294967295 word → MatchOption o (IsPlainNumber word → ⊥) (λ n. (n < 2 ^ 32) × (word ≡ decimal n))
plain_found word o (n, small, is) e = by o (e ∙ ap (number 4294967295) is ∙ number_of_decimal n small)
  where
    by : (o : Option ℕ) → o ≡ Some n → MatchOption o (IsPlainNumber word → ⊥) (λ k. (k < 2 ^ 32) × (word ≡ decimal k))
    by None f = absurd (cc f)
    by (Some k) f = let e = some_is k n f in (omega (arith, e, small), is ∙ ap decimal (sym e))

-- ---- the index

mark_last : (n : ℕ) → mark_at n n ≡ mark.End
mark_last n = ap (λ b. if b then mark.End else mark.Command (n + 1)) (eq-eqb n n refl)

mark_command : (n i : ℕ) → i < n → mark_at n i ≡ mark.Command (i + 1)
mark_command n i lt = ap (λ b. if b then mark.End else mark.Command (i + 1)) (ne_eqb i n (λ e. (omega arith)))

-- the same up to a newline at the end
same_front : (c : ℕ) (xs ys : List ℕ) → xs ++ c ∷ [] ≡ ys ++ c ∷ [] → xs ≡ ys
same_front c [] [] e = refl
same_front c [] (y ∷ ys) e = absurd (empty ys (cc e))
  where
    empty : (ys : List ℕ) → [] ≡ ys ++ c ∷ [] → ⊥
    empty [] f = cc f
    empty (y ∷ ys) f = cc f
same_front c (x ∷ xs) [] e = absurd (empty xs (cc e))
  where
    empty : (xs : List ℕ) → xs ++ c ∷ [] ≡ [] → ⊥
    empty [] f = cc f
    empty (y ∷ ys) f = cc f
same_front c (x ∷ xs) (y ∷ ys) e =
    let h : x ≡ y = cc e in
    let k : xs ++ c ∷ [] ≡ ys ++ c ∷ [] = cc e in
    ap (λ (z : ℕ). z ∷ xs) h ∙ ap (λ (zs : List ℕ). y ∷ zs) (same_front c xs ys k)

pub index_end : (n : ℕ) (rest word : List ℕ) → rest ≡ word ++ codes "\n" → word ≡ codes "end" → rest ≡ mark_text (mark_at n n) ++ codes "\n"
index_end n rest word e f = e ∙ ap (λ (xs : List ℕ). xs ++ codes "\n") (f ∙ ap mark_text (sym (mark_last n)))

pub index_found : (n k : ℕ) (rest word : List ℕ) → rest ≡ word ++ codes "\n" → word ≡ decimal k → k ≢ 0 → k ≤ n → (k - 1 ≤ n) × (rest ≡ mark_text (mark_at n (k - 1)) ++ codes "\n")
index_found n k rest word e f ne le =
    let lt : k - 1 < n = omega (arith, ne, le) in
    let same : k ≡ k - 1 + 1 = omega (arith, ne) in
    (omega (arith, le), e ∙ ap (λ (xs : List ℕ). xs ++ codes "\n") (f ∙ ap decimal same ∙ ap mark_text (sym (mark_command n (k - 1) lt))))

pub no_newline_end : (n : ℕ) (rest : List ℕ) → ((front : List ℕ) → rest ≢ front ++ codes "\n") → NamesNone n rest
no_newline_end n rest none index le e = none (mark_text (mark_at n index)) e

-- a word that is no end and no number of a command names none
pub index_none : (n : ℕ) (rest word : List ℕ) → n < 2 ^ 32 → rest ≡ word ++ codes "\n" → word ≢ codes "end" → ((k : ℕ) → 0 < k → k ≤ n → word ≢ decimal k) → NamesNone n rest
index_none n rest word small e ne none index le f = elim (same_or index n) [
  | inl h ↦ ne (same ∙ ap mark_text (ap (mark_at n) h ∙ mark_last n))
  | inr far ↦
      let lt : index < n = omega (arith, far, le) in
      none (index + 1) (omega arith) (omega (arith, lt)) (same ∙ ap mark_text (mark_command n index lt))
] where
  same : word ≡ mark_text (mark_at n index)
  same = same_front 10 word (mark_text (mark_at n index)) (sym e ∙ f)

-- a word of another number
pub other_number : (n j : ℕ) (word : List ℕ) → n < 2 ^ 32 → j < 2 ^ 32 → word ≡ decimal j → (j ≡ 0) ⊎ (n < j) → (k : ℕ) → 0 < k → k ≤ n → word ≢ decimal k
other_number n j word small few is out k some le e =
    let same : j ≡ k = decimal_injective j k (omega arith) (omega arith) (sym is ∙ e) in
    elim out [ inl z ↦ (omega (arith, z, same, some)) | inr lt ↦ (omega (arith, lt, same, le)) ]

pub no_number : (n : ℕ) (word : List ℕ) → n < 2 ^ 32 → (IsPlainNumber word → ⊥) → (k : ℕ) → 0 < k → k ≤ n → word ≢ decimal k
no_number n word small none k some le e = none (k, omega arith, e)

-- ---- the place

-- its parts
place_parts : (threads : List (List Command)) (p : Place) → place_text threads p ≡ (decimal (p.thread + 1) ++ codes ".") ++ (mark_text (mark_at (length (slice_index_or threads p.thread [])) p.index) ++ codes "\n")
place_parts threads p = append_assoc (decimal (p.thread + 1) ++ codes ".") (mark_text (mark_at (length (slice_index_or threads p.thread [])) p.index)) (codes "\n")

pub named_is_line : (threads : List (List Command)) (line : List ℕ) → AreFew threads → NamesPlace threads line → IsLine line
named_is_line threads line few named = subst IsLine (sym named.spelled) (place_is_line threads few named.at named.is)

module _ (vs : List (Vec Command Global)) (line : List ℕ) where
  -- what a line that names a place has at its first dot
  named_parts : (named : NamesPlace (commands_of vs) line) → line ≡ decimal (named.at.thread + 1) ++ 46 ∷ (mark_text (mark_at (length (slice_index_or (commands_of vs) named.at.thread [])) named.at.index) ++ codes "\n")
  named_parts named = named.spelled ∙ place_parts (commands_of vs) named.at ∙ append_assoc (decimal (named.at.thread + 1)) (codes ".") (mark_text (mark_at (length (slice_index_or (commands_of vs) named.at.thread [])) named.at.index) ++ codes "\n")

  pub no_dot : ByteIsMissing 46 line → NamesPlace (commands_of vs) line → ⊥
  no_dot lacks named = there (decimal (named.at.thread + 1)) (mark_text (mark_at (length (slice_index_or (commands_of vs) named.at.thread [])) named.at.index) ++ codes "\n") (subst (ByteIsMissing 46) (named_parts named) lacks)
    where
      there : (xs ys : List ℕ) → ByteIsMissing 46 (xs ++ 46 ∷ ys) → ⊥
      there [] ys h = h.0 refl
      there (x ∷ xs) ys h = there xs ys h.1

  module _ (dot : ℕ) (within : dot < length line) (lacks : ByteIsMissing 46 (take dot line)) (at : get_or line dot 0 ≡ 46) (few : length vs ≤ 16) where
    cut : line ≡ take dot line ++ 46 ∷ drop (dot + 1) line
    cut = parted line dot 0 within ∙ ap (λ (b : ℕ). take dot line ++ b ∷ drop (dot + 1) line) at

    thread_small : (named : NamesPlace (commands_of vs) line) → named.at.thread < length vs
    thread_small named = let a = commands_long vs in let lt = named.is.thread in omega (arith, a, lt)

    front_is : (named : NamesPlace (commands_of vs) line) → take dot line ≡ decimal (named.at.thread + 1)
    front_is named =
        let lt = thread_small named in
        (split_one 46 (take dot line) (decimal (named.at.thread + 1)) (drop (dot + 1) line) (mark_text (mark_at (length (slice_index_or (commands_of vs) named.at.thread [])) named.at.index) ++ codes "\n") lacks (decimal_lacks 46 (named.at.thread + 1) (omega arith) (omega (arith, lt, few))) (sym cut ∙ named_parts named)).0

    pub no_thread : (IsPlainNumber (take dot line) → ⊥) → NamesPlace (commands_of vs) line → ⊥
    no_thread none named = let lt = thread_small named in none (named.at.thread + 1, omega (arith, lt, few), front_is named)

    pub other_thread : (n : ℕ) → n < 2 ^ 32 → take dot line ≡ decimal n → (n ≡ 0) ⊎ (length vs < n) → NamesPlace (commands_of vs) line → ⊥
    other_thread n small is out named =
        let lt = thread_small named in
        let same : n ≡ named.at.thread + 1 = decimal_injective n (named.at.thread + 1) (omega (arith, small)) (omega (arith, lt, few)) (sym is ∙ front_is named) in
        elim out [ inl zero ↦ (omega (arith, zero, same)) | inr more ↦ (omega (arith, more, same, lt)) ]

    pub dotted : (n : ℕ) → take dot line ≡ decimal n → line ≡ (decimal n ++ codes ".") ++ drop (dot + 1) line
    dotted n is = cut ∙ ap (λ (xs : List ℕ). xs ++ 46 ∷ drop (dot + 1) line) is ∙ sym (append_assoc (decimal n) (codes ".") (drop (dot + 1) line))

  module _ (t n : ℕ) (v : Vec Command Global) (rest : List ℕ) (next : n ≡ t + 1) (lt : t < length vs) (few : length vs ≤ 16) (at : v ≡ get_or vs t v) (is : line ≡ (decimal n ++ codes ".") ++ rest) where
    row : slice_index_or (commands_of vs) t [] ≡ v.items
    row = commands_are vs t v lt at

    pub named_place : (k index : ℕ) → k ≡ length v.items → index ≤ k → IsThreadPlace (commands_of vs) (record { thread = t; index = index })
    named_place k index long le =
        let a = commands_long vs in
        let b = ap length row in
        record { thread = omega (arith, a, lt); index = omega (arith, b, long, le) }

    pub named_text : (k index : ℕ) → k ≡ length v.items → rest ≡ mark_text (mark_at k index) ++ codes "\n" → line ≡ place_text (commands_of vs) (record { thread = t; index = index })
    named_text k index long says =
        let b : k ≡ length (slice_index_or (commands_of vs) t []) = long ∙ ap length (sym row) in
        let p : Place = record { thread = t; index = index } in
        is ∙ ap (λ (j : ℕ). (decimal j ++ codes ".") ++ rest) next ∙ ap (λ (xs : List ℕ). (decimal (t + 1) ++ codes ".") ++ xs) (says ∙ ap (λ (j : ℕ). mark_text (mark_at j index) ++ codes "\n") b) ∙ sym (place_parts (commands_of vs) p)

    pub named_none : (k : ℕ) → k ≡ length v.items → NamesNone k rest → NamesPlace (commands_of vs) line → ⊥
    named_none k long none named =
        let p : Place = named.at in
        let a = commands_long vs in
        let inside = named.is.thread in
        let said : List ℕ = mark_text (mark_at (length (slice_index_or (commands_of vs) p.thread [])) p.index) ++ codes "\n" in
        let halves : decimal n ++ 46 ∷ rest ≡ decimal (p.thread + 1) ++ 46 ∷ said = sym (append_assoc (decimal n) (codes ".") rest) ∙ sym is ∙ named.spelled ∙ place_parts (commands_of vs) p ∙ append_assoc (decimal (p.thread + 1)) (codes ".") said in
        let on = split_one 46 (decimal n) (decimal (p.thread + 1)) rest said (decimal_lacks 46 n (omega arith) (omega (arith, next, lt, few))) (decimal_lacks 46 (p.thread + 1) (omega arith) (omega (arith, a, inside, few))) halves in
        let number : n ≡ p.thread + 1 = decimal_injective n (p.thread + 1) (omega (arith, next, lt, few)) (omega (arith, a, inside, few)) on.0 in
        let same : p.thread ≡ t = omega (arith, number, next) in
        let b : length (slice_index_or (commands_of vs) p.thread []) ≡ k = ap (λ (u : ℕ). length (slice_index_or (commands_of vs) u [])) same ∙ ap length row ∙ sym long in
        let le = named.is.index in
        none p.index (omega (arith, b, le)) (on.1 ∙ ap (λ (j : ℕ). mark_text (mark_at j p.index) ++ codes "\n") b)
