-- The text of a run has the form, and what has it comes line by line.
use Rattle.std.proofs.Common.{◌≡◌, ◌≢◌, ℕ, zero, suc, ◌+◌, ◌<◌, ◌/◌, ◌%◌, ◌==◌, if◌then◌else◌, Bool, true, false, List, [], ◌∷◌, ◌++◌, map, All, Some, None, length, refl, sym, ap, ap₂, ◌∙◌, append_assoc, arith}
use Rattle.std.proofs.lemmas.List.{append-nil}
use Rattle.std.specs.Fmt.{digit_glyph, digits, digits_onto}
use Rattle.std.specs.List.{flat_map}
use Rattle.std.specs.Prelude.{codes, decimal, replicate, slice_get}
use Rattle.kc_history.specs.Text.{answer_text, mark_text, marked_reply, reply_line}
use Rattle.kc_history.specs.declared.record.Mark.{Mark}
use Rattle.kc_history.specs.declared.record.Mark.TheVariants as mark
use Rattle.kc_history.specs.declared.record.Place.{Place}
use Rattle.kc_history.specs.declared.record.Record.{Record}
use Rattle.kc_script_bundle.specs.Script.{Names, Script}
use Rattle.kc_script_bundle.specs.State.{Content, content_text, items as shows_items, number as shows_number, number_text, pair_text, pairs as shows_pairs, place as shows_place, shown}
use Rattle.kc_script_bundle.specs.declared.operation.Command.{Command}
use Rattle.kc_script_runs.specs.Labels.{ThreadsHaveRecords, Label, label, labels}
use Rattle.kc_script_small.specs.Small.{AllAnswersFit, AnswerFits}
use Rattle.kc_check.proofs.Forming.{lacks_by_test}
use Rattle.kc_check.proofs.Parted.{held_shapes, joined_append, joined_flat, joined_places, shaped_append}
use Rattle.kc_check.proofs.Printed.{number_lacks}
use Rattle.kc_check.proofs.Unique.{heads, tails}
use Rattle.kc_check.specs.Forms.{AllReplies, AreHeld, AreReplies, AreShaped, IsFormed, IsReply, IsWord, flat, just, place, replies_shapes, shapes, thread_shapes}
use Rattle.kc_check.specs.Laid.{ByteIsMissing}
use Rattle.kc_check.specs.Parts.{IsThreadPlace, Parts, joined_lines, place_text, places_in, places_text, replies_text}
use Rattle.kc_check.specs.Shown.{held_lines, lines_for, replies_for}

-- ---- what has the form comes line by line

module _ (all : List (List Command)) where
  thread_shaped : (thread number : ℕ) (cs : List Command) (ls : List (List ℕ)) → AreReplies thread number cs ls → AreShaped all (thread_shapes thread number (length cs)) ls
  thread_shaped thread number [] [] h = tt
  thread_shaped thread number [] (l ∷ ls) h = absurd h
  thread_shaped thread number (c ∷ cs) [] h = absurd h
  thread_shaped thread number (c ∷ cs) (l ∷ ls) h = (h.0, thread_shaped thread (number + 1) cs ls h.1)

  replies_shaped : (thread : ℕ) (threads : List (List Command)) (rs : List (List (List ℕ))) → AllReplies thread threads rs → AreShaped all (replies_shapes thread threads) (flat rs)
  replies_shaped thread [] [] h = tt
  replies_shaped thread [] (r ∷ rs) h = absurd h
  replies_shaped thread (cs ∷ threads) [] h = absurd h
  replies_shaped thread (cs ∷ threads) (r ∷ rs) h = shaped_append all (thread_shapes thread 1 (length cs)) (replies_shapes (thread + 1) threads) r (flat rs) (thread_shaped thread 1 cs r h.0) (replies_shaped (thread + 1) threads rs h.1)

  places_shaped : (n : ℕ) (ps : List Place) → length ps ≡ n → All (IsThreadPlace all) ps → AreShaped all (replicate n place) (map (place_text all) ps)
  places_shaped zero [] e h = tt
  places_shaped zero (p ∷ ps) e h = absurd (omega (arith, e))
  places_shaped (suc n) [] e h = absurd (omega (arith, e))
  places_shaped (suc n) (p ∷ ps) e h = (record { at = p; is = h zero p (omega arith); spelled = refl }, places_shaped n ps (omega (arith, e)) (λ i d lt. h (suc i) d (omega arith)))

  held_shaped : (names : Names) (ls : List (List ℕ)) → AreHeld names ls → AreShaped all (held_shapes names) ls
  held_shaped [] [] h = tt
  held_shaped [] (l ∷ ls) h = absurd h
  held_shaped (entry ∷ names) [] h = absurd h
  held_shaped (entry ∷ names) (l ∷ ls) h = (h.0, held_shaped names ls h.1)

module _ (s : Script) (text : List ℕ) (parts : Parts) (formed : IsFormed s text parts) where
  pub lines_of : List (List ℕ)
  lines_of = flat parts.replies ++ (codes "order\n" ∷ (map (place_text s.threads) parts.places ++ (codes "state\n" ∷ parts.state)))

  pub formed_shaped : AreShaped s.threads (shapes s) lines_of
  unfolding lines_of
  formed_shaped =
      shaped_append s.threads (replies_shapes 1 s.threads) (just (codes "order\n") ∷ (replicate (places_in s.threads) place ++ (just (codes "state\n") ∷ held_shapes s.objects))) (flat parts.replies) (codes "order\n" ∷ (map (place_text s.threads) parts.places ++ (codes "state\n" ∷ parts.state))) (replies_shaped s.threads 1 s.threads parts.replies formed.replies)
      (refl, shaped_append s.threads (replicate (places_in s.threads) place) (just (codes "state\n") ∷ held_shapes s.objects) (map (place_text s.threads) parts.places) (codes "state\n" ∷ parts.state) (places_shaped s.threads (places_in s.threads) parts.places formed.count formed.places) (refl, held_shaped s.threads s.objects parts.state formed.state))

  pub formed_joined : text ≡ joined_lines lines_of
  unfolding lines_of
  formed_joined =
      let rest : List (List ℕ) = map (place_text s.threads) parts.places ++ (codes "state\n" ∷ parts.state) in
      let opened : joined_lines lines_of ≡ replies_text parts.replies ++ (codes "order\n" ++ (places_text s.threads parts.places ++ (codes "state\n" ++ joined_lines parts.state))) =
      joined_append [] (flat parts.replies) (codes "order\n" ∷ rest) ∙ ap₂ (λ (xs ys : List ℕ). xs ++ (codes "order\n" ++ ys)) (joined_flat parts.replies) (joined_append [] (map (place_text s.threads) parts.places) (codes "state\n" ∷ parts.state) ∙ ap (λ (xs : List ℕ). xs ++ (codes "state\n" ++ joined_lines parts.state)) (joined_places s.threads parts.places)) in
      formed.spelled ∙ regroup (replies_text parts.replies) (codes "order\n") (places_text s.threads parts.places) (codes "state\n") (joined_lines parts.state) ∙ sym opened
    where
      regroup : (a b c d e : List ℕ) → (((a ++ b) ++ c) ++ d) ++ e ≡ a ++ (b ++ (c ++ (d ++ e)))
      regroup a b c d e = append_assoc ((a ++ b) ++ c) d e ∙ append_assoc (a ++ b) c (d ++ e) ∙ append_assoc a b (c ++ (d ++ e))

-- ---- a run's replies

reply_is : (thread n : ℕ) (r : Record) → label r ≡ (let l : Label = record { thread = thread; mark = mark.Command n } in l) → AnswerFits r.answer → IsReply thread n (reply_line r)
reply_is thread n r e fits =
    let marked : r.mark ≡ mark.Command n = ap (λ (l : Label). l.mark) e in
    let numbered : r.thread ≡ thread = ap (λ (l : Label). l.thread) e in
    record {
      says = r.answer;
      fits = fits;
      spelled = ap (λ (m : Mark). marked_reply m r) marked ∙ ap (λ (m : Mark). decimal r.thread ++ codes "." ++ mark_text m ++ codes " " ++ answer_text r.answer ++ codes "\n") marked ∙ ap (λ (t : ℕ). decimal t ++ codes "." ++ decimal n ++ codes " " ++ answer_text r.answer ++ codes "\n") numbered;
    }

run_replies_in : (thread n : ℕ) (cs : List Command) (rs : List Record) → map label rs ≡ labels thread n cs → ((k : ℕ) (r : Record) → slice_get rs k ≡ Some r → AnswerFits r.answer) → AreReplies thread n cs (lines_for cs rs)
run_replies_in thread n [] rs e fit = tt
run_replies_in thread n (c ∷ cs) [] e fit = absurd (cc)
run_replies_in thread n (c ∷ cs) (r ∷ rs) e fit = (
  reply_is thread n r (heads (label r) (record { thread = thread; mark = mark.Command n }) (map label rs) (labels thread (n + 1) cs) e) (fit zero r refl),
  run_replies_in thread (n + 1) cs rs (tails (label r) (record { thread = thread; mark = mark.Command n }) (map label rs) (labels thread (n + 1) cs) e) (λ k q at. fit (suc k) q at),
)

pub run_replies : (j : ℕ) (threads : List (List Command)) (records : List (List Record)) → ThreadsHaveRecords j threads records → AllAnswersFit records → AllReplies j threads (replies_for threads records)
run_replies j [] [] h fit = tt
run_replies j [] (rs ∷ records) h fit = absurd h
run_replies j (cs ∷ threads) [] h fit = absurd h
run_replies j (cs ∷ threads) (rs ∷ records) h fit = (run_replies_in j 1 cs rs h.0 (λ k r at. fit zero k r at), run_replies (j + 1) threads records h.1 (λ t k r at. fit (suc t) k r at))

-- ---- a run's state

onto_some : (k n : ℕ) (acc : List ℕ) → 0 < length acc → 0 < length (digits_onto k 10 false n acc)
onto_some zero n acc h = h
onto_some (suc k) n acc h = by (n / 10 == 0) (omega arith) (onto_some k (n / 10) (digit_glyph false (n % 10) ∷ acc) (omega arith))
  where
    by : (b : Bool) → 0 < length (digit_glyph false (n % 10) ∷ acc) → 0 < length (digits_onto k 10 false (n / 10) (digit_glyph false (n % 10) ∷ acc)) → 0 < length (if b then digit_glyph false (n % 10) ∷ acc else digits_onto k 10 false (n / 10) (digit_glyph false (n % 10) ∷ acc))
    by true x y = x
    by false x y = y

number_some : (n : ℕ) → 0 < length (decimal n)
unfolding digits
number_some n = by (n / 10 == 0) (omega arith) (onto_some 63 (n / 10) (digit_glyph false (n % 10) ∷ []) (omega arith))
  where
    by : (b : Bool) → 0 < length (digit_glyph false (n % 10) ∷ []) → 0 < length (digits_onto 63 10 false (n / 10) (digit_glyph false (n % 10) ∷ [])) → 0 < length (if b then digit_glyph false (n % 10) ∷ [] else digits_onto 63 10 false (n / 10) (digit_glyph false (n % 10) ∷ []))
    by true x y = x
    by false x y = y

solid : (bs : List ℕ) → ByteIsMissing 32 bs → ByteIsMissing 10 bs → All (λ b. (b ≢ 32) × (b ≢ 10)) bs
solid [] h k i d lt = absurd (omega arith)
solid (b ∷ bs) h k zero d lt = (h.0, k.0)
solid (b ∷ bs) h k (suc i) d lt = solid bs h.1 k.1 i d (omega arith)

number_word : (n : ℕ) → IsWord (decimal n)
number_word n = record { some = number_some n; solid = solid (decimal n) (number_lacks 32 n (omega arith)) (number_lacks 10 n (omega arith)) }

pair_word : (a b : ℕ) → IsWord (decimal a ++ codes "=" ++ decimal b)
pair_word a b = record {
  some = longer (decimal a ++ codes "=") (decimal b) (longer (decimal a) (codes "=") (number_some a));
  solid = solid (decimal a ++ codes "=" ++ decimal b) (both 32 (decimal a ++ codes "=") (decimal b) (both 32 (decimal a) (codes "=") (number_lacks 32 a (omega arith)) ((λ e. omega arith), tt)) (number_lacks 32 b (omega arith))) (both 10 (decimal a ++ codes "=") (decimal b) (both 10 (decimal a) (codes "=") (number_lacks 10 a (omega arith)) ((λ e. omega arith), tt)) (number_lacks 10 b (omega arith)));
}
  where
    longer : (xs ys : List ℕ) → 0 < length xs → 0 < length (xs ++ ys)
    longer [] ys h = absurd (omega arith)
    longer (x ∷ xs) ys h = omega arith

    both : (c : ℕ) (xs ys : List ℕ) → ByteIsMissing c xs → ByteIsMissing c ys → ByteIsMissing c (xs ++ ys)
    both c [] ys h k = k
    both c (x ∷ xs) ys h k = (h.0, both c xs ys h.1 k)

-- what an object holds, as words
record Worded (text : List ℕ) : Type 0 where
  words : List (List ℕ)
  each : All IsWord words
  spelled : text ≡ flat_map (λ word. codes " " ++ word) words

all_more : (w : List ℕ) (ws : List (List ℕ)) → IsWord w → All IsWord ws → All IsWord (w ∷ ws)
all_more w ws h k zero d lt = h
all_more w ws h k (suc i) d lt = k i d (omega arith)

no_words : All IsWord []
no_words i d lt = absurd (omega arith)

one_word : (w : List ℕ) → IsWord w → Worded (codes " " ++ w)
one_word w h = record { words = w ∷ []; each = all_more w [] h no_words; spelled = sym (append-nil (codes " " ++ w)) }

items_worded : (xs : List ℕ) → Worded (flat_map number_text xs)
items_worded [] = record { words = []; each = no_words; spelled = refl }
items_worded (x ∷ xs) = let h = items_worded xs in record { words = decimal x ∷ h.words; each = all_more (decimal x) h.words (number_word x) h.each; spelled = ap (λ (ys : List ℕ). number_text x ++ ys) h.spelled }

pairs_worded : (ps : List (ℕ × ℕ)) → Worded (flat_map pair_text ps)
pairs_worded [] = record { words = []; each = no_words; spelled = refl }
pairs_worded (p ∷ ps) =
    let h = pairs_worded ps in
    let word : List ℕ = decimal p.0 ++ codes "=" ++ decimal p.1 in
    record { words = word ∷ h.words; each = all_more word h.words (pair_word p.0 p.1) h.each; spelled = ap (λ (ys : List ℕ). pair_text p ++ ys) h.spelled ∙ ap (λ (ys : List ℕ). ys ++ flat_map (λ w. codes " " ++ w) h.words) (regroup (codes " ") (decimal p.0) (codes "=") (decimal p.1)) }
  where
    regroup : (a b c d : List ℕ) → ((a ++ b) ++ c) ++ d ≡ a ++ ((b ++ c) ++ d)
    regroup a b c d = ap (λ (ys : List ℕ). ys ++ d) (append_assoc a b c) ∙ append_assoc a (b ++ c) d

content_worded : (c : Content) → Worded (content_text c)
content_worded (shows_number n) = one_word (decimal n) (number_word n)
content_worded (shows_items xs) = items_worded xs
content_worded (shows_pairs ps) = pairs_worded ps
content_worded (shows_place None) = one_word (codes "none") (record { some = omega arith; solid = solid (codes "none") ((λ e. omega arith), ((λ e. omega arith), ((λ e. omega arith), ((λ e. omega arith), tt)))) (lacks_by_test (codes "none") refl) })
content_worded (shows_place (Some v)) = one_word (decimal v) (number_word v)

pub run_held : (names : Names) (m : ℕ → ℕ) → AreHeld names (held_lines names m)
run_held [] m = tt
run_held (entry ∷ names) m =
    let h = content_worded (shown entry.1 m) in
    (record { words = h.words; each = h.each; spelled = ap (λ (ys : List ℕ). entry.0 ++ ys ++ codes "\n") h.spelled }, run_held names m)
