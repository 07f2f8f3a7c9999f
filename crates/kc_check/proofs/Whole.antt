-- Where all places come in canonical order and the state is shown, the parts are those of a run's text.
use Rattle.std.proofs.Common.{◌≡◌, ◌≢◌, inl, inr, ℕ, zero, suc, ◌+◌, ◌≤◌, ◌==◌, if◌then◌else◌, List, [], ◌∷◌, ◌++◌, Option, Some, None, Contains, All, length, refl, sym, ap, ap₂, ◌∙◌, arith, slice_index_or, eq-eqb, ne_eqb}
use Rattle.std.proofs.lemmas.List.{append-nil, length-map}
use Rattle.std.proofs.lemmas.List.Elements.{All-contains}
use Rattle.std.specs.Prelude.{slice_get, codes, decimal, IsSome}
use Rattle.std.specs.List.{flat_map}
use Rattle.kc_history.proofs.Choice.{some_is}
use Rattle.kc_history.proofs.Ready.{same_or}
use Rattle.kc_history.specs.Order.{IsCanonical}
use Rattle.kc_history.specs.Records.{record_at, footprint_at}
use Rattle.kc_history.specs.Text.{mark_text, order_line, order_lines, reply_line, reply_lines}
use Rattle.kc_history.specs.declared.record.Mark.{Mark}
use Rattle.kc_history.specs.declared.record.Mark.TheVariants as mark
use Rattle.kc_history.specs.declared.record.Place.{Place}
use Rattle.kc_history.specs.declared.record.Record.{Record}
use Rattle.kc_model.specs.Store.{Store}
use Rattle.kc_script_bundle.proofs.Standing.{all_show}
use Rattle.kc_script_bundle.specs.On.{CommandsAreOn}
use Rattle.kc_script_bundle.specs.Script.{Script, LieFrom}
use Rattle.kc_script_bundle.specs.State.{state_lines, state_text}
use Rattle.kc_script_bundle.specs.declared.operation.Command.{Command}
use Rattle.kc_script_runs.proofs.Determined.{canonical_has, label_at, labelled_at, place}
use Rattle.kc_script_runs.proofs.Formed.{run_formed}
use Rattle.kc_script_runs.proofs.Named.{replays_named}
use Rattle.kc_script_runs.specs.Labels.{ThreadsHaveRecords, Label, label, labels}
use Rattle.kc_script_runs.specs.Run.{IsScriptRun, IsRunText, opening_store}
use Rattle.kc_xt.specs.Meaning.{values}
use Rattle.kc_check.specs.Faults.{ComesWhole}
use Rattle.kc_check.specs.Parts.{Parts, AsMany, IsThreadPlace, joined_lines, mark_at, parts_text, place_text, places_text, replies_text}

-- ---- labels

label_of : ℕ → Mark → Label
label_of thread m = record { thread = thread; mark = m }

abbrev mark_from : ℕ → ℕ → ℕ → Mark
mark_from number commands index = if index == commands then mark.End else mark.Command (index + number)

mark_next : (number k n : ℕ) → mark_from (number + 1) n k ≡ mark_from number (suc n) (suc k)
mark_next number k n = elim (same_or k n) [
  | inl e ↦ ap (λ b. if b then mark.End else mark.Command (k + (number + 1))) (eq-eqb k n e) ∙ sym (ap (λ b. if b then mark.End else mark.Command (suc k + number)) (eq-eqb (suc k) (suc n) (ap suc e)))
  | inr ne ↦
      let moved : k + (number + 1) ≡ suc k + number = omega arith in
      let apart : suc k ≢ suc n = λ e. ne (omega arith) in
      ap (λ b. if b then mark.End else mark.Command (k + (number + 1))) (ne_eqb k n ne) ∙ ap mark.Command moved ∙ sym (ap (λ b. if b then mark.End else mark.Command (suc k + number)) (ne_eqb (suc k) (suc n) apart))
]

-- the label at an index
labels_are : (thread number k : ℕ) (cs : List Command) → k ≤ length cs → slice_get (labels thread number cs) k ≡ Some (label_of thread (mark_from number (length cs) k))
unfolding label_of
labels_are thread number zero [] le = refl
labels_are thread number (suc k) [] le = absurd (omega arith)
labels_are thread number zero (c ∷ cs) le =
    let apart : zero ≢ length (c ∷ cs) = λ e. (omega arith) in
    let same : 0 + number ≡ number = omega arith in
    sym (ap (λ b. Some (label_of thread (if b then mark.End else mark.Command (0 + number)))) (ne_eqb zero (length (c ∷ cs)) apart) ∙ ap (λ i. Some (label_of thread (mark.Command i))) same)
labels_are thread number (suc k) (c ∷ cs) le = labels_are thread (number + 1) k cs (omega arith) ∙ ap (λ m. Some (label_of thread m)) (mark_next number k (length cs))

-- a record's line in the order is that of its place
pub place_line : (threads : List (List Command)) (p : Place) (r : Record) → IsThreadPlace threads p → label_at 1 threads p.thread p.index ≡ Some (label r) → order_line (Some r) ≡ place_text threads p
unfolding label_of
place_line threads p r is at =
    let cs : List Command = slice_index_or threads p.thread [] in
    let named : label r ≡ label_of (1 + p.thread) (mark_from 1 (length cs) p.index) = some_is (label r) (label_of (1 + p.thread) (mark_from 1 (length cs) p.index)) (sym at ∙ labels_are (1 + p.thread) 1 p.index cs is.index) in
    let one : 1 + p.thread ≡ p.thread + 1 = omega arith in
    let f : Label → List ℕ = λ l. decimal l.thread ++ codes "." ++ mark_text l.mark ++ codes "\n" in
    ap f named ∙ ap (λ i. decimal i ++ codes "." ++ mark_text (mark_at (length cs) p.index) ++ codes "\n") one

-- ---- the order

pub flat_same : {X : Type 0} (f g : X → List ℕ) (xs : List X) → ((x : X) → Contains xs x → f x ≡ g x) → flat_map f xs ≡ flat_map g xs
flat_same f g [] same = refl
flat_same f g (x ∷ xs) same = ap₂ (λ (a b : List ℕ). a ++ b) (same x (0, omega arith, refl)) (flat_same f g xs (λ y (i, lt, is). same y (suc i, omega arith, is)))

there : {X : Type 0} (o : Option X) → IsSome o → (x : X) × (o ≡ Some x)
there None some = absurd (cc)
there (Some x) some = (x, refl)

module _ (threads : List (List Command)) (records : List (List Record)) (labelled : ThreadsHaveRecords 1 threads records) where
  pub order_is : (places : List Place) → All (IsThreadPlace threads) places → ((p : Place) → Contains places p → IsSome (record_at records p.thread p.index)) → order_lines records places ≡ places_text threads places
  order_is places each some = flat_same (λ (p : Place). order_line (record_at records p.thread p.index)) (place_text threads) places (λ p inside.
      let (r, at) = there (record_at records p.thread p.index) (some p inside) in
      ap order_line at ∙ place_line threads p r (All-contains (IsThreadPlace threads) places p each inside) (labelled_at 1 threads records labelled p.thread p.index r at))

-- ---- the replies

pub labels_long : (thread number : ℕ) (cs : List Command) → length (labels thread number cs) ≡ length cs + 1
labels_long thread number [] = refl
labels_long thread number (c ∷ cs) = let e = labels_long thread (number + 1) cs in omega (arith, e)

thread_said : (rs : List Record) (ls : List (List ℕ)) → length rs ≡ length ls + 1 → ((k : ℕ) (r : Record) → slice_get rs k ≡ Some r → slice_index_or ls k [] ≡ reply_line r) → flat_map reply_line rs ≡ joined_lines ls
thread_said [] ls long said = absurd (omega arith)
thread_said (r ∷ []) [] long said = append-nil (reply_line r) ∙ sym (said zero r refl)
thread_said (r ∷ q ∷ rs) [] long said = absurd (omega arith)
thread_said (r ∷ rs) (l ∷ ls) long said = ap₂ (λ (a b : List ℕ). a ++ b) (sym (said zero r refl)) (thread_said rs ls (omega arith) (λ k q at. said (suc k) q at))

pub replies_are : (j : ℕ) (threads : List (List Command)) (records : List (List Record)) (replies : List (List (List ℕ))) → ThreadsHaveRecords j threads records → AsMany threads replies → ((t k : ℕ) (r : Record) → record_at records t k ≡ Some r → slice_index_or (slice_index_or replies t []) k [] ≡ reply_line r) → reply_lines records ≡ replies_text replies
replies_are j [] [] [] h m said = refl
replies_are j [] [] (ls ∷ replies) h m said = absurd m
replies_are j [] (rs ∷ records) replies h m said = absurd h
replies_are j (cs ∷ threads) [] replies h m said = absurd h
replies_are j (cs ∷ threads) (rs ∷ records) [] h m said = absurd m
replies_are j (cs ∷ threads) (rs ∷ records) (ls ∷ replies) h m said =
    let a = length-map rs label in
    let b = ap length h.0 in
    let c = labels_long j 1 cs in
    let d = m.0 in
    let long : length rs ≡ length ls + 1 = omega (arith, a, b, c, d) in
    ap₂ (λ (x y : List ℕ). x ++ y) (thread_said rs ls long (λ k r at. said zero k r at)) (replies_are (j + 1) threads records replies h.1 m.1 (λ t k r at. said (suc t) k r at))

-- ---- the text

module _ (s : Script) (parts : Parts) (last : Store) (records : List (List Record)) (whole : ComesWhole s parts last records) (canonical : IsCanonical (footprint_at records) parts.places) where
  pub whole_run : IsScriptRun s records parts.places last
  whole_run = record { threads = whole.comes.labelled; canonical = canonical; replays = whole.comes.replays }

  pub whole_text : LieFrom 1 s.objects → ((t : ℕ) → CommandsAreOn s.objects (slice_index_or s.threads t [])) → AsMany s.threads parts.replies → All (IsThreadPlace s.threads) parts.places → joined_lines parts.state ≡ state_text s.objects (values last) → IsRunText s records (parts_text s.threads parts)
  whole_text lie on many each shown =
      let (contents, stand) = run_formed s records parts.places last lie on whole_run in
      let replies : reply_lines records ≡ replies_text parts.replies = replies_are 1 s.threads records parts.replies whole.comes.labelled many (λ t k r at. whole.comes.said (place t k) (canonical_has records parts.places canonical t k r at) r at) in
      let places : order_lines records parts.places ≡ places_text s.threads parts.places = order_is s.threads records whole.comes.labelled parts.places each (replays_named s.limit s.threads records (opening_store s) last parts.places whole.comes.replays) in
      let state : joined_lines parts.state ≡ state_lines s.objects contents = shown ∙ all_show s.objects (values last) contents stand in
      record {
        order = parts.places;
        last = last;
        contents = contents;
        run = whole_run;
        stand = stand;
        spelled = ap₂ (λ (a b : List ℕ). a ++ codes "order\n" ++ b ++ codes "state\n" ++ joined_lines parts.state) (sym replies) (sym places) ∙ ap (λ c. reply_lines records ++ codes "order\n" ++ order_lines records parts.places ++ codes "state\n" ++ c) state;
      }
