-- As many places as records, each the next of its thread, take in all records.
use Rattle.std.proofs.Common.{◌≡◌, inl, inr, ℕ, zero, suc, ◌+◌, ◌<◌, ◌≤◌, List, [], ◌∷◌, All, Option, Some, None, length, refl, sym, ap, subst, ◌∙◌, arith, slice_index_or}
use Rattle.std.proofs.Math.Path.{fun_ext}
use Rattle.std.proofs.lemmas.List.Sums.{sum_by-cons}
use Rattle.std.proofs.lemmas.List.{length-map}
use Rattle.std.specs.Prelude.{slice_get}
use Rattle.std.specs.Option.{option_map}
use Rattle.kc_history.proofs.Ready.{same_or, more_same, more_other}
use Rattle.kc_history.specs.Order.{Chooses, Footprints, Legal, NoneLeft, one_record_more, raised}
use Rattle.kc_history.specs.Records.{footprint_at, record_at}
use Rattle.kc_history.specs.declared.record.Place.{Place}
use Rattle.kc_history.specs.declared.record.Record.{Record}
use Rattle.kc_model.specs.Store.{Store, after}
use Rattle.kc_model.specs.declared.footprint.Footprint.{Footprint}
use Rattle.kc_script_bundle.specs.declared.operation.Command.{Command}
use Rattle.kc_script_runs.specs.Labels.{ThreadsHaveRecords, label}
use Rattle.kc_script_runs.specs.Run.{Replays}
use Rattle.kc_check.proofs.Whole.{labels_long}
use Rattle.kc_check.specs.Faults.{InTurn}
use Rattle.kc_check.specs.Parts.{IsThreadPlace, places_in}

-- of the threads behind the first
abbrev later : (ℕ → ℕ) → ℕ → ℕ
later n u = n (suc u)

-- how many stand, over all threads
total : (ℕ → ℕ) → List (List Command) → ℕ
total n [] = 0
total n (cs ∷ threads) = n zero + total (later n) threads

more_later : (n : ℕ → ℕ) → later (one_record_more zero n) ≡ later n
more_later n = fun_ext (λ u. more_other zero n (suc u) (λ e. (omega arith)))

more_on : (t : ℕ) (n : ℕ → ℕ) → later (one_record_more (suc t) n) ≡ one_record_more t (later n)
more_on t n = fun_ext (λ u. elim (same_or u t) [
  | inl e ↦ more_same (suc t) n (suc u) (ap suc e) ∙ sym (more_same t (later n) u e)
  | inr ne ↦ more_other (suc t) n (suc u) (λ e. ne (omega arith)) ∙ sym (more_other t (later n) u ne)
])

total_more : (threads : List (List Command)) (t : ℕ) (n : ℕ → ℕ) → t < length threads → total (one_record_more t n) threads ≡ total n threads + 1
unfolding total
total_more [] t n lt = absurd (omega arith)
total_more (cs ∷ threads) zero n lt =
    let a : one_record_more zero n zero ≡ n zero + 1 = more_same zero n zero refl in
    let b : total (later (one_record_more zero n)) threads ≡ total (later n) threads = ap (λ (k : ℕ → ℕ). total k threads) (more_later n) in
    omega arith
total_more (cs ∷ threads) (suc t) n lt =
    let a : one_record_more (suc t) n zero ≡ n zero = more_other (suc t) n zero (λ e. (omega arith)) in
    let b : total (later (one_record_more (suc t) n)) threads ≡ total (one_record_more t (later n)) threads = ap (λ (k : ℕ → ℕ). total k threads) (more_on t n) in
    let c : total (one_record_more t (later n)) threads ≡ total (later n) threads + 1 = total_more threads t (later n) (omega arith) in
    omega arith

total_turns : (threads : List (List Command)) (ps : List Place) (n m : ℕ → ℕ) → All (IsThreadPlace threads) ps → InTurn n ps m → total m threads ≡ total n threads + length ps
total_turns threads [] n m each h = let e : total m threads ≡ total n threads = ap (λ (k : ℕ → ℕ). total k threads) h in omega arith
total_turns threads (p ∷ ps) n m each h =
    let a = total_more threads p.thread n (each zero p (omega arith)).thread in
    let b = total_turns threads ps (one_record_more p.thread n) m (λ i d lt. each (suc i) d (omega arith)) h.1 in
    omega (arith, a, b)

total_none : (threads : List (List Command)) (n : ℕ → ℕ) → ((u : ℕ) → n u ≡ 0) → total n threads ≡ 0
unfolding total
total_none [] n z = refl
total_none (cs ∷ threads) n z = let a = z zero in let b = total_none threads (later n) (λ u. z (suc u)) in omega arith

-- of each thread no more stand than it has commands, and its end
abbrev IsUpTo : List (List Command) → (ℕ → ℕ) → Type 0
IsUpTo threads n = (u : ℕ) → u < length threads → n u ≤ length (slice_index_or threads u []) + 1

up_to : (threads : List (List Command)) (ps : List Place) (n m : ℕ → ℕ) → All (IsThreadPlace threads) ps → IsUpTo threads n → InTurn n ps m → IsUpTo threads m
up_to threads [] n m each h turns = subst (IsUpTo threads) (sym turns) h
up_to threads (p ∷ ps) n m each h turns = up_to threads ps (one_record_more p.thread n) m (λ i d lt. each (suc i) d (omega arith)) next turns.1
  where
    next : IsUpTo threads (one_record_more p.thread n)
    next u lt = elim (same_or u p.thread) [
      | inl e ↦
          let a = more_same p.thread n u e in
          let is : IsThreadPlace threads p = each zero p (omega arith) in
          let b : p.index ≡ n u = turns.0 ∙ ap n (sym e) in
          let c : p.index ≤ length (slice_index_or threads u []) = subst (λ (t : ℕ). p.index ≤ length (slice_index_or threads t [])) (sym e) is.index in
          omega arith
      | inr ne ↦ let a = more_other p.thread n u ne in let b = h u lt in omega arith
    ]

-- where as many stand as there are, of each thread all stand
full : (threads : List (List Command)) (n : ℕ → ℕ) → IsUpTo threads n → (total n threads ≤ places_in threads) × (total n threads ≡ places_in threads → (u : ℕ) → u < length threads → n u ≡ length (slice_index_or threads u []) + 1)
unfolding total
full [] n h = (omega arith, λ e u lt. absurd (omega arith))
full (cs ∷ threads) n h =
    let on = full threads (later n) (λ u lt. h (suc u) (omega arith)) in
    let a : n zero ≤ length cs + 1 = h zero (omega arith) in
    let b = sum_by-cons (λ (x : List Command). length x + 1) cs threads in
    let le = on.0 in (
      omega (arith, a, b, le),
      λ e u lt. by u lt (let k : n zero ≡ length cs + 1 = omega (arith, a, b, le, e) in k) (on.1 (let k : total (later n) threads ≡ places_in threads = omega (arith, a, b, le, e) in k)),
    )
  where
    by : (u : ℕ) → u < length (cs ∷ threads) → n zero ≡ length cs + 1 → ((u : ℕ) → u < length threads → n (suc u) ≡ length (slice_index_or threads u []) + 1) → n u ≡ length (slice_index_or (cs ∷ threads) u []) + 1
    by zero lt first others = first
    by (suc u) lt first others = others u (omega arith)

whole : (threads : List (List Command)) (n : ℕ → ℕ) → IsUpTo threads n → ((u : ℕ) → u < length threads → length (slice_index_or threads u []) + 1 ≤ n u) → total n threads ≡ places_in threads
unfolding total
whole [] n up h = refl
whole (cs ∷ threads) n up h =
    let a : n zero ≤ length cs + 1 = up zero (omega arith) in
    let b : length cs + 1 ≤ n zero = h zero (omega arith) in
    let c = sum_by-cons (λ (x : List Command). length x + 1) cs threads in
    let d = whole threads (later n) (λ u lt. up (suc u) (omega arith)) (λ u lt. h (suc u) (omega arith)) in
    omega (arith, a, b, c, d)

-- ---- of records

row_within : (j : ℕ) (threads : List (List Command)) (records : List (List Record)) → ThreadsHaveRecords j threads records → (t k : ℕ) (r : Record) → record_at records t k ≡ Some r → (t < length threads) × (k < length (slice_index_or threads t []) + 1)
row_within j [] [] h t k r at = absurd (cc)
row_within j [] (rs ∷ records) h t k r at = absurd h
row_within j (cs ∷ threads) [] h t k r at = absurd h
row_within j (cs ∷ threads) (rs ∷ records) h zero k r at =
    let a = length-map rs label in
    let b = ap length h.0 in
    let c = labels_long j 1 cs in
    let d = inside rs k r at in
    (omega arith, omega (arith, a, b, c, d))
  where
    inside : (xs : List Record) (k : ℕ) (r : Record) → slice_get xs k ≡ Some r → k < length xs
    inside [] k r at = absurd (cc)
    inside (x ∷ xs) zero r at = omega arith
    inside (x ∷ xs) (suc k) r at = let h = inside xs k r at in omega arith
row_within j (cs ∷ threads) (rs ∷ records) h (suc t) k r at = let on = row_within (j + 1) threads records h.1 t k r at in (let a = on.0 in omega arith, on.1)

-- a place with a record is one of the threads
pub place_within : (threads : List (List Command)) (records : List (List Record)) → ThreadsHaveRecords 1 threads records → (p : Place) (r : Record) → record_at records p.thread p.index ≡ Some r → IsThreadPlace threads p
place_within threads records h p r at = let on = row_within 1 threads records h p.thread p.index r at in let a = on.1 in record { thread = on.0; index = omega arith }

some_in : (o : Option Record) (f : Footprint) → option_map (λ (r : Record). r.footprint) o ≡ Some f → (r : Record) × (o ≡ Some r)
some_in None f e = absurd (cc)
some_in (Some r) f e = (r, refl)

module _ (threads : List (List Command)) (records : List (List Record)) (labelled : ThreadsHaveRecords 1 threads records) (places : List Place) (stand : ℕ → ℕ) (each : All (IsThreadPlace threads) places) (turns : InTurn (λ _. 0) places stand) where
  stand_up_to : IsUpTo threads stand
  stand_up_to = up_to threads places (λ _. 0) stand each (λ u lt. (omega arith)) turns

  counted : total stand threads ≡ length places
  counted = let a = total_turns threads places (λ _. 0) stand each turns in let b = total_none threads (λ _. 0) (λ u. refl) in omega (arith, a, b)

  -- as many places as records take in all
  pub all_stand : length places ≡ places_in threads → NoneLeft (footprint_at records) stand
  all_stand count u k f is =
      let (r, at) = some_in (record_at records u k) f is in
      let inside = row_within 1 threads records labelled u k r at in
      let whole = (full threads stand stand_up_to).1 (counted ∙ count) u inside.0 in
      let below = inside.1 in
      omega arith

  -- where all are taken in, there are as many
  pub all_counted : ((u : ℕ) → u < length threads → length (slice_index_or threads u []) + 1 ≤ stand u) → length places ≡ places_in threads
  all_counted h = sym counted ∙ whole threads stand stand_up_to h

-- as many places in turn as records: of each thread all stand
pub stand_full : (threads : List (List Command)) (places : List Place) (stand : ℕ → ℕ) → All (IsThreadPlace threads) places → InTurn (λ _. 0) places stand → length places ≡ places_in threads → (u : ℕ) → u < length threads → stand u ≡ length (slice_index_or threads u []) + 1
stand_full threads places stand each turns count =
    let a = total_turns threads places (λ _. 0) stand each turns in
    let b = total_none threads (λ _. 0) (λ u. refl) in
    (full threads stand (up_to threads places (λ _. 0) stand each (λ u lt. (omega arith)) turns)).1 (omega (arith, a, b, count))

-- what is replayed in turn, and takes in all, is a legal list
pub legal_of : (limit : ℕ) (threads : List (List Command)) (records : List (List Record)) (n m : ℕ → ℕ) (s e : Store) (ps : List Place) → InTurn n ps m → NoneLeft (footprint_at records) m → Replays limit threads records s ps e → Legal (footprint_at records) n s ps e
legal_of limit threads records n m s e [] turns none r = (subst (NoneLeft (footprint_at records)) turns none, r)
legal_of limit threads records n m s e (p ∷ ps) turns none (meaning, commit, means, stands, is, rest) = (
  commit.footprint,
  (turns.0, ap (option_map (λ (q : Record). q.footprint)) stands),
  is.finds,
  legal_of limit threads records (one_record_more p.thread n) m (after commit.footprint s) e ps turns.1 none rest,
)

-- what is chosen one by one is in turn
pub chosen_turns : (a : Footprints) (ps : List Place) (n v m w : ℕ → ℕ) → Chooses a n v ps m w → InTurn n ps m
chosen_turns a [] n v m w c = c.0
chosen_turns a (p ∷ ps) n v m w (f, chosen, rest) = (chosen.ready.next.0, chosen_turns a ps (one_record_more p.thread n) (raised f v) m w rest)
