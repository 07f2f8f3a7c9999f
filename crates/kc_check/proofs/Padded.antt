-- Records so far, with blank ones behind them.
use Rattle.std.proofs.Common.{◌≡◌, ◌≢◌, inl, inr, ℕ, zero, suc, ◌+◌, ◌-◌, ◌<◌, ◌≤◌, List, [], ◌∷◌, ◌++◌, map, length, drop, get_or, set, All, Some, refl, sym, ap, ap₂, subst, ◌∙◌, arith, slice_index_or}
use Rattle.std.proofs.Math.Path.{fun_ext}
use Rattle.std.proofs.lemmas.List.{append-nil, length-map}
use Rattle.std.specs.Prelude.{slice_get}
use Rattle.std.specs.Option.{option_map}
use Rattle.kc_history.proofs.Choice.{some_is}
use Rattle.kc_history.proofs.Ready.{same_or, more_same, more_other}
use Rattle.kc_history.specs.Ends.{AreWellMade, CanStand}
use Rattle.kc_history.specs.Kept.{print}
use Rattle.kc_history.specs.Order.{one_record_more}
use Rattle.kc_history.specs.Records.{footprint_at, lists_of}
use Rattle.kc_history.specs.RecordsValue.{RecordsValue}
use Rattle.kc_history.specs.declared.record.Record.{Record}
use Rattle.kc_model.specs.declared.footprint.Footprint.{Footprint}
use Rattle.kc_script_bundle.specs.declared.operation.Command.{Command}
use Rattle.kc_script_runs.specs.Labels.{ThreadsHaveRecords, Label, label, labels}
use Rattle.kc_check.specs.Replays.{AreFirst, HasRoomForRecords, HaveRoom, all_padded, blank, counts, padded}

-- ---- one thread

-- the blank ones behind so many
blanks : List Label → ℕ → List Record
blanks ls n = drop n (map blank ls)

labelled_in : (ls : List Label) (rs : List Record) → AreFirst ls rs → map label (rs ++ blanks ls (length rs)) ≡ ls
unfolding blanks
labelled_in [] [] h = refl
labelled_in (l ∷ ls) [] h = ap (λ (ks : List Label). l ∷ ks) (labelled_in ls [] tt)
labelled_in [] (r ∷ rs) h = absurd h
labelled_in (l ∷ ls) (r ∷ rs) h = ap₂ (λ (k : Label) (ks : List Label). k ∷ ks) h.0 (labelled_in ls rs h.1)

filled_in : (ls : List Label) (rs : List Record) (r : Record) (l : Label) → AreFirst ls rs → slice_get ls (length rs) ≡ Some l → (rs ++ r ∷ []) ++ blanks ls (length (rs ++ r ∷ [])) ≡ set (rs ++ blanks ls (length rs)) (length rs) r
unfolding blanks
filled_in [] [] r l h at = absurd (cc)
filled_in (k ∷ ls) [] r l h at = refl
filled_in [] (q ∷ rs) r l h at = absurd h
filled_in (k ∷ ls) (q ∷ rs) r l h at = ap (λ (xs : List Record). q ∷ xs) (filled_in ls rs r l h.1 at)

first_more : (ls : List Label) (rs : List Record) (r : Record) (l : Label) → AreFirst ls rs → slice_get ls (length rs) ≡ Some l → label r ≡ l → AreFirst ls (rs ++ r ∷ [])
first_more [] [] r l h at is = absurd (cc)
first_more (k ∷ ls) [] r l h at is = (is ∙ sym (some_is k l at), tt)
first_more [] (q ∷ rs) r l h at is = absurd h
first_more (k ∷ ls) (q ∷ rs) r l h at is = (h.0, first_more ls rs r l h.1 at is)

-- one more record takes the place of a blank one with its label
pub padded_more : (thread : ℕ) (cs : List Command) (rs : List Record) (r : Record) (l : Label) → AreFirst (labels thread 1 cs) rs → slice_get (labels thread 1 cs) (length rs) ≡ Some l → padded thread cs (rs ++ r ∷ []) ≡ set (padded thread cs rs) (length rs) r
unfolding blanks
padded_more thread cs rs r l h at = filled_in (labels thread 1 cs) rs r l h at

pub room_more : (limit thread : ℕ) (cs : List Command) (v w : RecordsValue) (r : Record) (l : Label) → HasRoomForRecords limit thread cs v → 0 < v.bare → slice_get (labels thread 1 cs) (length v.items) ≡ Some l → label r ≡ l → w.items ≡ v.items ++ r ∷ [] → w.bare ≡ v.bare - 1 → w.limit ≡ v.limit → w.spare ≡ v.spare → HasRoomForRecords limit thread cs w
room_more limit thread cs v w r l h some at is items bare same spare =
    let long : length w.items ≡ length v.items + 1 = ap length items ∙ length_more v.items r in
    let count = h.1 in (
      subst (AreFirst (labels thread 1 cs)) (sym items) (first_more (labels thread 1 cs) v.items r l h.0 at is),
      omega (arith, long, bare, some, count),
      same ∙ h.2,
      spare ∙ h.3,
    )
  where
    length_more : (xs : List Record) (x : Record) → length (xs ++ x ∷ []) ≡ length xs + 1
    length_more [] x = refl
    length_more (y ∷ xs) x = let h = length_more xs x in omega (arith, h)

-- ---- all threads

pub padded_threads : (limit j : ℕ) (threads : List (List Command)) (vs : List RecordsValue) → HaveRoom limit j threads vs → ThreadsHaveRecords j threads (all_padded j threads (lists_of vs))
unfolding blanks
padded_threads limit j [] [] h = tt
padded_threads limit j [] (v ∷ vs) h = absurd h
padded_threads limit j (cs ∷ threads) [] h = absurd h
padded_threads limit j (cs ∷ threads) (v ∷ vs) h = (labelled_in (labels j 1 cs) v.items h.0.0, padded_threads limit (j + 1) threads vs h.1)

pub as_many : (limit j : ℕ) (threads : List (List Command)) (vs : List RecordsValue) → HaveRoom limit j threads vs → length vs ≡ length threads
as_many limit j [] [] h = refl
as_many limit j [] (v ∷ vs) h = absurd h
as_many limit j (cs ∷ threads) [] h = absurd h
as_many limit j (cs ∷ threads) (v ∷ vs) h = ap suc (as_many limit (j + 1) threads vs h.1)

-- the room of one thread
pub room_at : (limit j : ℕ) (threads : List (List Command)) (vs : List RecordsValue) (t k : ℕ) (v : RecordsValue) → HaveRoom limit j threads vs → t < length threads → j + t ≡ k → v ≡ get_or vs t v → HasRoomForRecords limit k (slice_index_or threads t []) v
room_at limit j [] vs t k v h lt is at = absurd (omega arith)
room_at limit j (cs ∷ threads) [] t k v h lt is at = absurd h
room_at limit j (cs ∷ threads) (w ∷ vs) zero k v h lt is at =
    let e : j ≡ k = omega (arith, is) in
    subst (λ (i : ℕ). HasRoomForRecords limit i cs v) e (subst (HasRoomForRecords limit j cs) (sym at) h.0)
room_at limit j (cs ∷ threads) (w ∷ vs) (suc t) k v h lt is at = room_at limit (j + 1) threads vs t k v h.1 (omega arith) (omega (arith, is)) at

pub room_set : (limit j : ℕ) (threads : List (List Command)) (vs : List RecordsValue) (t k : ℕ) (w : RecordsValue) → HaveRoom limit j threads vs → j + t ≡ k → HasRoomForRecords limit k (slice_index_or threads t []) w → HaveRoom limit j threads (set vs t w)
room_set limit j [] [] t k w h is room = h
room_set limit j [] (v ∷ vs) t k w h is room = absurd h
room_set limit j (cs ∷ threads) [] t k w h is room = absurd h
room_set limit j (cs ∷ threads) (v ∷ vs) zero k w h is room =
    let e : k ≡ j = omega (arith, is) in
    (subst (λ (i : ℕ). HasRoomForRecords limit i cs w) e room, h.1)
room_set limit j (cs ∷ threads) (v ∷ vs) (suc t) k w h is room = (h.0, room_set limit (j + 1) threads vs t k w h.1 (omega (arith, is)) room)

pub padded_row : (j : ℕ) (threads : List (List Command)) (vs : List RecordsValue) (t k : ℕ) (v : RecordsValue) → t < length threads → t < length vs → j + t ≡ k → v ≡ get_or vs t v → slice_index_or (all_padded j threads (lists_of vs)) t [] ≡ padded k (slice_index_or threads t []) v.items
padded_row j [] vs t k v lt le is at = absurd (omega arith)
padded_row j (cs ∷ threads) [] t k v lt le is at = absurd (omega arith)
padded_row j (cs ∷ threads) (w ∷ vs) zero k v lt le is at =
    let e : j ≡ k = omega (arith, is) in
    ap₂ (λ (i : ℕ) (x : RecordsValue). padded i cs x.items) e (sym at)
padded_row j (cs ∷ threads) (w ∷ vs) (suc t) k v lt le is at = padded_row (j + 1) threads vs t k v (omega arith) (omega arith) (omega (arith, is)) at

pub padded_set : (j : ℕ) (threads : List (List Command)) (vs : List RecordsValue) (t k : ℕ) (w : RecordsValue) → t < length threads → t < length vs → j + t ≡ k → all_padded j threads (lists_of (set vs t w)) ≡ set (all_padded j threads (lists_of vs)) t (padded k (slice_index_or threads t []) w.items)
padded_set j [] vs t k w lt le is = absurd (omega arith)
padded_set j (cs ∷ threads) [] t k w lt le is = absurd (omega arith)
padded_set j (cs ∷ threads) (v ∷ vs) zero k w lt le is =
    let e : j ≡ k = omega (arith, is) in
    ap (λ (i : ℕ). padded i cs w.items ∷ all_padded (j + 1) threads (lists_of vs)) e
padded_set j (cs ∷ threads) (v ∷ vs) (suc t) k w lt le is = ap (λ (xs : List (List Record)). padded j cs v.items ∷ xs) (padded_set (j + 1) threads vs t k w (omega arith) (omega arith) (omega (arith, is)))

-- where all were made, there is no blank one
pub padded_whole : (limit j : ℕ) (threads : List (List Command)) (vs : List RecordsValue) → HaveRoom limit j threads vs → ((u : ℕ) → u < length threads → counts (lists_of vs) u ≡ length (slice_index_or threads u []) + 1) → all_padded j threads (lists_of vs) ≡ lists_of vs
unfolding blanks
padded_whole limit j [] [] h full = refl
padded_whole limit j [] (v ∷ vs) h full = absurd h
padded_whole limit j (cs ∷ threads) [] h full = absurd h
padded_whole limit j (cs ∷ threads) (v ∷ vs) h full =
    let many : length v.items ≡ length cs + 1 = full zero (omega arith) in
    let long = labels_long j 1 cs in
    let blank_long = length-map (labels j 1 cs) blank in
    let none : drop (length v.items) (map blank (labels j 1 cs)) ≡ [] = past (map blank (labels j 1 cs)) (length v.items) (omega (arith, many, long, blank_long)) in
    ap₂ (λ (xs : List Record) (ys : List (List Record)). xs ∷ ys) (ap (λ (xs : List Record). v.items ++ xs) none ∙ append-nil v.items) (padded_whole limit (j + 1) threads vs h.1 (λ u lt. full (suc u) (omega arith)))
  where
    past : {X : Type 0} (xs : List X) (n : ℕ) → length xs ≤ n → drop n xs ≡ []
    past [] zero le = refl
    past [] (suc n) le = refl
    past (x ∷ xs) zero le = absurd (omega arith)
    past (x ∷ xs) (suc n) le = past xs n (omega arith)

    labels_long : (thread number : ℕ) (cs : List Command) → length (labels thread number cs) ≡ length cs + 1
    labels_long thread number [] = refl
    labels_long thread number (c ∷ cs) = let e = labels_long thread (number + 1) cs in omega (arith, e)

-- ---- how many there are

pub counts_set : (vs : List RecordsValue) (t : ℕ) (v w : RecordsValue) → t < length vs → v ≡ get_or vs t v → length w.items ≡ length v.items + 1 → counts (lists_of (set vs t w)) ≡ one_record_more t (counts (lists_of vs))
counts_set vs t v w lt at long = fun_ext (λ u. elim (same_or u t) [
  | inl e ↦ ap (counts (lists_of (set vs t w))) e ∙ here vs t lt ∙ long ∙ ap (λ (n : ℕ). n + 1) (sym (was vs t v lt at)) ∙ sym (more_same t (counts (lists_of vs)) t refl) ∙ ap (one_record_more t (counts (lists_of vs))) (sym e)
  | inr ne ↦ other vs t u ne ∙ sym (more_other t (counts (lists_of vs)) u ne)
])
  where
    here : (vs : List RecordsValue) (t : ℕ) → t < length vs → counts (lists_of (set vs t w)) t ≡ length w.items
    here [] t lt = absurd (omega arith)
    here (x ∷ vs) zero lt = refl
    here (x ∷ vs) (suc t) lt = here vs t (omega arith)

    was : (vs : List RecordsValue) (t : ℕ) (v : RecordsValue) → t < length vs → v ≡ get_or vs t v → counts (lists_of vs) t ≡ length v.items
    was [] t v lt at = absurd (omega arith)
    was (x ∷ vs) zero v lt at = ap (λ (y : RecordsValue). length y.items) (sym at)
    was (x ∷ vs) (suc t) v lt at = was vs t v (omega arith) at

    other : (vs : List RecordsValue) (t u : ℕ) → u ≢ t → counts (lists_of (set vs t w)) u ≡ counts (lists_of vs) u
    other [] t u ne = refl
    other (x ∷ vs) zero zero ne = absurd (ne refl)
    other (x ∷ vs) zero (suc u) ne = refl
    other (x ∷ vs) (suc t) zero ne = refl
    other (x ∷ vs) (suc t) (suc u) ne = other vs t u (λ e. ne (ap suc e))

pub count_at : (vs : List RecordsValue) (t : ℕ) (v : RecordsValue) → t < length vs → v ≡ get_or vs t v → counts (lists_of vs) t ≡ length v.items
count_at [] t v lt at = absurd (omega arith)
count_at (x ∷ vs) zero v lt at = ap (λ (y : RecordsValue). length y.items) (sym at)
count_at (x ∷ vs) (suc t) v lt at = count_at vs t v (omega arith) at

pub counts_none : (vs : List RecordsValue) → All (λ (v : RecordsValue). v.items ≡ []) vs → counts (lists_of vs) ≡ (λ (u : ℕ). 0)
counts_none vs empty = fun_ext (λ u. at vs u empty)
  where
    at : (vs : List RecordsValue) (u : ℕ) → All (λ (v : RecordsValue). v.items ≡ []) vs → counts (lists_of vs) u ≡ 0
    at [] u h = refl
    at (v ∷ vs) zero h = ap length (h zero v (omega arith))
    at (v ∷ vs) (suc u) h = at vs u (λ k d lt. h (suc k) d (omega arith))

-- ---- blank footprints

nothing_stands : CanStand (print [] [])
nothing_stands = (record { reads_rise = tt; puts_rise = tt; versions = λ r (i, lt, is). absurd (omega arith); puts_read = λ p (i, lt, is). absurd (omega arith); versions_put = λ p (i, lt, is). absurd (omega arith) }, λ r (i, lt, is). absurd (omega arith))

pub blank_made : (j : ℕ) (threads : List (List Command)) (vs : List RecordsValue) → length vs ≡ length threads → All (λ (v : RecordsValue). v.items ≡ []) vs → AreWellMade (footprint_at (all_padded j threads (lists_of vs)))
blank_made j threads [] long empty u k f at = absurd (no_thread threads (omega arith) u k f at)
  where
    no_thread : (threads : List (List Command)) → length threads ≡ 0 → (u k : ℕ) (f : Footprint) → footprint_at (all_padded j threads []) u k ≡ Some f → ⊥
    no_thread [] e u k f at = cc
    no_thread (cs ∷ threads) e u k f at = absurd (omega arith)
blank_made j [] (v ∷ vs) long empty u k f at = absurd (omega arith)
blank_made j (cs ∷ threads) (v ∷ vs) long empty zero k f at =
    let none : v.items ≡ [] = empty zero v (omega arith) in
    in_blank (labels j 1 cs) k (subst (λ (xs : List Record). option_map (λ (r : Record). r.footprint) (slice_get (xs ++ drop (length xs) (map blank (labels j 1 cs))) k) ≡ Some f) none at)
  where
    in_blank : (ls : List Label) (k : ℕ) → option_map (λ (r : Record). r.footprint) (slice_get (map blank ls) k) ≡ Some f → CanStand f
    in_blank [] k at = absurd (cc)
    in_blank (l ∷ ls) zero at = subst CanStand (some_is (print [] []) f at) nothing_stands
    in_blank (l ∷ ls) (suc k) at = in_blank ls k at
blank_made j (cs ∷ threads) (v ∷ vs) long empty (suc u) k f at = blank_made (j + 1) threads vs (omega arith) (λ i d lt. empty (suc i) d (omega arith)) u k f at
