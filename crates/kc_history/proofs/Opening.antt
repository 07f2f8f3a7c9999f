-- The counts where no record stands.
use Rattle.std.proofs.Common.{◌≡◌, ℕ, zero, suc, ◌+◌, ◌-◌, ◌<◌, ◌≤◌, List, [], ◌∷◌, Some, All, length, take, slice_get, slice_index, slice_index_or, sum, sum_by, refl, sym, ap, subst, ◌∙◌, arith, ◌++◌, drop, append-nil, take_all}
use Rattle.std.proofs.Math.Path.{fun_ext}
use Rattle.std.proofs.Math.ListN.{drop_of_length-le}
use Rattle.std.proofs.lemmas.List.Sums.{sum_by-cons, sum_by_more}
use Rattle.kc_history.specs.RecordsValue.{RecordsValue}
use Rattle.kc_history.proofs.Choice.{some_is}
use Rattle.kc_history.proofs.Tallies.{climbs}
use Rattle.kc_history.proofs.Totals.{unplaced_all, record_is, list_is}
use Rattle.kc_history.specs.Counts.{foot_at, footprints, sum_unplaced, readers_of, putters_of, slot, width, Slots, Counted}
use Rattle.kc_history.specs.declared.record.Record.{Record}
use Rattle.kc_model.specs.declared.footprint.Footprint.{Footprint}

pub ones_sum : (xs : List ℕ) → ((k : ℕ) → k < length xs → slice_index xs k ≡ 1) → sum xs ≤ length xs
ones_sum [] h = omega arith
ones_sum (x ∷ xs) h =
    let a = sum_by-cons (λ x. x) x xs in
    let b = h zero (omega arith) in
    let c = ones_sum xs (λ k lt. h (suc k) (omega arith)) in
    omega arith

any_default : {X : Type 0} (xs : List X) (k : ℕ) (d e : X) → k < length xs → slice_index_or xs k d ≡ slice_index_or xs k e
any_default [] k d e lt = absurd (omega arith)
any_default (x ∷ xs) zero d e lt = refl
any_default (x ∷ xs) (suc k) d e lt = any_default xs k d e (omega arith)

pub all_lists : (P : Footprint → Type 0) (vs : List RecordsValue) → ((u k : ℕ) (f : Footprint) → foot_at vs u k ≡ Some f → P f) → All (λ (v : RecordsValue). All (λ (r : Record). P r.footprint) v.items) vs
all_lists P vs h u d lt k e kt =
    let v = slice_index_or vs u d in
    let r = slice_index_or v.items k e in
    h u k r.footprint (record_is vs u v k r lt (any_default vs u d v lt) kt (any_default v.items k e r kt))

-- and back
pub by_lists : (P : Footprint → Type 0) (vs : List RecordsValue) → All (λ (v : RecordsValue). All (λ (r : Record). P r.footprint) v.items) vs → (u k : ℕ) (f : Footprint) → foot_at vs u k ≡ Some f → P f
by_lists P [] h u k f e = absurd (cc)
by_lists P (v ∷ vs) h zero k f e = in_list P v.items (h zero v (omega arith)) k f e
  where
    in_list : (P : Footprint → Type 0) (rs : List Record) → All (λ (r : Record). P r.footprint) rs → (k : ℕ) (f : Footprint) → slice_get (footprints rs) k ≡ Some f → P f
    in_list P [] h k f e = absurd (cc)
    in_list P (r ∷ rs) h zero f e = subst P (some_is r.footprint f e) (h zero r (omega arith))
    in_list P (r ∷ rs) h (suc k) f e = in_list P rs (λ j d lt. h (suc j) d (omega arith)) k f e
by_lists P (v ∷ vs) h (suc u) k f e = by_lists P vs (λ j d lt. h (suc j) d (omega arith)) u k f e

pub slots_of : (starts widths : List ℕ) (size : ℕ) → length starts ≡ length widths → ((k : ℕ) → k < length widths → slice_index starts k ≡ sum (take k widths)) → slice_index starts (length starts - 1) ≤ size → Slots starts size
slots_of starts widths size len h few = record {
  rises = rises;
  ends = λ l lt.
      let a = climbs starts rises l (length starts - 1 - l) (omega arith) in
      let b : slice_index starts (l + (length starts - 1 - l)) ≡ slice_index starts (length starts - 1) = ap (slice_index starts) (omega arith) in
      omega arith;
}
  where
    rises : (l : ℕ) → l + 1 < length starts → slice_index starts l ≤ slice_index starts (l + 1)
    rises l lt =
        let a = h l (omega arith) in
        let b = h (l + 1) (omega arith) in
        let c = sum_by_more (λ x. x) widths l 0 (omega arith) in
        omega arith

pub width_is : (starts widths : List ℕ) → length starts ≡ length widths → ((k : ℕ) → k < length widths → slice_index starts k ≡ sum (take k widths)) → (l : ℕ) → l + 1 < length starts → width starts l ≡ slice_index widths l
width_is starts widths len h l lt =
    let a = h l (omega arith) in
    let b = h (l + 1) (omega arith) in
    let c = sum_by_more (λ x. x) widths l 0 (omega arith) in
    omega arith

a_record : (xs : List Record) (k : ℕ) → k < length xs → (f : Footprint) × (slice_get (footprints xs) k ≡ Some f)
a_record [] k lt = absurd (omega arith)
a_record (x ∷ xs) zero lt = (x.footprint, refl)
a_record (x ∷ xs) (suc k) lt = a_record xs k (omega arith)

-- the thread has a record there
pub left_at : (vs : List RecordsValue) (t : ℕ) (v : RecordsValue) (k : ℕ) → t < length vs → v ≡ slice_index_or vs t v → k < length v.items → (f : Footprint) × (foot_at vs t k ≡ Some f)
left_at vs t v k lt e kt =
    let r = a_record v.items k kt in
    (r.0, ap (λ xs. slice_get xs k) (list_is vs t v lt e) ∙ r.1)

pub in_items : (xs : List Record) (k : ℕ) (f : Footprint) → slice_get (footprints xs) k ≡ Some f → k < length xs
in_items [] k f e = absurd (cc)
in_items (x ∷ xs) zero f e = omega arith
in_items (x ∷ xs) (suc k) f e = let a = in_items xs k f e in omega arith

pub none_left_at : (vs : List RecordsValue) (t : ℕ) (v : RecordsValue) (n k : ℕ) (f : Footprint) → t < length vs → v ≡ slice_index_or vs t v → length v.items ≤ n → foot_at vs t k ≡ Some f → k < n
none_left_at vs t v n k f lt e h r =
    let b = in_items v.items k f (ap (λ xs. slice_get xs k) (sym (list_is vs t v lt e)) ∙ r) in
    omega arith

unplaced_at_zero : (w : Footprint → ℕ) (vs : List RecordsValue) (next : List ℕ) → ((u : ℕ) → slice_index next u ≡ 0) → sum_unplaced w vs (slice_index next) ≡ sum_by (λ (v : RecordsValue). sum_by (λ (r : Record). w r.footprint) v.items) vs
unplaced_at_zero w vs next h = ap (sum_unplaced w vs) (fun_ext h) ∙ unplaced_all w vs

pub opening_counts : (vs : List RecordsValue) (next versions starts widths left : List ℕ) →
    length starts ≡ length versions + 1 → length starts ≡ length widths → ((k : ℕ) → k < length widths → slice_index starts k ≡ sum (take k widths)) → Slots starts (length left) →
    ((u : ℕ) → slice_index next u ≡ 0) → ((l : ℕ) → slice_index versions l ≡ 0) →
    ((l : ℕ) → l < length widths → slice_index widths l ≡ 1 + sum_by (λ (v : RecordsValue). sum_by (λ (r : Record). putters_of l r.footprint) v.items) vs) →
    ((l v : ℕ) → l + 1 < length starts → v < width starts l → slice_index left (slot starts l v) ≡ sum_by (λ (w : RecordsValue). sum_by (λ (r : Record). readers_of l v r.footprint) w.items) vs) →
    Counted vs next versions starts left
opening_counts vs next versions starts widths left lens len h slots none zeros puts reads = record {
  slots = slots;
  lengths = lens;
  counts = λ l v lt vt. reads l v (omega arith) vt ∙ sym (unplaced_at_zero (readers_of l v) vs next none);
  widths = λ l lt.
      let a = width_is starts widths len h l (omega arith) in
      let b = puts l (omega arith) in
      let c = unplaced_at_zero (putters_of l) vs next none in
      let d = zeros l in
      omega arith;
}

-- what a slice of a whole vector leaves behind
pub put_back : {A : Type 0} (new old : List A) (n : ℕ) → length new ≡ n → length old ≡ n → take n (new ++ drop (length new) old) ≡ new
put_back {A} new old n e f =
    ap (λ (xs : List A). take n (new ++ xs)) (drop_of_length-le old {i = length new} (omega arith)) ∙ ap (take n) (append-nil new) ∙ take_all n new (omega arith)

pub same_default : (xs : List ℕ) (k x : ℕ) → k < length xs → x ≡ slice_index_or xs k x → x ≡ slice_index xs k
same_default xs k x lt e = e ∙ any_default xs k x 0 lt
