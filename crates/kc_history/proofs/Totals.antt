-- Sums over the records that don't stand yet.
use Rattle.std.proofs.Common.{◌≡◌, ◌≢◌, ℕ, zero, suc, ◌+◌, ◌<◌, ◌≤◌, List, [], ◌∷◌, Bool, true, false, cond, Some, None, length, drop, slice_get, slice_index_or, sum_by, Contains, AllPairs, ◌==◌, refl, sym, ap, ap₂, ◌∙◌, arith, add-one, eq-eqb, ne_eqb, inl, inr}
use Rattle.std.proofs.Math.Path.{fun_ext}
use Rattle.std.proofs.lemmas.List.Elements.{Contains-get_or}
use Rattle.std.proofs.lemmas.List.Sums.{sum_by-cons}
use Rattle.std.specs.Prelude.{map}
use Rattle.std.specs.Option.{option_map}
use Rattle.kc_history.specs.Ends.{AreWellMade}
use Rattle.kc_history.specs.Records.{footprint_at, lists_of, record_print}
use Rattle.kc_model.specs.Rising.{IsRising, IsRisingAbove}
use Rattle.kc_model.specs.declared.plain_store.TheConstants.{MOST_LOCATIONS}
use Rattle.kc_history.specs.RecordsValue.{RecordsValue}
use Rattle.kc_history.proofs.Choice.{some_is}
use Rattle.kc_history.proofs.Kept.{print_at}
use Rattle.kc_history.proofs.Ready.{no_some, same_or, more_same, more_other}
use Rattle.kc_history.proofs.Tallies.{one_read, other_loc}
use Rattle.kc_history.specs.Counts.{AllWellMade, list_at, footprints, foot_at, sum_unplaced, reads_at, readers, putters, puts_at}
use Rattle.kc_history.specs.Order.{Footprints, one_record_more, version_after}
use Rattle.kc_history.specs.declared.record.Record.{Record}
use Rattle.kc_model.specs.Footprint.{put_at}
use Rattle.kc_model.specs.declared.footprint.Footprint.{Footprint}
use Rattle.kc_model.specs.declared.footprint.Put.{Put}
use Rattle.kc_model.specs.declared.footprint.Seen.{Seen}

rest_suc : (w : Footprint → ℕ) (fs : List Footprint) (k : ℕ) (f : Footprint) → slice_get fs k ≡ Some f → sum_by w (drop k fs) ≡ w f + sum_by w (drop (suc k) fs)
rest_suc w [] k f e = absurd (no_some f e)
rest_suc w (x ∷ xs) zero f e = sum_by-cons w x xs ∙ ap (λ y. w y + sum_by w xs) (some_is x f e)
rest_suc w (x ∷ xs) (suc k) f e = rest_suc w xs k f e

rest_step : (w : Footprint → ℕ) (fs : List Footprint) (k : ℕ) (f : Footprint) → slice_get fs k ≡ Some f → sum_by w (drop k fs) ≡ w f + sum_by w (drop (k + 1) fs)
rest_step w fs k f e = rest_suc w fs k f e ∙ ap (λ j. w f + sum_by w (drop j fs)) (sym (add-one k))

more_zero : (t : ℕ) (n : ℕ → ℕ) → one_record_more (suc t) n zero ≡ n zero
more_zero t n = more_other (suc t) n zero (λ e. omega arith)

more_zero_behind : (n : ℕ → ℕ) (u : ℕ) → one_record_more zero n (suc u) ≡ n (suc u)
more_zero_behind n u = more_other zero n (suc u) (λ e. omega arith)

more_behind : (t : ℕ) (n : ℕ → ℕ) (u : ℕ) → one_record_more (suc t) n (suc u) ≡ one_record_more t (λ u. n (suc u)) u
more_behind t n u = elim (same_or u t) [
  | inl e ↦ more_same (suc t) n (suc u) (ap suc e) ∙ sym (more_same t (λ u. n (suc u)) u e)
  | inr e ↦ more_other (suc t) n (suc u) (λ h. e (omega arith)) ∙ sym (more_other t (λ u. n (suc u)) u e)
]

-- one more record stands
pub unplaced_step : (w : Footprint → ℕ) (vs : List RecordsValue) (n : ℕ → ℕ) (t : ℕ) (f : Footprint) → foot_at vs t (n t) ≡ Some f → sum_unplaced w vs n ≡ w f + sum_unplaced w vs (one_record_more t n)
unplaced_step w [] n t f e = absurd (no_some f e)
unplaced_step w (v ∷ vs) n zero f e =
    let a = rest_step w (footprints v.items) (n zero) f e in
    let b : sum_by w (drop (one_record_more zero n zero) (footprints v.items)) ≡ sum_by w (drop (n zero + 1) (footprints v.items)) = ap (λ k. sum_by w (drop k (footprints v.items))) (more_same zero n zero refl) in
    let d : sum_unplaced w vs (λ u. one_record_more zero n (suc u)) ≡ sum_unplaced w vs (λ u. n (suc u)) = ap (sum_unplaced w vs) (fun_ext (more_zero_behind n)) in
    omega arith
unplaced_step w (v ∷ vs) n (suc t) f e =
    let a = unplaced_step w vs (λ u. n (suc u)) t f e in
    let b : sum_by w (drop (one_record_more (suc t) n zero) (footprints v.items)) ≡ sum_by w (drop (n zero) (footprints v.items)) = ap (λ k. sum_by w (drop k (footprints v.items))) (more_zero t n) in
    let d : sum_unplaced w vs (λ u. one_record_more (suc t) n (suc u)) ≡ sum_unplaced w vs (one_record_more t (λ u. n (suc u))) = ap (sum_unplaced w vs) (fun_ext (more_behind t n)) in
    omega arith

-- where none stands, over all
pub unplaced_all : (w : Footprint → ℕ) (vs : List RecordsValue) → sum_unplaced w vs (λ _. 0) ≡ sum_by (λ (v : RecordsValue). sum_by (λ (r : Record). w r.footprint) v.items) vs
unplaced_all w [] = refl
unplaced_all w (v ∷ vs) = ap₂ (λ (j k : ℕ). j + k) (sum_footprints w v.items) (unplaced_all w vs) ∙ sym (sum_by-cons (λ (v : RecordsValue). sum_by (λ (r : Record). w r.footprint) v.items) v vs)
  where
    sum_footprints : (w : Footprint → ℕ) (rs : List Record) → sum_by w (footprints rs) ≡ sum_by (λ (r : Record). w r.footprint) rs
    sum_footprints w [] = refl
    sum_footprints w (r ∷ rs) = sum_by-cons w r.footprint (footprints rs) ∙ ap (λ k. w r.footprint + k) (sum_footprints w rs) ∙ sym (sum_by-cons (λ (r : Record). w r.footprint) r rs)

zero_in : (w : Footprint → ℕ) (fs : List Footprint) (j k : ℕ) (g : Footprint) → sum_by w (drop j fs) ≡ 0 → j ≤ k → slice_get fs k ≡ Some g → w g ≡ 0
zero_in w [] j k g z h e = absurd (no_some g e)
zero_in w (x ∷ xs) zero zero g z h e = let a = sum_by-cons w x xs in let b : w x ≡ w g = ap w (some_is x g e) in omega arith
zero_in w (x ∷ xs) zero (suc k) g z h e = let a = sum_by-cons w x xs in zero_in w xs zero k g (omega arith) (omega arith) e
zero_in w (x ∷ xs) (suc j) zero g z h e = absurd (omega arith)
zero_in w (x ∷ xs) (suc j) (suc k) g z h e = zero_in w xs j k g z (omega arith) e

pub zero_each : (w : Footprint → ℕ) (vs : List RecordsValue) (n : ℕ → ℕ) → sum_unplaced w vs n ≡ 0 → (u k : ℕ) (g : Footprint) → foot_at vs u k ≡ Some g → n u ≤ k → w g ≡ 0
zero_each w [] n z u k g e h = absurd (no_some g e)
zero_each w (v ∷ vs) n z zero k g e h = zero_in w (footprints v.items) (n zero) k g (omega arith) h e
zero_each w (v ∷ vs) n z (suc u) k g e h = zero_each w vs (λ u. n (suc u)) (omega arith) u k g e h

in_zero : (w : Footprint → ℕ) (fs : List Footprint) (j : ℕ) → ((k : ℕ) (g : Footprint) → slice_get fs k ≡ Some g → j ≤ k → w g ≡ 0) → sum_by w (drop j fs) ≡ 0
in_zero w [] zero h = refl
in_zero w [] (suc j) h = refl
in_zero w (x ∷ xs) zero h =
    let a = sum_by-cons w x xs in
    let b = h zero x refl (omega arith) in
    let c = in_zero w xs zero (λ k g e l. h (suc k) g e (omega arith)) in
    omega arith
in_zero w (x ∷ xs) (suc j) h = in_zero w xs j (λ k g e l. h (suc k) g e (omega arith))

pub each_zero : (w : Footprint → ℕ) (vs : List RecordsValue) (n : ℕ → ℕ) → ((u k : ℕ) (g : Footprint) → foot_at vs u k ≡ Some g → n u ≤ k → w g ≡ 0) → sum_unplaced w vs n ≡ 0
each_zero w [] n h = refl
each_zero w (v ∷ vs) n h =
    let a = in_zero w (footprints v.items) (n zero) (h zero) in
    let b = each_zero w vs (λ u. n (suc u)) (λ u. h (suc u)) in
    omega arith

-- reads of one location and version
pub readers-cons : (l v : ℕ) (r : Seen) (rs : List Seen) → readers l v (r ∷ rs) ≡ cond (reads_at l v r) 1 0 + readers l v rs
readers-cons l v r rs = sum_by-cons (λ x. cond (reads_at l v x) 1 0) r rs

pub no_readers : (l v : ℕ) (rs : List Seen) → ((k : ℕ) (d : Seen) → k < length rs → reads_at l v (slice_index_or rs k d) ≡ false) → readers l v rs ≡ 0
no_readers l v [] h = refl
no_readers l v (r ∷ rs) h =
    let a = readers-cons l v r rs in
    let b : cond {A = ℕ} (reads_at l v r) 1 0 ≡ 0 = ap (λ (b : Bool). cond {A = ℕ} b 1 0) (h zero r (omega arith)) in
    let c = no_readers l v rs (λ k d lt. h (suc k) d (omega arith)) in
    omega arith

a_reader : (l v : ℕ) (rs : List Seen) (r : Seen) (k : ℕ) → k < length rs → slice_index_or rs k r ≡ r → r.loc.0 ≡ l → r.version ≡ v → 1 ≤ readers l v rs
a_reader l v [] r k lt e f g = absurd (omega arith)
a_reader l v (x ∷ rs) r zero lt e f g =
    let a = readers-cons l v x rs in
    let b : cond {A = ℕ} (reads_at l v x) 1 0 ≡ 1 = ap (λ (b : Bool). cond {A = ℕ} b 1 0) (one_read l v x (ap (λ (y : Seen). y.loc.0) e ∙ f) (ap (λ (y : Seen). y.version) e ∙ g)) in
    omega arith
a_reader l v (x ∷ rs) r (suc k) lt e f g = let a = readers-cons l v x rs in let b = a_reader l v rs r k (omega arith) e f g in omega arith

pub reader_in : (l v : ℕ) (rs : List Seen) (r : Seen) → Contains rs r → r.loc.0 ≡ l → r.version ≡ v → 1 ≤ readers l v rs
reader_in l v rs r h = a_reader l v rs r h.0 h.1 h.2

one_or_none : (b : Bool) → cond {A = ℕ} b 1 0 ≤ 1
one_or_none true = omega arith
one_or_none false = omega arith

behind : {X : Type 0} (R : X → X → Type 0) (x : X) (xs : List X) → AllPairs R (x ∷ xs) → AllPairs R xs
behind R x xs h i j d lt le = h (suc i) (suc j) d (omega arith) (omega arith)

pub one_reader : (l v : ℕ) (rs : List Seen) → AllPairs (λ (p q : Seen). p.loc.0 < q.loc.0) rs → readers l v rs ≤ 1
one_reader l v [] h = omega arith
one_reader l v (r ∷ rs) h =
    let a = readers-cons l v r rs in
    elim (same_or r.loc.0 l) [
      | inl e ↦
          let b = no_readers l v rs (λ k d lt. other_loc l v (slice_index_or rs k d) (λ f. (let x = h zero (suc k) d (omega arith) (omega arith) in omega arith))) in
          let c = one_or_none (reads_at l v r) in
          omega arith
      | inr n ↦
          let b : cond {A = ℕ} (reads_at l v r) 1 0 ≡ 0 = ap (λ (b : Bool). cond {A = ℕ} b 1 0) (other_loc l v r n) in
          let c = one_reader l v rs (behind (λ (p q : Seen). p.loc.0 < q.loc.0) r rs h) in
          omega arith
    ]

pub putters-cons : (l : ℕ) (p : Put) (ps : List Put) → putters l (p ∷ ps) ≡ cond (puts_at l p) 1 0 + putters l ps
putters-cons l p ps = sum_by-cons (λ x. cond (puts_at l x) 1 0) p ps

no_putters : (l : ℕ) (ps : List Put) → ((k : ℕ) (d : Put) → k < length ps → (slice_index_or ps k d).loc.0 ≢ l) → putters l ps ≡ 0
no_putters l [] h = refl
no_putters l (p ∷ ps) h =
    let a = putters-cons l p ps in
    let b : cond {A = ℕ} (puts_at l p) 1 0 ≡ 0 = ap (λ (b : Bool). cond {A = ℕ} b 1 0) (ne_eqb p.loc.0 l (h zero p (omega arith))) in
    let c = no_putters l ps (λ k d lt. h (suc k) d (omega arith)) in
    omega arith

-- where locations rise, the version is raised as often as the location is put
pub raised_as_put : (l v : ℕ) (ps : List Put) → AllPairs (λ (p q : Put). p.loc.0 < q.loc.0) ps → version_after (put_at ps l) v ≡ v + putters l ps
raised_as_put l v [] h = omega arith
raised_as_put l v (p ∷ ps) h =
    let a = putters-cons l p ps in
    elim (same_or p.loc.0 l) [
      | inl e ↦
          let b = no_putters l ps (λ k d lt f. (let x = h zero (suc k) d (omega arith) (omega arith) in omega arith)) in
          let c : cond {A = ℕ} (puts_at l p) 1 0 ≡ 1 = ap (λ (b : Bool). cond {A = ℕ} b 1 0) (eq-eqb p.loc.0 l e) in
          let d : version_after (cond (p.loc.0 == l) (Some p) (put_at ps l)) v ≡ v + 1 = ap (λ b. version_after (cond b (Some p) (put_at ps l)) v) (eq-eqb p.loc.0 l e) in
          omega arith
      | inr n ↦
          let c : cond {A = ℕ} (puts_at l p) 1 0 ≡ 0 = ap (λ (b : Bool). cond {A = ℕ} b 1 0) (ne_eqb p.loc.0 l n) in
          let d : version_after (cond (p.loc.0 == l) (Some p) (put_at ps l)) v ≡ version_after (put_at ps l) v = ap (λ b. version_after (cond b (Some p) (put_at ps l)) v) (ne_eqb p.loc.0 l n) in
          let e = raised_as_put l v ps (behind (λ (p q : Put). p.loc.0 < q.loc.0) p ps h) in
          omega arith
    ]

-- a thread's footprints are those of its list
pub list_is : (vs : List RecordsValue) (t : ℕ) (v : RecordsValue) → t < length vs → v ≡ slice_index_or vs t v → list_at vs t ≡ footprints v.items
list_is [] t v lt e = absurd (omega arith)
list_is (w ∷ vs) zero v lt e = ap (λ (v : RecordsValue). footprints v.items) (sym e)
list_is (w ∷ vs) (suc t) v lt e = list_is vs t v (omega arith) e

at_index : (xs : List Record) (k : ℕ) (r : Record) → k < length xs → r ≡ slice_index_or xs k r → slice_get (footprints xs) k ≡ Some r.footprint
at_index [] k r lt e = absurd (omega arith)
at_index (x ∷ xs) zero r lt e = ap (λ (r : Record). Some r.footprint) (sym e)
at_index (x ∷ xs) (suc k) r lt e = at_index xs k r (omega arith) e

past_end : (xs : List Record) (k : ℕ) → length xs ≤ k → slice_get (footprints xs) k ≡ None
past_end [] k h = refl
past_end (x ∷ xs) zero h = absurd (omega arith)
past_end (x ∷ xs) (suc k) h = past_end xs k (omega arith)

-- the footprint of a record of the thread's
pub record_is : (vs : List RecordsValue) (t : ℕ) (v : RecordsValue) (k : ℕ) (r : Record) → t < length vs → v ≡ slice_index_or vs t v → k < length v.items → r ≡ slice_index_or v.items k r → foot_at vs t k ≡ Some r.footprint
record_is vs t v k r lt e kt g = ap (λ xs. slice_get xs k) (list_is vs t v lt e) ∙ at_index v.items k r kt g

-- the same, by its lines
pub foot_is : (vs : List RecordsValue) (t : ℕ) (v : RecordsValue) (k : ℕ) → t < length vs → v ≡ slice_index_or vs t v → k < length v.items → foot_at vs t k ≡ Some (record_print v.items k)
foot_is vs t v k lt e kt = ap (λ xs. slice_get xs k) (list_is vs t v lt e) ∙ print_at v.items k kt

-- past the end of the list is none
pub record_past : (vs : List RecordsValue) (t : ℕ) (v : RecordsValue) (k : ℕ) → t < length vs → v ≡ slice_index_or vs t v → length v.items ≤ k → (f : Footprint) → foot_at vs t k ≡ Some f → ⊥
record_past vs t v k lt e kt f h = no_some f (sym (ap (λ xs. slice_get xs k) (list_is vs t v lt e) ∙ past_end v.items k kt) ∙ h)

pub no_thread : (vs : List RecordsValue) (t k : ℕ) → length vs ≤ t → (f : Footprint) → foot_at vs t k ≡ Some f → ⊥
no_thread [] t k h f e = no_some f e
no_thread (v ∷ vs) zero k h f e = omega arith
no_thread (v ∷ vs) (suc t) k h f e = no_thread vs t k (omega arith) f e

pub same_record : (vs : List RecordsValue) (t k : ℕ) (f g : Footprint) → foot_at vs t k ≡ Some f → foot_at vs t k ≡ Some g → f ≡ g
same_record vs t k f g e h = some_is f g (sym e ∙ h)

-- the footprints by the lists are those by the threads
pub same_footprints : (vs : List RecordsValue) → footprint_at (lists_of vs) ≡ foot_at vs
same_footprints vs = fun_ext (λ u. fun_ext (λ k. by_lists vs u k))
  where
    in_list : (rs : List Record) (k : ℕ) → option_map (λ (r : Record). r.footprint) (slice_get rs k) ≡ slice_get (footprints rs) k
    in_list [] k = refl
    in_list (r ∷ rs) zero = refl
    in_list (r ∷ rs) (suc k) = in_list rs k

    by_lists : (vs : List RecordsValue) (u k : ℕ) → footprint_at (lists_of vs) u k ≡ foot_at vs u k
    by_lists [] u k = refl
    by_lists (v ∷ vs) zero k = in_list v.items k
    by_lists (v ∷ vs) (suc u) k = by_lists vs u k

-- rising locations rise pairwise
pairs_rise : {X : Type 0} (at : X → ℕ) (xs : List X) → IsRising (map at xs) → AllPairs (λ (p q : X). at p < at q) xs
pairs_rise at [] rise i j d lt le = absurd (omega arith)
pairs_rise at (x ∷ xs) rise zero zero d lt le = absurd (omega arith)
pairs_rise at (x ∷ xs) rise zero (suc j) d lt le = above at x xs rise j d (omega arith)
  where
    above : {X : Type 0} (at : X → ℕ) (x : X) (xs : List X) → IsRisingAbove (at x) (map at xs) → (j : ℕ) (d : X) → j < length xs → at x < at (slice_index_or xs j d)
    above at x [] rise j d le = absurd (omega arith)
    above at x (y ∷ xs) rise zero d le = rise.0
    above at x (y ∷ xs) rise (suc j) d le = let h = above at y xs rise.1 j d (omega arith) in let k = rise.0 in omega arith
pairs_rise at (x ∷ xs) rise (suc i) zero d lt le = absurd (omega arith)
pairs_rise at (x ∷ xs) rise (suc i) (suc j) d lt le = pairs_rise at xs (rest at x xs rise) i j d (omega arith) (omega arith)
  where
    rest : {X : Type 0} (at : X → ℕ) (x : X) (xs : List X) → IsRisingAbove (at x) (map at xs) → IsRising (map at xs)
    rest at x [] rise = tt
    rest at x (y ∷ xs) rise = rise.1

-- well-made footprints, as the counts need them
pub all_well_made : (vs : List RecordsValue) → AreWellMade (footprint_at (lists_of vs)) → AllWellMade MOST_LOCATIONS vs
all_well_made vs h u k f is =
    let (w, below) = h u k f (ap (λ (a : Footprints). a u k) (same_footprints vs) ∙ is) in
    record {
      reads_rise = pairs_rise (λ (r : Seen). r.loc.0) f.reads.items w.reads_rise;
      puts_rise = pairs_rise (λ (p : Put). p.loc.0) f.puts.items w.puts_rise;
      puts_read = w.puts_read;
      below = λ i d lt. below (slice_index_or f.reads.items i d) (Contains-get_or f.reads.items i d lt);
      last = λ i d lt. (let m = w.versions_put (slice_index_or f.puts.items i d) (Contains-get_or f.puts.items i d lt) in omega arith);
    }
