-- One more record is placed.
use Rattle.std.proofs.Common.{◌≡◌, ◌≢◌, ℕ, zero, suc, ◌+◌, ◌^◌, ◌<◌, ◌≤◌, List, [], ◌∷◌, ◌++◌, Some, All, length, take, slice_get, slice_set, slice_index, slice_index_or, sum_by, refl, sym, ap, ◌∙◌, subst, subst₂, arith, inl, inr, Contains, add-one, length-take, get_or-take, get_or-set_same, get_or-set_other}
use Rattle.std.proofs.Math.Path.{fun_ext}
use Rattle.std.proofs.Math.Seq.{take-suc-set}
use Rattle.std.proofs.lemmas.List.Elements.{All-contains, Contains-get_or}
use Rattle.std.proofs.lemmas.List.Sums.{sum_by-cons}
use Rattle.kc_history.specs.RecordsValue.{RecordsValue}
use Rattle.kc_history.proofs.Opening.{in_items}
use Rattle.kc_history.proofs.Passing.{passes_ready, ready_passes}
use Rattle.kc_history.proofs.Ready.{same_or, more_same, more_other, Skips, skips_or, ends_what_stands}
use Rattle.kc_history.proofs.Tallies.{all_taken}
use Rattle.kc_history.proofs.Totals.{unplaced_step, zero_each, reader_in, raised_as_put, same_record, list_is, foot_is}
use Rattle.kc_history.specs.Counts.{Slots, Forgets, footprints, foot_at, sum_unplaced, readers, readers_of, putters_of, slot, width, records_in, WellMade, AllWellMade, PassesCounts, Counted}
use Rattle.kc_history.specs.Order.{Footprints, version_after, one_record_more, raised, NoneReady, Ready, Chosen, Chooses}
use Rattle.kc_history.specs.Records.{record_print}
use Rattle.kc_history.specs.Tested.{FindsVersion, IsTested, AllTested, untested, Placing}
use Rattle.kc_history.specs.declared.placing.Tested.{Tested}
use Rattle.kc_history.specs.declared.record.Place.{Place}
use Rattle.kc_history.specs.declared.record.Record.{Record}
use Rattle.kc_model.specs.Footprint.{put_at, Reads, Puts}
use Rattle.kc_model.specs.declared.footprint.Footprint.{Footprint}
use Rattle.kc_model.specs.declared.footprint.Put.{Put}
use Rattle.kc_model.specs.declared.footprint.Seen.{Seen}

-- one more choice
pub chooses_more : (a : Footprints) (n v : ℕ → ℕ) (ps : List Place) (m w : ℕ → ℕ) (p : Place) (f : Footprint) → Chooses a n v ps m w → Chosen a m w p f → Chooses a n v (ps ++ p ∷ []) (one_record_more p.thread m) (raised f w)
chooses_more a n v [] m w p f (i, j) h = (f, subst₂ (λ n v. Chosen a n v p f) i j h, (ap (one_record_more p.thread) i, ap (raised f) j))
chooses_more a n v (q ∷ ps) m w p f (g, chosen, rest) h = (g, chosen, chooses_more a (one_record_more q.thread n) (raised g v) ps m w p f rest h)

pub set_more : (next : List ℕ) (t : ℕ) → t < length next → slice_index (slice_set next t (slice_index next t + 1)) ≡ one_record_more t (slice_index next)
set_more next t lt = fun_ext (λ u. elim (same_or u t) [
  | inl e ↦ ap (slice_index (slice_set next t (slice_index next t + 1))) e ∙ get_or-set_same next t (slice_index next t + 1) 0 lt ∙ ap (λ u. slice_index next u + 1) (sym e) ∙ sym (more_same t (slice_index next) u e)
  | inr n ↦ get_or-set_other next t u (slice_index next t + 1) 0 n ∙ sym (more_other t (slice_index next) u n)
])

pub in_list : (vs : List RecordsValue) (t : ℕ) (v : RecordsValue) (k : ℕ) (f : Footprint) → t < length vs → v ≡ slice_index_or vs t v → foot_at vs t k ≡ Some f → k < length v.items
in_list vs t v k f lt e h = in_items v.items k f (ap (λ xs. slice_get xs k) (sym (list_is vs t v lt e)) ∙ h)

pub few_records : (vs : List RecordsValue) (t k : ℕ) (f : Footprint) → foot_at vs t k ≡ Some f → k < records_in vs
few_records [] t k f e = absurd (cc)
few_records (v ∷ vs) zero k f e =
    let a = in_items v.items k f e in
    let c = sum_by-cons (λ (v : RecordsValue). length v.items) v vs in
    omega arith
few_records (v ∷ vs) (suc t) k f e =
    let a = few_records vs t k f e in
    let c = sum_by-cons (λ (v : RecordsValue). length v.items) v vs in
    omega arith

length_is : (xs : List Record) → sum_by (λ _. 1) (footprints xs) ≡ length xs
length_is [] = refl
length_is (x ∷ xs) = let a = sum_by-cons (λ (_ : Footprint). 1) x.footprint (footprints xs) in let b = length_is xs in omega arith

pub all_records : (vs : List RecordsValue) → sum_unplaced (λ _. 1) vs (λ _. 0) ≡ records_in vs
all_records [] = refl
all_records (v ∷ vs) =
    let a = length_is v.items in
    let c = sum_by-cons (λ (v : RecordsValue). length v.items) v vs in
    let d = all_records vs in
    omega arith

-- what is in a front is in the list
contains_taken : {X : Type 0} (n : ℕ) (xs : List X) (x : X) → Contains (take n xs) x → Contains xs x
contains_taken n xs x (k, lt, e) =
    let len = length-take n xs in
    (k, omega arith, sym (get_or-take n xs k x (omega arith)) ∙ e)

-- nothing is tested yet
pub nothing_tested : (versions starts left : List ℕ) (f : Footprint) → IsTested versions starts left untested f
nothing_tested versions starts left f = record { finds = λ i d lt. absurd (omega arith); alone = λ i d lt. absurd (omega arith); behind = λ lt. absurd (omega arith) }

-- where a record that doesn't stand yet counts, the sum does
unplaced_some : (w : Footprint → ℕ) (vs : List RecordsValue) (n : ℕ → ℕ) (u k : ℕ) (g : Footprint) → foot_at vs u k ≡ Some g → n u ≤ k → 1 ≤ w g → 1 ≤ sum_unplaced w vs n
unplaced_some w vs n u k g at le some = elim (same_or (sum_unplaced w vs n) 0) [
  | inl none ↦ absurd (let z = zero_each w vs n none u k g at le in omega arith)
  | inr ne ↦ omega arith
]

module _ (vs : List RecordsValue) (next versions starts left : List ℕ) (well : AllWellMade (length versions) vs) (counted : Counted vs next versions starts left) (t : ℕ) (f : Footprint) (passes : PassesCounts vs next versions starts left t f) where
  abbrev n : ℕ → ℕ
  n = slice_index next

  made : WellMade (length versions) f
  made = well t (n t) f passes.is

  pub reads_fit : All (λ (r : Seen). r.loc.0 + 1 < length starts) f.reads.items
  reads_fit k d lt = let a = made.below k d lt in let b = counted.lengths in omega arith

  pub reads_stand : All (λ (r : Seen). r.version < width starts r.loc.0) f.reads.items
  reads_stand k d lt = let a = passes.finds k d lt in let b = counted.widths (slice_index_or f.reads.items k d).loc.0 (made.below k d lt) in omega arith

  pub reads_counted : (l v : ℕ) → l + 1 < length starts → v < width starts l → readers l v f.reads.items ≤ slice_index left (slot starts l v)
  reads_counted l v lt vt =
      let a = counted.lengths in
      let b = counted.counts l v (omega arith) vt in
      let c = unplaced_step (readers_of l v) vs n t f passes.is in
      omega arith

  pub puts_room : All (λ (p : Put). slice_index versions p.loc.0 + 1 < 2 ^ 32) f.puts.items
  puts_room k d lt =
      let (r, h, e, s) = made.puts_read (slice_index_or f.puts.items k d) (Contains-get_or f.puts.items k d lt) in
      let a = All-contains (λ (r : Seen). slice_index versions r.loc.0 ≡ r.version) f.reads.items r passes.finds h in
      let b : slice_index versions r.loc.0 ≡ slice_index versions (slice_index_or f.puts.items k d).loc.0 = ap (slice_index versions) e in
      let c = made.last k d lt in
      omega arith

  pub next_counted : (next' versions' left' : List ℕ) → slice_index next' ≡ one_record_more t n → ((l : ℕ) → slice_index versions' l ≡ version_after (put_at f.puts.items l) (slice_index versions l)) → length versions' ≡ length versions → length left' ≡ length left →
      ((l v : ℕ) → l + 1 < length starts → v < width starts l → slice_index left' (slot starts l v) + readers l v f.reads.items ≡ slice_index left (slot starts l v)) → Counted vs next' versions' starts left'
  next_counted next' versions' left' e raise lv ll forget = record {
    slots = subst (λ k. Slots starts k) (sym ll) counted.slots;
    lengths = counted.lengths ∙ ap (λ k. k + 1) (sym lv);
    counts = λ l v lt vt.
        let len = counted.lengths in
        let a = forget l v (omega arith) vt in
        let b = counted.counts l v (omega arith) vt in
        let c = unplaced_step (readers_of l v) vs n t f passes.is in
        let d : sum_unplaced (readers_of l v) vs (slice_index next') ≡ sum_unplaced (readers_of l v) vs (one_record_more t n) = ap (sum_unplaced (readers_of l v) vs) e in
        omega arith;
    widths = λ l lt.
        let a = raise l in
        let b = raised_as_put l (slice_index versions l) f.puts.items made.puts_rise in
        let c = unplaced_step (putters_of l) vs n t f passes.is in
        let d : sum_unplaced (putters_of l) vs (slice_index next') ≡ sum_unplaced (putters_of l) vs (one_record_more t n) = ap (sum_unplaced (putters_of l) vs) e in
        let g = counted.widths l (omega arith) in
        omega arith;
  }

  -- the record is the canonical choice
  pub chosen : ((u : ℕ) (g : Footprint) → PassesCounts vs next versions starts left u g → t ≤ u) → Chosen (foot_at vs) n (slice_index versions) (let p : Place = record { thread = t; index = n t } in p) f
  chosen lowest = record {
    ready = passes_ready vs next versions starts left well counted (record { thread = t; index = n t }) f refl passes;
    lowest = λ q g r. lowest q.thread g (ready_passes vs next versions starts left well counted q g r);
  }

  pub placed_more : (order : List Place) (placed : ℕ) (tested tested' : List Tested) (next' versions' left' : List ℕ) → ((u : ℕ) (g : Footprint) → PassesCounts vs next versions starts left u g → t ≤ u) → Placing vs order placed next versions starts left tested → placed < length order →
      slice_index next' ≡ one_record_more t n → slice_index versions' ≡ raised f (slice_index versions) → Counted vs next' versions' starts left' → AllTested vs next' versions' starts left' tested' →
      Placing vs (slice_set order placed (let p : Place = record { thread = t; index = n t } in p)) (placed + 1) next' versions' starts left' tested'
  placed_more order placed tested tested' next' versions' left' lowest placing lt e raise counted' known' =
      let p : Place = record { thread = t; index = n t } in
      let more_of = chooses_more (foot_at vs) (λ _. 0) (λ _. 0) (take placed order) n (slice_index versions) p f placing.chooses (chosen lowest) in
      let q : take (placed + 1) (slice_set order placed p) ≡ take placed order ++ p ∷ [] = ap (λ k. take k (slice_set order placed p)) (add-one placed) ∙ take-suc-set order placed p lt in
      record {
        chooses = subst (λ ps. Chooses (foot_at vs) (λ _. 0) (λ _. 0) ps (slice_index next') (slice_index versions')) (sym q)
            (subst₂ (λ m w. Chooses (foot_at vs) (λ _. 0) (λ _. 0) (take placed order ++ p ∷ []) m w) (sym e) (sym raise) more_of);
        counted = counted';
        known = known';
        room =
            let a = placing.room in
            let b = unplaced_step (λ _. 1) vs n t f passes.is in
            let d : sum_unplaced (λ _. 1) vs (slice_index next') ≡ sum_unplaced (λ _. 1) vs (one_record_more t n) = ap (sum_unplaced (λ _. 1) vs) e in
            omega arith;
      }

  ready : Ready (foot_at vs) n (slice_index versions) (let p : Place = record { thread = t; index = n t } in p) f
  ready = passes_ready vs next versions starts left well counted (record { thread = t; index = n t }) f refl passes

  -- the record puts nothing that the next one of another thread reads at the version that stands
  puts_none : (u : ℕ) (g : Footprint) → foot_at vs u (n u) ≡ Some g → u ≢ t → (r : Seen) → Reads g r → FindsVersion versions r → Skips f r.loc.0
  puts_none u g at ne r d here = elim (skips_or f r.loc.0) [
    | inl h ↦ h
    | inr h ↦
        let put = ends_what_stands (foot_at vs) (λ u k f e. (well u k f e).puts_read) f (slice_index versions) made.puts_read (λ r d. All-contains (FindsVersion versions) f.reads.items r passes.finds d) h.first h.stands in
        absurd (ready.alone u (n u) g at (omega arith) (λ e. absurd (ne e)) h.first h.stands r d (sym h.there) (sym here ∙ ap (slice_index versions) (sym h.there) ∙ put))
  ]

  -- so its version stays
  stays_at : (versions' : List ℕ) → slice_index versions' ≡ raised f (slice_index versions) → (l : ℕ) → Skips f l → slice_index versions' l ≡ slice_index versions l
  stays_at versions' raise l skips = ap (λ (v : ℕ → ℕ). v l) raise ∙ ap (λ o. version_after o (slice_index versions l)) skips

  -- what passed still passes
  still_tested : (k : Tested) (u : ℕ) (g : Footprint) (next' versions' left' : List ℕ) → foot_at vs u (n u) ≡ Some g → u ≢ t →
      slice_index next' ≡ one_record_more t n → slice_index versions' ≡ raised f (slice_index versions) → Forgets starts left left' f.reads.items → Counted vs next' versions' starts left' → IsTested versions starts left k g → IsTested versions' starts left' k g
  still_tested k u g next' versions' left' at ne e raise forget counted' known = record {
    finds = λ i d lt.
        let r = slice_index_or (take k.reads g.reads.items) i d in
        let reads : Reads g r = contains_taken k.reads g.reads.items r (Contains-get_or (take k.reads g.reads.items) i d lt) in
        let here = known.finds i d lt in
        stays_at versions' raise r.loc.0 (puts_none u g at ne r reads here) ∙ here;
    alone = λ i d lt.
        let q = slice_index_or (take k.puts g.puts.items) i d in
        let puts : Puts g q = contains_taken k.puts g.puts.items q (Contains-get_or (take k.puts g.puts.items) i d lt) in
        let whole = known.behind (let len = length-take k.puts g.puts.items in omega arith) in
        let finds : All (FindsVersion versions) g.reads.items = all_taken (FindsVersion versions) g.reads.items k.reads whole known.finds in
        let w = well u (n u) g at in
        let (r, d', there, same) = w.puts_read q puts in
        let here : slice_index versions r.loc.0 ≡ r.version = All-contains (FindsVersion versions) g.reads.items r finds d' in
        let stays : slice_index versions' q.loc.0 ≡ slice_index versions q.loc.0 = (let P : ℕ → Type 0 = λ l. slice_index versions' l ≡ slice_index versions l in subst P there (stays_at versions' raise r.loc.0 (puts_none u g at ne r d' here))) in
        let below : q.loc.0 < length versions = subst (λ l. l < length versions) there (All-contains (λ (r : Seen). r.loc.0 < length versions) g.reads.items r w.below d') in
        let stands : slice_index versions q.loc.0 ≡ r.version = ap (slice_index versions) (sym there) ∙ here in
        let wide = counted.widths q.loc.0 below in
        let lens = counted.lengths in
        let lens' = counted'.lengths in
        let forgot = forget q.loc.0 (slice_index versions q.loc.0) (omega arith) (omega arith) in
        let count = counted'.counts q.loc.0 (slice_index versions q.loc.0) (omega arith) (omega arith) in
        let left_of : n u ≤ n u = omega arith in
        let waits : slice_index next' u ≤ n u = (let m = more_other t n u ne in let x : slice_index next' u ≡ one_record_more t n u = ap (λ (n : ℕ → ℕ). n u) e in omega arith) in
        let one : 1 ≤ readers_of q.loc.0 (slice_index versions q.loc.0) g = reader_in q.loc.0 (slice_index versions q.loc.0) g.reads.items r d' there (sym stands) in
        let some = unplaced_some (readers_of q.loc.0 (slice_index versions q.loc.0)) vs (slice_index next') u (n u) g at waits one in
        let alone = known.alone i d lt in
        let slot' : slice_index left' (slot starts q.loc.0 (slice_index versions' q.loc.0)) ≡ slice_index left' (slot starts q.loc.0 (slice_index versions q.loc.0)) = ap (λ v. slice_index left' (slot starts q.loc.0 v)) stays in
        omega arith;
    behind = known.behind;
  }

  -- nothing is known of the thread's next record, and of the others' what was known
  pub tested_more : (tested : List Tested) (next' versions' left' : List ℕ) → t < length tested → AllTested vs next versions starts left tested →
      slice_index next' ≡ one_record_more t n → slice_index versions' ≡ raised f (slice_index versions) → Forgets starts left left' f.reads.items → Counted vs next' versions' starts left' → AllTested vs next' versions' starts left' (slice_set tested t untested)
  tested_more tested next' versions' left' lt known e raise forget counted' u g at = elim (same_or u t) [
    | inl same ↦ subst (λ k. IsTested versions' starts left' k g) (sym (ap (λ u. slice_index_or (slice_set tested t untested) u untested) same ∙ get_or-set_same tested t untested untested lt)) (nothing_tested versions' starts left' g)
    | inr ne ↦
        let at' : foot_at vs u (n u) ≡ Some g = ap (foot_at vs u) (sym (ap (λ (n : ℕ → ℕ). n u) e ∙ more_other t n u ne)) ∙ at in
        subst (λ k. IsTested versions' starts left' k g) (sym (get_or-set_other tested t u untested untested ne)) (still_tested (slice_index_or tested u untested) u g next' versions' left' at' ne e raise forget counted' (known u g at'))
  ]

-- none passes, so none is ready
pub ends : (vs : List RecordsValue) (next versions starts left : List ℕ) → AllWellMade (length versions) vs → Counted vs next versions starts left → ((u : ℕ) (f : Footprint) → PassesCounts vs next versions starts left u f → ⊥) → NoneReady (foot_at vs) (slice_index next) (slice_index versions)
ends vs next versions starts left well counted none p f r = none p.thread f (ready_passes vs next versions starts left well counted p f r)

passes_at : (vs : List RecordsValue) (next versions starts left : List ℕ) (t : ℕ) (f g : Footprint) → foot_at vs t (slice_index next t) ≡ Some f → PassesCounts vs next versions starts left t g → PassesCounts vs next versions starts left t f
passes_at vs next versions starts left t f g is h = subst (λ f. PassesCounts vs next versions starts left t f) (same_record vs t (slice_index next t) g f h.is is) h

-- with what a thread's next record was tested to
pub tested_set : (vs : List RecordsValue) (next versions starts left : List ℕ) (tested : List Tested) (t : ℕ) (k : Tested) (f : Footprint) → t < length tested → foot_at vs t (slice_index next t) ≡ Some f → AllTested vs next versions starts left tested → IsTested versions starts left k f → AllTested vs next versions starts left (slice_set tested t k)
tested_set vs next versions starts left tested t k f lt is known now u g at = elim (same_or u t) [
  | inl same ↦
      let is' : foot_at vs u (slice_index next u) ≡ Some f = ap (λ u. foot_at vs u (slice_index next u)) same ∙ is in
      let here : slice_index_or (slice_set tested t k) u untested ≡ k = ap (λ u. slice_index_or (slice_set tested t k) u untested) same ∙ get_or-set_same tested t k untested lt in
      subst₂ (λ k f. IsTested versions starts left k f) (sym here) (same_record vs u (slice_index next u) f g is' at) now
  | inr ne ↦ subst (λ k. IsTested versions starts left k g) (sym (get_or-set_other tested t u k untested ne)) (known u g at)
]

-- the next record of a thread passes, where one does
pub next_passes : (vs : List RecordsValue) (next versions starts left : List ℕ) (t : ℕ) (v : RecordsValue) (g : Footprint) → t < length vs → v ≡ slice_index_or vs t v → PassesCounts vs next versions starts left t g → PassesCounts vs next versions starts left t (record_print v.items (slice_index next t))
next_passes vs next versions starts left t v g lt e h =
    passes_at vs next versions starts left t (record_print v.items (slice_index next t)) g (foot_is vs t v (slice_index next t) lt e (in_list vs t v (slice_index next t) g lt e h.is)) h

pub made_still : (vs : List RecordsValue) (a b : ℕ) → a ≡ b → AllWellMade b vs → AllWellMade a vs
made_still vs a b e h = subst (λ k. AllWellMade k vs) (sym e) h
