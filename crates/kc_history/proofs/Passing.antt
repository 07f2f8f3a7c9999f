-- The test by counts is readiness.
use Rattle.std.proofs.Common.{◌≡◌, ◌≢◌, ℕ, zero, suc, ◌+◌, ◌<◌, ◌≤◌, List, Option, Some, All, length, slice_index, slice_index_or, sym, ap, ◌∙◌, subst, arith, inl, inr, ◌⊎◌}
use Rattle.std.proofs.lemmas.List.Elements.{All-contains, Contains-get_or}
use Rattle.kc_history.specs.RecordsValue.{RecordsValue}
use Rattle.kc_history.proofs.Exchange.{more_least}
use Rattle.kc_history.proofs.Ready.{same_or, more_same, still}
use Rattle.kc_history.proofs.Tallies.{other_loc, other_version}
use Rattle.kc_history.proofs.Totals.{unplaced_step, zero_each, each_zero, no_readers, reader_in, one_reader}
use Rattle.kc_history.specs.Counts.{foot_at, sum_unplaced, readers, readers_of, slot, WellMade, AllWellMade, PassesCounts, Counted}
use Rattle.kc_history.specs.Order.{one_record_more, IsNext, Ready}
use Rattle.kc_history.specs.declared.record.Place.{Place}
use Rattle.kc_model.specs.Footprint.{Reads, Puts, PutsWhatItReads}
use Rattle.kc_model.specs.declared.footprint.Footprint.{Footprint}
use Rattle.kc_model.specs.declared.footprint.Put.{Put}
use Rattle.kc_model.specs.declared.footprint.Seen.{Seen}

module _ (vs : List RecordsValue) (next versions starts left : List ℕ) (well : AllWellMade (length versions) vs) (counted : Counted vs next versions starts left) where
  abbrev a : ℕ → ℕ → Option Footprint
  a = foot_at vs

  abbrev n : ℕ → ℕ
  n = slice_index next

  abbrev v : ℕ → ℕ
  v = slice_index versions

  puts_read : (u k : ℕ) (f : Footprint) → a u k ≡ Some f → PutsWhatItReads f
  puts_read u k f e = (well u k f e).puts_read

  -- what a record that finds its versions puts, it reads at the version that stands
  record ReadsPut (f : Footprint) (q : Put) : Type 0 where
    pub read : Seen
    pub stands : Reads f read
    pub there : read.loc.0 ≡ q.loc.0
    pub same : read.version ≡ q.version
    pub now : v q.loc.0 ≡ q.version
    pub below : q.loc.0 < length versions

  reads_put : (t : ℕ) (f : Footprint) → a t (n t) ≡ Some f → ((r : Seen) → Reads f r → v r.loc.0 ≡ r.version) → (q : Put) → Puts f q → ReadsPut f q
  reads_put t f at finds q h =
      let w = well t (n t) f at in
      let (r, d, e, s) = w.puts_read q h in
      record {
        read = r;
        stands = d;
        there = e;
        same = s;
        now = ap v (sym e) ∙ finds r d ∙ s;
        below = subst (λ l. l < length versions) e (All-contains (λ (r : Seen). r.loc.0 < length versions) f.reads.items r w.below d);
      }

  -- the count at a put is one more than that of the records behind
  count_at : (t : ℕ) (f : Footprint) → a t (n t) ≡ Some f → (q : Put) → ReadsPut f q → slice_index left (slot starts q.loc.0 (v q.loc.0)) ≡ 1 + sum_unplaced (readers_of q.loc.0 q.version) vs (one_record_more t n)
  count_at t f at q h =
      let w = counted.widths q.loc.0 h.below in
      let e = counted.counts q.loc.0 (v q.loc.0) h.below (omega arith) in
      let s = unplaced_step (readers_of q.loc.0 (v q.loc.0)) vs n t f at in
      let one = one_reader q.loc.0 (v q.loc.0) f.reads.items (well t (n t) f at).reads_rise in
      let some = reader_in q.loc.0 (v q.loc.0) f.reads.items h.read h.stands h.there (h.same ∙ sym h.now) in
      let x : sum_unplaced (readers_of q.loc.0 (v q.loc.0)) vs (one_record_more t n) ≡ sum_unplaced (readers_of q.loc.0 q.version) vs (one_record_more t n) = ap (λ k. sum_unplaced (readers_of q.loc.0 k) vs (one_record_more t n)) h.now in
      omega arith

  pub passes_ready : (p : Place) (f : Footprint) → p.index ≡ n p.thread → PassesCounts vs next versions starts left p.thread f → Ready a n v p f
  passes_ready p f i h =
      let finds : (r : Seen) → Reads f r → v r.loc.0 ≡ r.version = (λ r d. All-contains (λ (r : Seen). v r.loc.0 ≡ r.version) f.reads.items r h.finds d) in
      let next : IsNext a n p f = (i, ap (a p.thread) i ∙ h.is) in
      record {
        next = next;
        reads = finds;
        alone = λ u k g at below other q hq r hr l same.
            let put = reads_put p.thread f h.is finds q hq in
            let one = All-contains (λ (q : Put). slice_index left (slot starts q.loc.0 (v q.loc.0)) ≡ 1) f.puts.items q h.alone hq in
            let e = count_at p.thread f h.is q put in
            elim (still a puts_read n p f next u k below) [
              | inl (x, y) ↦ other x y
              | inr x ↦
                  let z : readers q.loc.0 q.version g.reads.items ≡ 0 = zero_each (readers_of q.loc.0 q.version) vs (one_record_more p.thread n) (omega arith) u k g at x in
                  let b = reader_in q.loc.0 q.version g.reads.items r hr l same in
                  omega arith
            ];
      }

  -- the records behind are the others
  others : (p : Place) (f : Footprint) → IsNext a n p f → (u k : ℕ) → one_record_more p.thread n u ≤ k → (n u ≤ k) × (u ≡ p.thread → k ≢ p.index)
  others p f next u k h = ((let x = more_least p.thread n u in omega arith), λ e i. (let x = more_same p.thread n u e in let y : n u ≡ n p.thread = ap n e in let z = next.0 in omega arith))

  pub ready_passes : (p : Place) (f : Footprint) → Ready a n v p f → PassesCounts vs next versions starts left p.thread f
  ready_passes p f h =
      let is : a p.thread (n p.thread) ≡ Some f = ap (a p.thread) (sym h.next.0) ∙ h.next.1 in
      record {
        is = is;
        finds = λ k d lt. h.reads (slice_index_or f.reads.items k d) (Contains-get_or f.reads.items k d lt);
        alone = λ k d lt.
            let q = slice_index_or f.puts.items k d in
            let hq = Contains-get_or f.puts.items k d lt in
            let put = reads_put p.thread f is h.reads q hq in
            let e = count_at p.thread f is q put in
            let z : sum_unplaced (readers_of q.loc.0 q.version) vs (one_record_more p.thread n) ≡ 0 = each_zero (readers_of q.loc.0 q.version) vs (one_record_more p.thread n) (λ u j g at below.
            let o = others p f h.next u j below in
            no_readers q.loc.0 q.version g.reads.items (λ i d lt.
            let r = slice_index_or g.reads.items i d in
            elim (same_or r.loc.0 q.loc.0) [
              | inl s ↦ other_version q.loc.0 q.version r (h.alone u j g at o.0 o.1 q hq r (Contains-get_or g.reads.items i d lt) s)
              | inr s ↦ other_loc q.loc.0 q.version r s
            ])) in
            omega arith;
      }

pub puts_below : (n : ℕ) (f : Footprint) → WellMade n f → All (λ (p : Put). p.loc.0 < n) f.puts.items
puts_below n f w k d lt =
    let (r, h, e, s) = w.puts_read (slice_index_or f.puts.items k d) (Contains-get_or f.puts.items k d lt) in
    subst (λ l. l < n) e (All-contains (λ (r : Seen). r.loc.0 < n) f.reads.items r w.below h)

pub not_below : (t u : ℕ) → (u < t → ⊥) → t ≤ u
not_below zero u h = omega arith
not_below (suc t) zero h = absurd (h (omega arith))
not_below (suc t) (suc u) h = let a = not_below t u (λ l. h (omega arith)) in omega arith

pub at_or_below : (t u : ℕ) → u < t + 1 → (u < t) ⊎ (u ≡ t)
at_or_below t u h = elim (same_or u t) [ inl e ↦ inr e | inr n ↦ inl (omega arith) ]

pub below_end : (u t m : ℕ) → m ≤ t → (m ≤ u → ⊥) → u < t
below_end u t m h n = let a = not_below (suc u) m (λ l. n (omega arith)) in omega arith
