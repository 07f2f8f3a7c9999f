-- What tests step on.
use Rattle.std.proofs.Common.{◌≡◌, ◌<◌, ◌≤◌, ℕ, List, [], ◌∷◌, length, get_or, Some, true, false, refl, sym, subst, arith}
use Rattle.std.specs.Prelude.{All, Bool, Contains, IsPermutation, not}
use Rattle.std.proofs.lemmas.List.Sorted.{IsPermutation-refl, IsPermutation-reverse}
use Rattle.std.proofs.lemmas.List.Elements.{All-contains, All-push}
use Rattle.kc_machine_steps.specs.declared.task.Task.{Task}
use Rattle.kc_machine_words.specs.declared.words.Mode.{Mode}
use Rattle.kc_model.specs.Footprint.{IsWellMade, Reads}
use Rattle.kc_model.specs.declared.footprint.Footprint.{Footprint}
use Rattle.kc_model.specs.declared.footprint.Loc.{Loc}
use Rattle.kc_model.specs.declared.footprint.Seen.{Seen}
use Rattle.kc_model.specs.declared.footprint.TheConstants.{MOST}
use Rattle.kc_machine_steps.specs.declared.task.Task.TheVariants as task
use Rattle.kc_machine_steps.specs.declared.task.Told.TheVariants as told
use Rattle.kc_machine.specs.Schedules.{IsWellMadeTask}
use Rattle.kc_machine.specs.Seats.{begun, is_idle}
use Rattle.kc_table_laws.proofs.Following.{does_first, does_further}
use Rattle.kc_table_laws.proofs.Keeping.{steps_keep, loads_keep, looks_saw}
use Rattle.kc_table_laws.specs.Tasks.{DoesTask, KeepsKnown, KnowsRead}
use Rattle.kc_table_moves.specs.Views.{TableView, SeatView, Learns, Starts, Stepped, KnowsReads, AreAll, count_from}

one_kept : (v w : SeatView) (r : Seen) → KeepsKnown v w → KnowsRead v r → KnowsRead w r
one_kept v w r k x = (subst (λ z. r.loc.0 < z.origin.locations) (sym k.of) x.0, k.reads r x.1)

pub reads_step : (v w : SeatView) (reads : List Seen) → Stepped v w → All (KnowsRead v) reads → All (KnowsRead w) reads
reads_step v w reads s a = λ i d lt. one_kept v w (get_or reads i d) (steps_keep v w s) (a i d lt)

pub reads_load : (v w : SeatView) (reads : List Seen) → Learns v w → All (KnowsRead v) reads → All (KnowsRead w) reads
reads_load v w reads s a = λ i d lt. one_kept v w (get_or reads i d) (loads_keep v w s) (a i d lt)

-- a beginning changes nothing of what it knows
pub reads_begun : (v w : SeatView) (t : Task) (reads : List Seen) → w ≡ record v { seat = begun v.seat t; began = true } → All (KnowsRead v) reads → All (KnowsRead w) reads
reads_begun v w t reads e a = subst (λ (x : SeatView). All (KnowsRead x) reads) (sym e) a

pub two_known : (v : SeatView) (first second : Seen) → All (KnowsRead v) (first ∷ []) → KnowsRead v second → All (KnowsRead v) (first ∷ second ∷ [])
two_known v first second a b = All-push (KnowsRead v) (first ∷ []) second a b

-- ---- a look

pub look_starts : (v : SeatView) (l : Loc) → is_idle v.seat.work ≡ true → Starts v (task.Look l)
look_starts v l i = (i, rw i refl)

pub first_looks : (v u w : SeatView) (l : Loc) → is_idle v.seat.work ≡ true → l.0 < v.of.origin.locations → u ≡ record v { seat = begun v.seat (task.Look l); began = true } → Stepped u w → DoesTask v (task.Look l) w
first_looks v u w l i b e s = does_first v u w (task.Look l) (look_starts v l i) b e s

pub next_looks : (v u w : SeatView) (l : Loc) → DoesTask v (task.Look l) u → u.began ≡ false → Stepped u w → DoesTask v (task.Look l) w
next_looks v u w l d e s = does_further v u w u.seat (task.Look l) d e s

pub saw_known : (v w : SeatView) (l : Loc) (r : Seen) → DoesTask v (task.Look l) w → l.0 < v.of.origin.locations → w.seat.told ≡ Some (told.Seen r) → KnowsRead w r
saw_known v w l r d b said =
    let x = looks_saw v w l r d said in
    (subst (λ z. r.loc.0 < z.origin.locations) (sym d.of) (subst (λ (y : Loc). y.0 < v.of.origin.locations) (sym x.of) b), x.known)

-- ---- beginnings

pub commit_starts : (v : SeatView) (f : Footprint) (m : Mode) → is_idle v.seat.work ≡ true → Starts v (task.Commit f m)
commit_starts v f m i = (i, rw i refl)

-- reads that are among known ones
module _ (v : SeatView) (reads : List Seen) (f : Footprint) (among : (r : Seen) → Reads f r → Contains reads r) (known : All (KnowsRead v) reads) where
  each : (r : Seen) → Reads f r → KnowsRead v r
  each r c = All-contains (KnowsRead v) reads r known (among r c)

  pub commit_known : (m : Mode) → KnowsReads v (task.Commit f m)
  commit_known m = λ r c. (each r c).1

  pub commit_made : (m : Mode) → IsWellMade f → length f.reads.items ≤ MOST → IsWellMadeTask v.of.origin.locations (task.Commit f m)
  commit_made m w l = (w, λ r c. (each r c).0, l)

pub not_busy : (b : Bool) → not b ≡ false → b ≡ true
not_busy true e = refl
not_busy false e = absurd (cc)

module _ (z : TableView) (a b : SeatView) (p : a.of ≡ z) (q : b.of ≡ z) (c : z.origin.callers ≡ 2) (m : a.number ≡ 0) (n : b.number ≡ 1) (i : is_idle a.seat.work ≡ true) (j : is_idle b.seat.work ≡ true) where
  two : (P : SeatView → Type 0) (x y : SeatView) → P x → P y → All P (x ∷ y ∷ [])
  two P x y h k = All-push P (x ∷ []) y (All-push P [] x (λ i d lt. absurd (omega arith)) h) k

  pub are_all : AreAll z (a ∷ b ∷ [])
  are_all = record {
    of = two (λ s. s.of ≡ z) a b p q;
    idle = two (λ s. is_idle s.seat.work ≡ true) a b i j;
    all = subst (λ k. IsPermutation (count_from 0 k) (a.number ∷ b.number ∷ [])) (sym c) (subst (IsPermutation (0 ∷ 1 ∷ [])) (λ t. sym m t ∷ sym n t ∷ []) (IsPermutation-refl (0 ∷ 1 ∷ [])));
  }

  pub are_all_backwards : AreAll z (b ∷ a ∷ [])
  are_all_backwards = record {
    of = two (λ s. s.of ≡ z) b a q p;
    idle = two (λ s. is_idle s.seat.work ≡ true) b a j i;
    all = subst (λ k. IsPermutation (count_from 0 k) (b.number ∷ a.number ∷ [])) (sym c) (subst (IsPermutation (0 ∷ 1 ∷ [])) (λ t. sym n t ∷ sym m t ∷ []) (IsPermutation-reverse (0 ∷ 1 ∷ [])));
  }

-- ---- waiting

pub one_below : (n : ℕ) (r : Seen) → r.loc.0 < n → All (λ (x : Seen). x.loc.0 < n) (r ∷ [])
one_below n r b = All-push (λ (x : Seen). x.loc.0 < n) [] r (λ k d lt. absurd (omega arith)) b
