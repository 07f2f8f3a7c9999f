-- A descriptor begins no more lives than seats begin commits.
use Rattle.std.proofs.Common.{◌≡◌, ◌≢◌, ℕ, zero, suc, ◌+◌, ◌<◌, ◌≤◌, refl, ap, arith, Bool, true, false, if◌then◌else◌, ◌==◌, List, [], ◌∷◌}
use Rattle.std.specs.Prelude.{nat_lt}
use borrow.Author.Tests.{eq-eqb, eqb-false, eqb-true, ltb-true}
use Rattle.kc_lasting_laws.proofs.Taking.{begun_takes, halted_takes, step_takes, yet}
use Rattle.kc_lasting_laws.specs.Lives.{commit_by, commits_by, one_if_commit}
use Rattle.kc_lasting_laws.specs.kc_machine.Machine.{Opening, State, event_of, found_at, happened, opened_state, possible, put_at_index, run, run_from, seat_of, stepped, touched}
use Rattle.kc_lasting_laws.specs.kc_machine.Seats.{access_of, begun, halted, seat_answered}
use Rattle.kc_lasting_laws.specs.kc_machine.declared.seat.Seat.{Seat}
use Rattle.kc_lasting_laws.specs.kc_machine_steps.declared.task.Event.{Event}
use Rattle.kc_lasting_laws.specs.kc_machine_steps.declared.task.Event.TheVariants.{Begin, Step, Halt}
use Rattle.kc_machine_invariants.proofs.Sums.{sum_below_none, sum_below_put}
use Rattle.kc_machine_invariants.specs.Holds.{sum_below}

-- ---- sums

sum_both : (f g : ℕ → ℕ) (n : ℕ) → sum_below (λ k. f k + g k) n ≡ sum_below f n + sum_below g n
sum_both f g zero = refl
sum_both f g (suc n) = let a = sum_both f g n in omega (arith, a)

sum_part : (f : ℕ → ℕ) (n k : ℕ) → k < n → f k ≤ sum_below f n
sum_part f zero k lt = absurd (omega (arith, lt))
sum_part f (suc n) k lt = go (k == n) refl (λ ne. sum_part f n k (omega (arith, lt, ne)))
  where
    go : (b : Bool) → (k == n) ≡ b → (k ≢ n → f k ≤ sum_below f n) → f k ≤ f n + sum_below f n
    go true e more = let q = ap f (eqb-true k n e) in omega (arith, q)
    go false e more = let part = more (eqb-false k n e) in omega (arith, part)

-- ---- what an event begins

abbrev begins_at : Event → ℕ
begins_at e = commit_by (seat_of e) e

begins_here : (e : Event) (n : ℕ) → seat_of e < n → begins_at e ≤ sum_below (λ k. commit_by k e) n
begins_here e n lt = sum_part (λ k. commit_by k e) n (seat_of e) lt

begun_here : (k : ℕ) (x : ℕ) → (if k == k then x else 0) ≡ x
begun_here k x = rw (eq-eqb k k refl) refl

-- ---- events

module _ (d : ℕ) where
  -- what seats have yet to take, and the generation
  abbrev counted : State → ℕ
  counted m = sum_below (λ k. yet (m.seats k).work) m.callers + (m.world.control d).generation

  seat_counted : (m : State) (k : ℕ) (s : Seat) → k < m.callers → sum_below (λ j. yet (put_at_index m.seats k s j).work) m.callers + yet (m.seats k).work ≡ sum_below (λ j. yet (m.seats j).work) m.callers + yet s.work
  seat_counted m k s lt = sum_below_put (λ (x : Seat). yet x.work) m.seats k s m.callers lt

  step_counted : (m : State) (k : ℕ) → k < m.callers → counted (stepped m k) ≤ counted m
  step_counted m k lt = go (possible m (access_of (m.seats k))) refl
    where
      go : (b : Bool) → possible m (access_of (m.seats k)) ≡ b
          → counted (if b then record m { world = touched m.world (access_of (m.seats k)); seats = put_at_index m.seats k (seat_answered (m.seats k) (found_at m.world (access_of (m.seats k)))) } else m) ≤ counted m
      go true e =
          let one = step_takes d m (m.seats k) e in
          let sums = seat_counted m k (seat_answered (m.seats k) (found_at m.world (access_of (m.seats k)))) lt in
          omega (arith, one, sums)
      go false e = omega arith

  happened_counted : (m : State) (e : Event) → seat_of e < m.callers → counted (happened m e) ≤ counted m + begins_at e
  happened_counted m (Begin k t) lt =
      let one = begun_takes (m.seats k) t in
      let sums = seat_counted m k (begun (m.seats k) t) lt in
      let here = begun_here k (one_if_commit t) in
      omega (arith, one, sums, here)
  happened_counted m (Step k) lt = let one = step_counted m k lt in omega (arith, one)
  happened_counted m (Halt k) lt =
      let one = halted_takes (m.seats k) in
      let sums = seat_counted m k (halted (m.seats k)) lt in
      omega (arith, one, sums)

  event_counted : (m : State) (e : Event) → counted (event_of m e) ≤ counted m + sum_below (λ k. commit_by k e) m.callers
  event_counted m e = go (nat_lt (seat_of e) m.callers) refl
    where
      go : (b : Bool) → nat_lt (seat_of e) m.callers ≡ b → counted (if b then happened m e else m) ≤ counted m + sum_below (λ k. commit_by k e) m.callers
      go true q =
          let lt = ltb-true (seat_of e) m.callers q in
          let one = happened_counted m e lt in
          let all = begins_here e m.callers lt in
          omega (arith, one, all)
      go false q = omega arith

  step_callers : (m : State) (k : ℕ) → (stepped m k).callers ≡ m.callers
  step_callers m k = go (possible m (access_of (m.seats k)))
    where
      go : (b : Bool) → (if b then record m { world = touched m.world (access_of (m.seats k)); seats = put_at_index m.seats k (seat_answered (m.seats k) (found_at m.world (access_of (m.seats k)))) } else m).callers ≡ m.callers
      go true = refl
      go false = refl

  happened_callers : (m : State) (e : Event) → (happened m e).callers ≡ m.callers
  happened_callers m (Begin k t) = refl
  happened_callers m (Step k) = step_callers m k
  happened_callers m (Halt k) = refl

  event_callers : (m : State) (e : Event) → (event_of m e).callers ≡ m.callers
  event_callers m e = go (nat_lt (seat_of e) m.callers)
    where
      go : (b : Bool) → (if b then happened m e else m).callers ≡ m.callers
      go true = happened_callers m e
      go false = refl

  run_counted : (m : State) (es : List Event) → counted (run_from m es) ≤ counted m + sum_below (λ k. commits_by k es) m.callers
  run_counted m [] = omega arith
  run_counted m (e ∷ es) =
      let one = event_counted m e in
      let rest = run_counted (event_of m e) es in
      let same = ap (sum_below (λ k. commits_by k es)) (event_callers m e) in
      let both = sum_both (λ k. commit_by k e) (λ k. commits_by k es) m.callers in
      omega (arith, one, rest, same, both)

pub lives_at_most : (o : Opening) (es : List Event) (d : ℕ) → ((run o es).world.control d).generation ≤ o.generation + sum_below (λ k. commits_by k es) o.callers
lives_at_most o es d =
    let all = run_counted d (opened_state o) es in
    let none = sum_below_none o.callers in
    omega (arith, all, none)
