-- The worked look, and its commit.
use Rattle.std.proofs.Common.{◌≡◌, ◌≢◌, ℕ, zero, suc, ◌≤◌, ◌==◌, cond, if◌then◌else◌, List, [], ◌∷◌, ◌++◌, length, Option, Some, None, refl, sym, ap, subst, ◌∙◌, arith}
use Rattle.std.specs.Option.{option_map}
use Rattle.std.proofs.Math.Path.{fun_ext}
use Rattle.std.proofs.lemmas.Bool.Decides.{nat_tests}
use Rattle.std.proofs.lemmas.List.Elements.{All-cons, All-nil}
use Rattle.kc_history.specs.Callers.{record_entry}
use Rattle.kc_loc.specs.Meaning.{loc_program}
use Rattle.kc_model.specs.Footprint.{IsWellMade, Reads, put_at, read_at}
use Rattle.kc_model.specs.Store.{Store, Finds}
use Rattle.kc_model.specs.declared.footprint.Entry.{Entry}
use Rattle.kc_model.specs.declared.footprint.Footprint.{Footprint}
use Rattle.kc_model.specs.declared.footprint.Seen.{Seen}
use Rattle.kc_model.specs.declared.footprint.TheConstants.{LAST_VERSION, MOST}
use Rattle.kc_model.specs.declared.plain_store.Cell.{Cell}
use Rattle.kc_script_bundle.specs.Meaning.{thread_meaning}
use Rattle.kc_script_runs.specs.Looks.{GivesBehindLooks, IsWaitingTry}
use Rattle.kc_script_runs.specs.Worked.{waits_for_nine, looks_at_x_and_live, missed, met, look_and_commit}
use Rattle.kc_xt.specs.Commit.{Waits, run_on}
use Rattle.kc_xt.specs.Meaning.{Makes, Meaning, Run, given_up, is_touched, last_written, retried, values}

abbrev pub check : Meaning
check = thread_meaning 0 2 waits_for_nine

-- a map on which both locations are known
abbrev known : (ℕ → ℕ) → ℕ → ℕ
known v l = cond (l == 1) 8 (cond (l == 0) 2 (v l))

comes : (v : ℕ → ℕ) → check MOST (known v) [] ≡ record { outcome = retried; touches = looks_at_x_and_live }
unfolding loc_program
comes v = refl

checked : (v : ℕ → ℕ) → v 1 ≡ 8 → v 0 ≡ 2 → check MOST v [] ≡ record { outcome = retried; touches = looks_at_x_and_live }
checked v at_x at_live = ap (λ (m : ℕ → ℕ). check MOST m []) (fun_ext same) ∙ comes v where
  same : (l : ℕ) → v l ≡ known v l
  same zero = at_live
  same (suc zero) = at_x
  same (suc (suc l)) = grind (arith, nat_tests)

missed_made : IsWellMade missed
missed_made = record { reads_rise = (omega arith, tt); puts_rise = tt; versions = seen; puts_read = λ p h. absurd (let lt = h.1 in omega arith); versions_put = λ p h. absurd (let lt = h.1 in omega arith) } where
  seen : (r : Seen) → Reads missed r → r.version ≤ LAST_VERSION
  seen r (zero, lt, is) = subst (λ (q : Seen). q.version ≤ LAST_VERSION) is (omega arith)
  seen r (suc zero, lt, is) = subst (λ (q : Seen). q.version ≤ LAST_VERSION) is (omega arith)
  seen r (suc (suc k), lt, is) = absurd (omega arith)

module _ (s : Store) (finds : Finds missed s) where
  live_is : s 0 ≡ record { version = 0; value = 2 }
  live_is = finds (record { loc = record { 0 = 0 }; version = 0; value = 2 }) (0, omega arith, refl)

  x_is : s 1 ≡ record { version = 0; value = 8 }
  x_is = finds (record { loc = record { 0 = 1 }; version = 0; value = 8 }) (1, omega arith, refl)

  here : run_on check s ≡ record { outcome = retried; touches = looks_at_x_and_live }
  here = checked (values s) (ap (λ (c : Cell). c.value) x_is) (ap (λ (c : Cell). c.value) live_is)

  abbrev seen_at : ℕ → Cell → Option Seen
  seen_at l c = Some (record { loc = record { 0 = l }; version = c.version; value = c.value })

  looked : Makes s (given_up looks_at_x_and_live) missed
  looked = record { well_made = missed_made; reads = reads; puts = puts } where
    reads : (l : ℕ) → read_at missed.reads.items l ≡ (if is_touched (given_up looks_at_x_and_live) l then seen_at l (s l) else None)
    reads zero = ap (seen_at 0) (sym live_is)
    reads (suc zero) = ap (seen_at 1) (sym x_is)
    reads (suc (suc l)) = grind (arith, nat_tests)

    puts : (l : ℕ) → put_at missed.puts.items l ≡ option_map (λ v. record { loc = record { 0 = l }; version = (s l).version; after = v }) (last_written (given_up looks_at_x_and_live) l)
    puts zero = refl
    puts (suc zero) = refl
    puts (suc (suc l)) = grind (arith, nat_tests)

waits : Waits check missed
waits = record {
  well_made = missed_made;
  run = λ s finds. subst (λ (r : Run). (r.outcome ≡ retried) × (r.touches ≢ [])) (sym (here s finds)) (refl, λ e. cc e);
  makes = λ s finds. subst (λ (r : Run). Makes s (given_up r.touches) missed) (sym (here s finds)) (looked s finds);
}

pub given : GivesBehindLooks 1 check [] met look_and_commit
given = record {
  looks = record_entry 1 1 missed ∷ [];
  number = 2;
  added = refl;
  each = All-cons (IsWaitingTry 1 check) _ [] (record { own = refl; puts_nothing = refl; waits = waits }) (All-nil (IsWaitingTry 1 check));
  rising = (omega arith, tt);
}

-- the last entry is the commit's
abbrev last_of : Entry → List Entry → Entry
last_of d [] = d
last_of d (e ∷ es) = last_of e es

last_behind : (d : Entry) (es : List Entry) (e : Entry) → last_of d (es ++ e ∷ []) ≡ e
last_behind d [] e = refl
last_behind d (x ∷ es) e = last_behind x es e

pub not_the_last : GivesBehindLooks 1 check [] missed look_and_commit → ⊥
not_the_last g =
    let d : Entry = record_entry 0 0 met in
    let same : met ≡ missed = ap (λ (l : List Entry). (last_of d l).footprint) g.added ∙ ap (λ (e : Entry). e.footprint) (last_behind d g.looks (record_entry 1 g.number missed)) in
    let n : 1 ≡ 2 = ap (λ (f : Footprint). length f.reads.items) same in
    omega (arith, n)
