-- A bundle's threads, its opening store, and room for its records.
use Rattle.std.proofs.Common.{◌≡◌, ℕ, zero, suc, ◌+◌, ◌<◌, ◌≤◌, List, [], ◌∷◌, length, map, get_or, refl, sym, ap, ◌∙◌, subst, arith}
use Rattle.std.specs.Prelude.{All, sum_by}
use Rattle.std.proofs.lemmas.List.{length-map}
use Rattle.std.proofs.lemmas.List.Sums.{sum_by-cons}
use Rattle.std.specs.Global.{Vec}
use Rattle.kc_model.specs.Store.{Store, store_of, opened}
use Rattle.kc_model.specs.declared.plain_store.Cell.{Cell}
use Rattle.kc_history.specs.Counts.{records_in}
use Rattle.kc_history.specs.Ends.{AllCanStandIn}
use Rattle.kc_history.specs.Moves.{placed_from}
use Rattle.kc_history.specs.Order.{IsCanonical, Legal}
use Rattle.kc_history.specs.Records.{footprint_at, lists_of}
use Rattle.kc_history.specs.RecordsValue.{RecordsValue}
use Rattle.kc_history.specs.declared.record.Place.{Place}
use Rattle.kc_model.proofs.Stores.{opened_length}
use Rattle.kc_run.proofs.Threads.{room_length}
use Rattle.kc_run.specs.Run.{CanRunAll}
use Rattle.kc_script.proofs.PartLines.{parts_whole}
use Rattle.kc_script.proofs.Spelled.{spelled_lies, spelled_threads, spelled_threads_few, on_at}
use Rattle.kc_script.specs.Parts.{SpellsParts}
use Rattle.kc_script.specs.Spells.{Spells}
use Rattle.kc_script.specs.Threads.{AreThreads as AreOn}
use Rattle.kc_script_bundle.specs.declared.bundle.TheConstants.{MOST_THREADS}
use Rattle.kc_script_bundle.proofs.Places.{next_from-above, length-cells}
use Rattle.kc_script_bundle.specs.Script.{Script, script_of, next_from}
use Rattle.kc_script_bundle.specs.State.{opening_values}
use Rattle.kc_script_bundle.specs.declared.bundle.Bundle.{Bundle}
use Rattle.kc_script_bundle.specs.declared.operation.Command.{Command}
use Rattle.kc_script.proofs.Again.{limit_fits}
use Rattle.kc_script_runs.proofs.Replayed.{opened_zero, run_list, run_made, run_of_order}
use Rattle.kc_script_runs.proofs.Given.{run_by_threads}
use Rattle.kc_script_runs.specs.Labels.{ThreadsHaveRecords}
use Rattle.kc_script_runs.specs.Run.{IsScriptRun, opening_store}
use Rattle.kc_script_runs.specs.Threads.{AreRun, GivesOne}
use Rattle.kc_top.proofs.Asks.{ask_fit, ask_within}
use Rattle.kc_top.specs.Runnable.{IsRunnable}
use Rattle.kc_top.specs.Served.{HaveCommits}

-- a script has as many opening values as cells, and one for the live threads
pub length-opening_values : (script : Script) → length (opening_values script) ≡ next_from 1 script.objects
length-opening_values script = let e = length-cells 1 script.objects in omega (arith, e)

-- a bundle's store has a cell for each of its cells, and one for the live threads
pub store_length : (script : Script) (cells : List Cell) → cells ≡ opened (opening_values script) → length cells ≡ next_from 1 script.objects
store_length script cells e = ap length e ∙ opened_length (opening_values script) ∙ length-opening_values script

-- a script that bytes spell can be run
pub runnable : {bytes : List ℕ} {s : Script} → Spells bytes s → IsRunnable s
runnable spells = record { limit = (let e = spells.limit in let fits = limit_fits spells.heading spells.version spells.begins in (omega (arith, e, fits.0), omega (arith, e, fits.1))); lies = spelled_lies spells; few = spelled_threads_few spells; threads = spelled_threads spells }

-- so can one that parts spell
pub runnable_parts : {setup : List ℕ} {files : List (List ℕ)} {s : Script} → SpellsParts setup files s → IsRunnable s
runnable_parts {setup} {files} {s} spells = runnable (parts_whole setup files s spells).1

-- ---- its threads

abbrev commands_of : List (Vec Command) → List (List Command)
commands_of threads = map (λ (v : Vec Command). v.items) threads

pub all_few : (s : Script) (threads : List (Vec Command)) → AreOn s.objects (commands_of threads) → All (λ (v : Vec Command). length v.items ≤ 4096) threads
all_few s [] h k d lt = absurd (omega (arith, lt))
all_few s (v ∷ vs) h zero d lt = h.0
all_few s (v ∷ vs) h (suc k) d lt = all_few s vs h.2 k d (omega (arith, lt))

-- a store with as many locations can run them
pub all_can_run : (s : Script) (n : ℕ) → IsRunnable s → n ≡ next_from 1 s.objects → (threads : List (Vec Command)) → AreOn s.objects (commands_of threads) → All (λ (v : Vec Command). CanRunAll n v.items) threads
all_can_run s n can size [] h k d lt = absurd (omega (arith, lt))
all_can_run s n can size (v ∷ vs) h zero d lt =
    let le : n ≤ 65536 = omega (arith, size, can.lies.within) in
    let some : 0 < n = omega (arith, size, next_from-above 1 s.objects) in
    let room : next_from 1 s.objects ≤ n = omega (arith, size) in
    record {
      few = h.0;
      each = λ i e it.
          let on = on_at s.objects v.items i e h.1 it in
          record { fit = ask_fit n s.objects can.lies.lie room (get_or v.items i e) on le; within = ask_within n s.objects can.lies.lie room (get_or v.items i e) on some };
    }
all_can_run s n can size (v ∷ vs) h (suc k) d lt = all_can_run s n can size vs h.2 k d (omega (arith, lt))

-- its opening values and its threads are as a store wants them
module _ (b : Bundle) (values : List ℕ) (ts : List (Vec Command)) (can : IsRunnable (script_of b)) (valued : values ≡ opening_values (script_of b)) (threaded : ts ≡ b.threads.items) where
  valued_size : length values ≡ next_from 1 (script_of b).objects
  valued_size = ap length valued ∙ length-opening_values (script_of b)

  pub values_fit : (0 < length values) × (length values ≤ 65536)
  values_fit = let few = can.lies.within in (omega (arith, valued_size, next_from-above 1 (script_of b).objects), omega (arith, valued_size, few))

  pub threads_fit : 0 < length b.threads.items → (0 < length ts) × (length ts ≤ MOST_THREADS)
  threads_fit some =
      let same = ap length threaded in
      let long = length-map b.threads.items (λ (v : Vec Command). v.items) in
      let few = can.few in (omega (arith, same, some), omega (arith, same, long, few))

  pub commands_fit : All (λ (v : Vec Command). CanRunAll (length values) v.items) ts
  commands_fit = subst (All (λ (v : Vec Command). CanRunAll (length values) v.items)) (sym threaded) (all_can_run (script_of b) (length values) can valued_size b.threads.items can.threads)

-- ---- room

pub lists_length : (j : ℕ) (threads : List (Vec Command)) (records : List RecordsValue) → ThreadsHaveRecords j (commands_of threads) (lists_of records) → length records ≡ length threads
lists_length j [] [] h = refl
lists_length j [] (r ∷ rs) h = absurd h
lists_length j (v ∷ vs) [] h = absurd h
lists_length j (v ∷ vs) (r ∷ rs) h = ap suc (lists_length (j + 1) vs rs h.1)

-- there are as many records as commands and ends
pub records_counted : (j : ℕ) (threads : List (Vec Command)) (records : List RecordsValue) → ThreadsHaveRecords j (commands_of threads) (lists_of records) → records_in records ≡ sum_by (λ (v : Vec Command). length v.items + 1) threads
records_counted j [] [] h = refl
records_counted j [] (r ∷ rs) h = absurd h
records_counted j (v ∷ vs) [] h = absurd h
records_counted j (v ∷ vs) (r ∷ rs) h =
    let a = sum_by-cons (λ (w : RecordsValue). length w.items) r rs in
    let b = sum_by-cons (λ (w : Vec Command). length w.items + 1) v vs in
    let c = records_counted (j + 1) vs rs h.1 in
    let d = room_length j v.items r.items h.0 in
    omega (arith, a, b, c, d)

-- ---- from what ran to what is shown

-- where a run opened and what its threads left: it can be settled, and is then a run of the script
pub record Settles (script : Script) (threads : List (Vec Command)) (cells : List Cell) (vs : List RecordsValue) : Type 0 where
  pub made : AllCanStandIn (length cells) (footprint_at (lists_of vs))
  pub opens : (l : ℕ) → (store_of cells l).version ≡ 0
  pub legal : (places : List Place) × (last : Store) × Legal (footprint_at (lists_of vs)) (λ _. 0) (store_of cells) places last
  pub lists : length vs ≡ length threads
  pub counted : records_in vs ≡ sum_by (λ (v : Vec Command). length v.items + 1) threads
  pub run : (order : List Place) (last : Store) → IsCanonical (footprint_at (lists_of vs)) order → Legal (footprint_at (lists_of vs)) (λ _. 0) (store_of cells) order last → IsScriptRun script (lists_of vs) order last

pub settles : (b : Bundle) (cells : List Cell) (vs : List RecordsValue) → cells ≡ opened (opening_values (script_of b)) → HaveCommits (script_of b) (lists_of vs) → Settles (script_of b) b.threads.items cells vs
settles b cells vs stored have =
    let script = script_of b in
    let same : length (opening_values script) ≡ length cells = sym (ap length stored ∙ opened_length (opening_values script)) in
    let run : AreRun script.limit (length cells) 0 have.commits script.threads (lists_of vs) = subst (λ (n : ℕ). AreRun script.limit n 0 have.commits script.threads (lists_of vs)) same have.run in
    let (last, found) = have.legal in
    let labelled = run_by_threads script.limit GivesOne (length cells) 0 1 refl have.commits script.threads (lists_of vs) run in
    let opening : opening_store script ≡ store_of cells = ap store_of (sym stored) in
    record {
      made = run_made script.limit (length cells) have.commits script.threads (lists_of vs) run;
      opens = λ l. subst (λ (x : List Cell). (store_of x l).version ≡ 0) (sym stored) (opened_zero (opening_values script) l);
      legal = (placed_from (λ _. 0) have.commits, last, subst (λ (x : Store). Legal (footprint_at (lists_of vs)) (λ _. 0) x (placed_from (λ _. 0) have.commits) last) opening (run_list script (length cells) have.commits (lists_of vs) run last have.nobody_else found));
      lists = lists_length 1 b.threads.items vs labelled;
      counted = records_counted 1 b.threads.items vs labelled;
      run = λ order end canonical listed. run_of_order script (length cells) have.commits (lists_of vs) run order end canonical (subst (λ (x : Store). Legal (footprint_at (lists_of vs)) (λ _. 0) x order end) (sym opening) listed);
    }

-- a script without threads runs nothing
pub run_of_none : (script : Script) → script.threads ≡ [] → IsScriptRun script [] [] (opening_store script)
run_of_none script threads = record {
  threads = rw threads tt;
  canonical = record { stand = λ _. 0; versions = λ _. 0; chooses = (refl, refl); all = λ u k f h. absurd (cc) };
  replays = refl;
}

pub no_thread : (threads : List (Vec Command)) → length threads ≡ 0 → commands_of threads ≡ []
no_thread [] e = refl
no_thread (v ∷ threads) e = absurd (omega (arith, e))
