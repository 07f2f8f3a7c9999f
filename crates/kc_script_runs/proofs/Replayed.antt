-- The records of threads that one legal history has are a run.
use Rattle.std.proofs.Common.{◌≡◌, ◌≢◌, ℕ, zero, suc, ◌+◌, ◌≤◌, List, [], ◌∷◌, Option, Some, None, length, refl, sym, ap, subst, ◌∙◌, arith, slice_index_or, if◌then◌else◌, ne_eqb}
use Rattle.std.specs.Prelude.{slice_get}
use Rattle.std.specs.Option.{option_map}
use Rattle.kc_history.proofs.Choice.{some_is}
use Rattle.kc_history.proofs.Entries.{just_legal}
use Rattle.kc_history.proofs.Exchange.{canonical_legal}
use Rattle.kc_history.specs.Callers.{of_caller, record_entries, HasJust, IsBelowCallers}
use Rattle.kc_history.specs.Ends.{CanStandIn, AllCanStandIn, HasLegalList}
use Rattle.kc_history.specs.Moves.{placed_from}
use Rattle.kc_history.specs.Order.{IsCanonical, Legal, one_record_more}
use Rattle.kc_history.specs.Records.{record_at, footprint_at}
use Rattle.kc_history.specs.declared.record.Place.{Place}
use Rattle.kc_history.specs.declared.record.Record.{Record}
use Rattle.kc_model.specs.Footprint.{PutsWhatItReads}
use Rattle.kc_model.specs.Legal.{IsLegal}
use Rattle.kc_model.specs.Store.{Store, Finds, store_of, opened, after}
use Rattle.kc_model.specs.declared.footprint.Entry.{Entry}
use Rattle.kc_model.specs.declared.footprint.Footprint.{Footprint}
use Rattle.kc_script_bundle.specs.Script.{Script}
use Rattle.kc_script_bundle.specs.State.{opening_values}
use Rattle.kc_script_bundle.specs.declared.operation.Command.{Command}
use Rattle.kc_script_runs.proofs.Given.{ones_added, run_by_threads}
use Rattle.kc_script_runs.specs.Run.{Replays, IsScriptRun, opening_store}
use Rattle.kc_script_runs.specs.Threads.{AreAnswered, AreRun, GivesOne, IsAnswered, meanings}
use Rattle.kc_xt.specs.Meaning.{Meaning}

-- ---- each record is answered

-- where a footprint stands, it is a record's
pub record Of (records : List (List Record)) (u k : ℕ) (f : Footprint) : Type 0 where
  pub commit : Record
  pub stands : record_at records u k ≡ Some commit
  pub has : commit.footprint ≡ f

record_of : (records : List (List Record)) (u k : ℕ) (f : Footprint) → footprint_at records u k ≡ Some f → Of records u k f
record_of records u k f is = by (record_at records u k) refl is
  where
    by : (o : Option Record) → record_at records u k ≡ o → option_map (λ (r : Record). r.footprint) o ≡ Some f → Of records u k f
    by None at e = absurd (cc)
    by (Some r) at e = record { commit = r; stands = at; has = some_is r.footprint f e }

-- a record with the meaning at its place
pub record Answered (n : ℕ) (ms : List Meaning) (k : ℕ) (r : Record) : Type 0 where
  pub meaning : Meaning
  pub means : slice_get ms k ≡ Some meaning
  pub answered : IsAnswered n meaning r

answered_in : (n : ℕ) (ms : List Meaning) (rs : List Record) → AreAnswered n ms rs → (k : ℕ) (r : Record) → slice_get rs k ≡ Some r → Answered n ms k r
answered_in n [] [] h k r at = absurd (cc)
answered_in n [] (q ∷ rs) h k r at = absurd h
answered_in n (m ∷ ms) [] h k r at = absurd h
answered_in n (m ∷ ms) (q ∷ rs) h zero r at = record { meaning = m; means = refl; answered = subst (IsAnswered n m) (some_is q r at) h.0 }
answered_in n (m ∷ ms) (q ∷ rs) h (suc k) r at = let rest = answered_in n ms rs h.1 k r at in record { meaning = rest.meaning; means = rest.means; answered = rest.answered }

module _ (limit : ℕ) where
  -- the thread at a place, and its number among all
  answered_at : (n k : ℕ) (history : List Entry) (threads : List (List Command)) (records : List (List Record)) → AreRun limit n k history threads records → (u t i : ℕ) (r : Record) → t ≡ k + u → record_at records u i ≡ Some r → Answered n (meanings limit (t + 1) (slice_index_or threads u [])) i r
  answered_at n k history [] [] h u t i r is at = absurd (cc)
  answered_at n k history [] (rs ∷ records) h u t i r is at = absurd h
  answered_at n k history (cs ∷ threads) [] h u t i r is at = absurd h
  answered_at n k history (cs ∷ threads) (rs ∷ records) h zero t i r is at =
      let same : k ≡ t = omega (arith, is) in
      answered_in n (meanings limit (t + 1) cs) rs (subst (λ (j : ℕ). AreAnswered n (meanings limit (j + 1) cs) rs) same h.0.answered) i r at
  answered_at n k history (cs ∷ threads) (rs ∷ records) h (suc u) t i r is at = answered_at n (suc k) history threads records h.1 u t i r (omega (arith, is)) at

  -- ---- the history has just them

  run_length : (n k : ℕ) (history : List Entry) (threads : List (List Command)) (records : List (List Record)) → AreRun limit n k history threads records → length threads ≡ length records
  run_length n k history [] [] h = refl
  run_length n k history [] (rs ∷ records) h = absurd h
  run_length n k history (cs ∷ threads) [] h = absurd h
  run_length n k history (cs ∷ threads) (rs ∷ records) h = ap suc (run_length n (suc k) history threads records h.1)

  -- who is no caller has no entry
  pub none_of : (u n : ℕ) → n ≤ u → (history : List Entry) → IsBelowCallers n history → of_caller u history ≡ []
  none_of u n le [] below = refl
  none_of u n le (e ∷ es) below =
      let other : e.caller ≢ u = λ same. (let b = below 0 e (omega arith) in omega arith) in
      ap (λ b. if b then e ∷ of_caller u es else of_caller u es) (ne_eqb e.caller u other) ∙ none_of u n le es (λ i d lt. below (suc i) d (omega arith))

  just_from : (n k : ℕ) (history : List Entry) (threads : List (List Command)) (records : List (List Record)) → AreRun limit n k history threads records → IsBelowCallers (k + length threads) history → (u : ℕ) → of_caller (k + u) history ≡ record_entries (k + u) 1 (slice_index_or records u [])
  just_from n k history [] [] h below u = none_of (k + u) (k + 0) (omega arith) history below
  just_from n k history [] (rs ∷ records) h below u = absurd h
  just_from n k history (cs ∷ threads) [] h below u = absurd h
  just_from n k history (cs ∷ threads) (rs ∷ records) h below zero = let z : k ≡ k + 0 = omega arith in subst (λ (j : ℕ). of_caller j history ≡ record_entries j 1 rs) z (ones_added k (meanings limit (k + 1) cs) [] rs (of_caller k history) h.0.committed)
  just_from n k history (cs ∷ threads) (rs ∷ records) h below (suc u) =
      let z : suc k + u ≡ k + suc u = omega arith in
      let more : k + length (cs ∷ threads) ≡ suc k + length threads = omega arith in
      subst (λ (j : ℕ). of_caller j history ≡ record_entries j 1 (slice_index_or records u [])) z (just_from n (suc k) history threads records h.1 (subst (λ (m : ℕ). IsBelowCallers m history) more below) u)

  pub run_just : (n : ℕ) (history : List Entry) (threads : List (List Command)) (records : List (List Record)) → AreRun limit n 0 history threads records → IsBelowCallers (length threads) history → HasJust records history
  run_just n history threads records h below u =
      let z : 0 + u ≡ u = omega arith in
      let more : length threads ≡ 0 + length threads = omega arith in
      subst (λ (j : ℕ). of_caller j history ≡ record_entries j 1 (slice_index_or records u [])) z (just_from n 0 history threads records h (subst (λ (m : ℕ). IsBelowCallers m history) more below) u)

  -- ---- they can be arranged

  module _ (n : ℕ) (history : List Entry) (threads : List (List Command)) (records : List (List Record)) (run : AreRun limit n 0 history threads records) where
    pub run_made : AllCanStandIn n (footprint_at records)
    run_made u k f at =
        let r = record_of records u k f at in
        let a = (answered_at n 0 history threads records run u u k r.commit (omega arith) r.stands).answered in
        subst (CanStandIn n) r.has (a.answers.well_made, a.within)

    pub puts_read : (u k : ℕ) (f : Footprint) → footprint_at records u k ≡ Some f → PutsWhatItReads f
    puts_read u k f at =
        let r = record_of records u k f at in
        subst PutsWhatItReads r.has (answered_at n 0 history threads records run u u k r.commit (omega arith) r.stands).answered.answers.well_made.puts_read

    -- what is legal is replayed
    pub legal_replays : (m : ℕ → ℕ) (s e : Store) (ps : List Place) → Legal (footprint_at records) m s ps e → Replays limit threads records s ps e
    legal_replays m s e [] h = h.1
    legal_replays m s e (p ∷ ps) (f, next, finds, rest) =
        let r = record_of records p.thread p.index f next.1 in
        let a = answered_at n 0 history threads records run p.thread p.thread p.index r.commit (omega arith) r.stands in (
          a.meaning,
          r.commit,
          a.means,
          r.stands,
          record { finds = subst (λ (g : Footprint). Finds g s) (sym r.has) finds; answers = a.answered.answers },
          subst (λ (g : Footprint). Replays limit threads records (after g s) ps e) (sym r.has) (legal_replays (one_record_more p.thread m) (after f s) e ps rest),
        )

-- ---- the run

-- a store opens with versions 0
pub opened_zero : (values : List ℕ) (l : ℕ) → (store_of (opened values) l).version ≡ 0
opened_zero [] l = refl
opened_zero (v ∷ values) zero = refl
opened_zero (v ∷ values) (suc l) = opened_zero values l

module _ (script : Script) (n : ℕ) (history : List Entry) (records : List (List Record)) (run : AreRun script.limit n 0 history script.threads records) where
  -- in an order that is canonical and legal they are a run
  pub run_of_order : (order : List Place) (last : Store) → IsCanonical (footprint_at records) order → Legal (footprint_at records) (λ _. 0) (opening_store script) order last → IsScriptRun script records order last
  run_of_order order last canonical legal = record {
    threads = run_by_threads script.limit GivesOne n 0 1 refl history script.threads records run;
    canonical = canonical;
    replays = legal_replays script.limit n history script.threads records run (λ _. 0) (opening_store script) last order legal;
  }

  module _ (last : Store) (below : IsBelowCallers (length script.threads) history) (legal : IsLegal (opening_store script) history last) where
    pub run_list : Legal (footprint_at records) (λ _. 0) (opening_store script) (placed_from (λ _. 0) history) last
    run_list = just_legal records (opening_store script) last history legal (run_just script.limit n history script.threads records run below)

    pub run_has_list : HasLegalList (footprint_at records)
    run_has_list = record { opening = opening_store script; opens = opened_zero (opening_values script); places = placed_from (λ _. 0) history; ending = last; legal = run_list }

    pub run_is : (order : List Place) → IsCanonical (footprint_at records) order → IsScriptRun script records order last
    run_is order canonical =
        run_of_order order last canonical (canonical_legal (footprint_at records) (puts_read script.limit n history script.threads records run) (opening_store script) last (placed_from (λ _. 0) history) order (opened_zero (opening_values script)) run_list canonical).0
