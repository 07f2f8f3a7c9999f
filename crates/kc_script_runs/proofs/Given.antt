-- What commits make of a caller's own list.
use Rattle.std.proofs.Common.{◌≡◌, ℕ, suc, ◌+◌, List, [], ◌∷◌, ◌++◌, length, refl, sym, ap, subst, ◌∙◌, arith, append_assoc, slice_index_or}
use Rattle.std.proofs.lemmas.List.{append-nil, length-append}
use Rattle.kc_history.specs.Callers.{of_caller, record_entry, record_entries}
use Rattle.kc_history.specs.declared.record.Record.{Record}
use Rattle.kc_model.specs.declared.footprint.Entry.{Entry}
use Rattle.kc_script_bundle.specs.declared.operation.Command.{Command}
use Rattle.kc_script_runs.specs.Labels.{ThreadsHaveRecords}
use Rattle.kc_script_runs.specs.Threads.{CommitGives, GivesOne, AreGiven, AreRun, AreRunBy, AreAnswered, meanings}
use Rattle.kc_xt.specs.Meaning.{Meaning}

-- ---- whatever a commit gives

-- one commit more
pub given_more : (gives : CommitGives) (k : ℕ) (ms : List Meaning) (before : List Entry) (rs : List Record) (between after : List Entry) (m : Meaning) (r : Record) → AreGiven gives k ms before rs between → gives k m between r.footprint after → AreGiven gives k (ms ++ m ∷ []) before (rs ++ r ∷ []) after
given_more gives k [] before [] between after m r done next = (after, subst (λ (l : List Entry). gives k m l r.footprint after) done next, refl)
given_more gives k [] before (q ∷ rs) between after m r done next = absurd done
given_more gives k (p ∷ ms) before [] between after m r done next = absurd done
given_more gives k (p ∷ ms) before (q ∷ rs) between after m r (l, first, rest) next = (l, first, given_more gives k ms l rs between after m r rest next)

-- ---- where each gives one entry

pub ones_added : (k : ℕ) (ms : List Meaning) (before : List Entry) (rs : List Record) (after : List Entry) → AreGiven GivesOne k ms before rs after → after ≡ before ++ record_entries k (length before + 1) rs
ones_added k [] before [] after done = done ∙ sym (append-nil before)
ones_added k [] before (r ∷ rs) after done = absurd done
ones_added k (m ∷ ms) before [] after done = absurd done
ones_added k (m ∷ ms) before (r ∷ rs) after (l, first, rest) =
    let e : Entry = record_entry k (length before + 1) r.footprint in
    let long : length l + 1 ≡ length before + 1 + 1 = ap (λ (x : List Entry). length x + 1) first ∙ ap (λ (i : ℕ). i + 1) (length-append before (e ∷ [])) in
    ones_added k ms l rs after rest ∙ ap (λ (i : ℕ). l ++ record_entries k i rs) long ∙ ap (λ (x : List Entry). x ++ record_entries k (length before + 1 + 1) rs) first ∙ append_assoc before (e ∷ []) (record_entries k (length before + 1 + 1) rs)

pub ones_given : (n k : ℕ) (ms : List Meaning) (before : List Entry) (rs : List Record) (after : List Entry) → AreAnswered n ms rs → after ≡ before ++ record_entries k (length before + 1) rs → AreGiven GivesOne k ms before rs after
ones_given n k [] before [] after each is = is ∙ append-nil before
ones_given n k [] before (r ∷ rs) after each is = absurd each
ones_given n k (m ∷ ms) before [] after each is = absurd each
ones_given n k (m ∷ ms) before (r ∷ rs) after each is =
    let e : Entry = record_entry k (length before + 1) r.footprint in
    let l : List Entry = before ++ e ∷ [] in
    let long : length before + 1 + 1 ≡ length l + 1 = sym (ap (λ (i : ℕ). i + 1) (length-append before (e ∷ []))) in
    (l, refl, ones_given n k ms l rs after each.1 (is ∙ sym (append_assoc before (e ∷ []) (record_entries k (length before + 1 + 1) rs)) ∙ ap (λ (i : ℕ). l ++ record_entries k i rs) long))

-- ---- the threads

module _ (limit : ℕ) (gives : CommitGives) where
  pub run_by_threads : (n k j : ℕ) → j ≡ k + 1 → (history : List Entry) (threads : List (List Command)) (records : List (List Record)) → AreRunBy gives limit n k history threads records → ThreadsHaveRecords j threads records
  run_by_threads n k j e history [] [] h = tt
  run_by_threads n k j e history [] (rs ∷ records) h = absurd h
  run_by_threads n k j e history (cs ∷ threads) [] h = absurd h
  run_by_threads n k j e history (cs ∷ threads) (rs ∷ records) h = (rw e h.0.labelled, run_by_threads n (suc k) (j + 1) (omega arith) history threads records h.1)

  -- in another history, of which each caller's part is its records alone
  pub run_by_just : (n k : ℕ) (history other : List Entry) (threads : List (List Command)) (records : List (List Record)) → AreRunBy gives limit n k history threads records
      → ((u : ℕ) → of_caller (k + u) other ≡ record_entries (k + u) 1 (slice_index_or records u [])) → AreRun limit n k other threads records
  run_by_just n k history other [] [] h just = tt
  run_by_just n k history other [] (rs ∷ records) h just = absurd h
  run_by_just n k history other (cs ∷ threads) [] h just = absurd h
  run_by_just n k history other (cs ∷ threads) (rs ∷ records) h just =
      let z : k + 0 ≡ k = omega arith in (
        record {
          labelled = h.0.labelled;
          answered = h.0.answered;
          committed = ones_given n k (meanings limit (k + 1) cs) [] rs (of_caller k other) h.0.answered (subst (λ (i : ℕ). of_caller i other ≡ record_entries i 1 rs) z (just 0));
        },
        run_by_just n (suc k) history other threads records h.1 (λ u. let s : k + suc u ≡ suc k + u = omega arith in subst (λ (i : ℕ). of_caller i other ≡ record_entries i 1 (slice_index_or records u [])) s (just (suc u))),
      )
