-- In every run of a script whose commands only add, all replies are `ok`, and the last store has the sums.
use Rattle.kc_model.specs.declared.footprint.TheConstants.{MOST}
use Rattle.std.proofs.Common.{◌≡◌, ◌≢◌, ◌⊎◌, inl, inr, ℕ, zero, suc, ◌+◌, ◌<◌, ◌≤◌, ◌^◌, true, cond, List, [], ◌∷◌, ◌++◌, Some, map, length, slice_index_or, refl, sym, ap, ap₂, subst, ◌∙◌, arith}
use Rattle.std.specs.Prelude.{slice_get, count_by, sum_by}
use Rattle.std.specs.Option.{option_map}
use Rattle.std.proofs.Math.Nat.{mod-add-mod, mod-eq_of_lt}
use Rattle.std.proofs.Math.Path.{fun_ext}
use Rattle.std.proofs.lemmas.List.Sums.{sum_by-cons}
use Rattle.kc_model.specs.Store.{Store, after}
use Rattle.kc_model.specs.declared.reply.Answer.{Answer}
use Rattle.kc_model.specs.declared.reply.Answer.TheVariants as answer
use Rattle.kc_script_bundle.specs.Script.{Script}
use Rattle.kc_script_bundle.specs.declared.operation.Command.{Command}
use Rattle.kc_xt.specs.Commit.{kept, run_on}
use Rattle.kc_xt.specs.Meaning.{Meaning, map_after, values}
use Rattle.kc_xt.specs.Program.{wrapped}
use Rattle.kc_history.specs.declared.record.Mark.TheVariants as mark
use Rattle.kc_history.proofs.Choice.{some_is}
use Rattle.kc_history.proofs.Ready.{no_some, same_or, more_same, more_other}
use Rattle.kc_history.specs.Order.{Legal, NoneLeft, one_record_more}
use Rattle.kc_history.specs.Records.{record_at, footprint_at}
use Rattle.kc_history.specs.declared.record.Place.{Place}
use Rattle.kc_history.specs.declared.record.Record.{Record}
use Rattle.kc_script_runs.proofs.Formed.{left_by, answered_reply}
use Rattle.kc_script_runs.proofs.Legals.{run_legal}
use Rattle.kc_script_runs.specs.Labels.{Label, label, labels, ThreadsHaveRecords}
use Rattle.kc_script_runs.specs.Run.{IsCommit, IsScriptRun, Replays, opening_store}
use Rattle.kc_script_runs.specs.Threads.{meanings, asked}
use Rattle.kc_script_storm.proofs.Adding.{Small, Adds, ended, ended_adds, small_wrapped}
use Rattle.kc_script_storm.proofs.Left.{left, left_step, left_none, left_all}
use Rattle.kc_script_storm.specs.State.{at_cell, command_adds, made_by, made_by_all, thread_after_thread}
use Rattle.kc_script_storm.specs.Summary.{all_ok, is_ok_command, commits, ok_commands}

-- ---- threads whose commands only add, whatever their numbers

abbrev pub AllAdd : List Command → Type 0
AllAdd [] = Unit {0}
AllAdd (c ∷ cs) = ((thread : ℕ) → Adds (asked MOST thread c) (command_adds c)) × AllAdd cs

abbrev pub ThreadsAdd : List (List Command) → Type 0
ThreadsAdd [] = Unit {0}
ThreadsAdd (cs ∷ threads) = AllAdd cs × ThreadsAdd threads

-- what each commit of a thread adds
abbrev pub sums_of : List Command → List (ℕ → ℕ)
sums_of cs = map command_adds cs ++ at_cell 0 4294967295 ∷ []

-- ---- one commit

module _ (m : Meaning) (adds : ℕ → ℕ) (h : Adds m adds) (s : Store) (r : Record) (commit : IsCommit m s r) where
  answered : answer.Reply h.reply ≡ r.answer
  answered = answered_reply h.reply r.answer (let e = commit.answers.run s commit.finds in rw (h.outcome (values s)) at e)

  commit_ok : all_ok r.answer ≡ true
  commit_ok = subst (λ (a : Answer). all_ok a ≡ true) answered h.ok

  commit_leaves : Small (values s) → (l : ℕ) → values (after r.footprint s) l ≡ wrapped (values s l + adds l)
  commit_leaves small l =
      ap (λ (f : ℕ → ℕ). f l) (left_by m s r commit)
      ∙ ap (λ (a : Answer). map_after (values s) (kept a (run_on m s).touches) l) (sym answered)
      ∙ h.leaves (values s) small l

  commit_small : Small (values s) → Small (values (after r.footprint s))
  commit_small small l = subst (λ (k : ℕ). k < 2 ^ 32) (sym (commit_leaves small l)) (small_wrapped (values s l + adds l))

-- ---- where a record stands, its meaning adds

record Found (fs : List (ℕ → ℕ)) (i : ℕ) (m : Meaning) : Type 0 where
  adds : ℕ → ℕ
  stands : slice_get fs i ≡ Some adds
  adding : Adds m adds

found_in : (thread : ℕ) (cs : List Command) → AllAdd cs → (i : ℕ) (m : Meaning) → slice_get (meanings MOST thread cs) i ≡ Some m → Found (sums_of cs) i m
found_in thread [] h zero m e = record { adds = at_cell 0 4294967295; stands = refl; adding = subst (λ (q : Meaning). Adds q (at_cell 0 4294967295)) (some_is ended m e) ended_adds }
found_in thread [] h (suc i) m e = absurd (cc)
found_in thread (c ∷ cs) h zero m e = record { adds = command_adds c; stands = refl; adding = subst (λ (q : Meaning). Adds q (command_adds c)) (some_is (asked MOST thread c) m e) (h.0 thread) }
found_in thread (c ∷ cs) h (suc i) m e = let r = found_in thread cs h.1 i m e in record { adds = r.adds; stands = r.stands; adding = r.adding }

found : (k : ℕ) (threads : List (List Command)) (records : List (List Record)) → ThreadsHaveRecords k threads records → ThreadsAdd threads → (t i thread : ℕ) (m : Meaning) (r : Record) → slice_get (meanings MOST thread (slice_index_or threads t [])) i ≡ Some m → record_at records t i ≡ Some r → Found (slice_index_or (map sums_of threads) t []) i m
found k [] [] are h t i thread m r means stands = absurd (no_some r stands)
found k [] (rs ∷ records) are h t i thread m r means stands = absurd are
found k (cs ∷ threads) [] are h t i thread m r means stands = absurd are
found k (cs ∷ threads) (rs ∷ records) are h zero i thread m r means stands = found_in thread cs h.0 i m means
found k (cs ∷ threads) (rs ∷ records) are h (suc t) i thread m r means stands = found (k + 1) threads records are.1 h.1 t i thread m r means stands

-- ---- each thread has as many records as sums

length_labels : (t k : ℕ) (cs : List Command) → length (labels t k cs) ≡ length cs + 1
length_labels t k [] = refl
length_labels t k (c ∷ cs) = let h = length_labels t (k + 1) cs in omega (arith, h)

length_map : {A B : Type 0} (f : A → B) (xs : List A) → length (map f xs) ≡ length xs
length_map f [] = refl
length_map f (x ∷ xs) = ap suc (length_map f xs)

length_sums : (cs : List Command) → length (sums_of cs) ≡ length cs + 1
length_sums [] = refl
length_sums (c ∷ cs) = let h = length_sums cs in omega (arith, h)

length_records : (t k : ℕ) (cs : List Command) (rs : List Record) → map label rs ≡ labels t k cs → length rs ≡ length cs + 1
length_records t k cs rs e = sym (length_map label rs) ∙ ap length e ∙ length_labels t k cs

same_lengths : (k : ℕ) (threads : List (List Command)) (records : List (List Record)) → ThreadsHaveRecords k threads records → (u : ℕ) → length (slice_index_or (map sums_of threads) u []) ≡ length (slice_index_or records u [])
same_lengths k [] [] are u = refl
same_lengths k [] (rs ∷ records) are u = absurd are
same_lengths k (cs ∷ threads) [] are u = absurd are
same_lengths k (cs ∷ threads) (rs ∷ records) are zero = length_sums cs ∙ sym (length_records k 1 cs rs are.0)
same_lengths k (cs ∷ threads) (rs ∷ records) are (suc u) = same_lengths (k + 1) threads records are.1 u

record_within : (rs : List Record) (k : ℕ) → k < length rs → (r : Record) × (slice_get rs k ≡ Some r)
record_within [] k lt = absurd (omega arith)
record_within (r ∷ rs) zero lt = (r, refl)
record_within (r ∷ rs) (suc k) lt = record_within rs k (omega arith)

lt_or_le : (a b : ℕ) → (a < b) ⊎ (b ≤ a)
lt_or_le a zero = inr (omega arith)
lt_or_le zero (suc b) = inl (omega arith)
lt_or_le (suc a) (suc b) = elim (lt_or_le a b) [ inl e ↦ inl (omega (arith, e)) | inr e ↦ inr (omega (arith, e)) ]

none_longer : (records : List (List Record)) (n : ℕ → ℕ) → NoneLeft (footprint_at records) n → (u : ℕ) → length (slice_index_or records u []) ≤ n u
none_longer records n none u = by (lt_or_le (n u) (length (slice_index_or records u [])))
  where
    by : (n u < length (slice_index_or records u [])) ⊎ (length (slice_index_or records u []) ≤ n u) → length (slice_index_or records u []) ≤ n u
    by (inl lt) = let w = record_within (slice_index_or records u []) (n u) lt in let over = none u (n u) w.0.footprint (ap (option_map (λ (q : Record). q.footprint)) w.1) in absurd (omega arith)
    by (inr le) = le

-- ---- in a legal order

module _ (threads : List (List Command)) (records : List (List Record)) (are : ThreadsHaveRecords 1 threads records) (adding : ThreadsAdd threads) where
  -- the last values are the first ones and all that is left
  last_values : (n : ℕ → ℕ) (s e a b : Store) (ps : List Place) → Legal (footprint_at records) n a ps b → Replays MOST threads records s ps e → Small (values s) → (l : ℕ) → values e l ≡ wrapped (values s l + left (λ (f : ℕ → ℕ). f l) (map sums_of threads) n)
  last_values n s e a b [] legal replays small l =
      let none : left (λ (f : ℕ → ℕ). f l) (map sums_of threads) n ≡ 0 = left_none (λ (f : ℕ → ℕ). f l) (map sums_of threads) n (λ u. let long = none_longer records n legal.0 u in let same = same_lengths 1 threads records are u in omega (arith, long, same)) in
      let plus : values s l ≡ values s l + left (λ (f : ℕ → ℕ). f l) (map sums_of threads) n = omega (arith, none) in
      ap (λ (t : Store). values t l) replays ∙ sym (mod-eq_of_lt (small l)) ∙ ap wrapped plus
  last_values n s e a b (p ∷ ps) (f, next, finds, rest) (m, r, means, stands, commit, more_of) small l =
      let w : (ℕ → ℕ) → ℕ = λ f. f l in
      let at = found 1 threads records are adding p.thread p.index (p.thread + 1) m r means stands in
      let step : left w (map sums_of threads) n ≡ at.adds l + left w (map sums_of threads) (one_record_more p.thread n) = left_step w (map sums_of threads) n p.thread at.adds (subst (λ (i : ℕ). slice_get (slice_index_or (map sums_of threads) p.thread []) i ≡ Some at.adds) next.0 at.stands) in
      let whole : values s l + at.adds l + left w (map sums_of threads) (one_record_more p.thread n) ≡ values s l + left w (map sums_of threads) n = omega (arith, step) in
      last_values (one_record_more p.thread n) (after r.footprint s) e (after f a) b ps rest more_of (commit_small m at.adds at.adding s r commit small) l
      ∙ ap (λ (k : ℕ). wrapped (k + left w (map sums_of threads) (one_record_more p.thread n))) (commit_leaves m at.adds at.adding s r commit small l)
      ∙ mod-add-mod (values s l + at.adds l) (2 ^ 32) (left w (map sums_of threads) (one_record_more p.thread n))
      ∙ ap wrapped whole

  -- each record that is left is answered `ok`
  records_ok : (n : ℕ → ℕ) (s e a b : Store) (ps : List Place) → Legal (footprint_at records) n a ps b → Replays MOST threads records s ps e → (u k : ℕ) (r : Record) → record_at records u k ≡ Some r → n u ≤ k → all_ok r.answer ≡ true
  records_ok n s e a b [] legal replays u k r stands le = let over = legal.0 u k r.footprint (ap (option_map (λ (q : Record). q.footprint)) stands) in absurd (omega arith)
  records_ok n s e a b (p ∷ ps) (f, next, finds, rest) (m, q, means, is, commit, more_of) u k r stands le =
      by (records_ok (one_record_more p.thread n) (after q.footprint s) e (after f a) b ps rest more_of u k r stands) (same_or u p.thread) (same_or k p.index)
    where
      here : u ≡ p.thread → k ≡ p.index → all_ok r.answer ≡ true
      here eu ek =
          let at = found 1 threads records are adding p.thread p.index (p.thread + 1) m q means is in
          let one : q ≡ r = some_is q r (sym is ∙ ap₂ (λ (i j : ℕ). record_at records i j) (sym eu) (sym ek) ∙ stands) in
          subst (λ (x : Record). all_ok x.answer ≡ true) one (commit_ok m at.adds at.adding s q commit)

      by : (one_record_more p.thread n u ≤ k → all_ok r.answer ≡ true) → (u ≡ p.thread) ⊎ (u ≢ p.thread) → (k ≡ p.index) ⊎ (k ≢ p.index) → all_ok r.answer ≡ true
      by later (inl eu) (inl ek) = here eu ek
      by later (inl eu) (inr nk) = later (let taken = more_same p.thread n u eu in let i = next.0 in let v : n u ≡ n p.thread = ap n eu in let less : n u ≢ k = λ e. nk (omega arith) in omega (arith, taken, le, less))
      by later (inr nu) ek = later (let taken = more_other p.thread n u nu in omega (arith, taken, le))

-- ---- what is counted

-- the mark of the first of some labels
first_mark : (t : ℕ) (k : ℕ) (r : Record) (rs : List Record) (cs : List Command) (c : Command) → map label (r ∷ rs) ≡ labels t k (c ∷ cs) → r.mark ≡ mark.Command k
first_mark t k r rs cs c e = let first : label r ≡ (let l : Label = record { thread = t; mark = mark.Command k } in l) = cc in ap (λ (l : Label). l.mark) first

later_labels : (t : ℕ) (k : ℕ) (r : Record) (rs : List Record) (cs : List Command) (c : Command) → map label (r ∷ rs) ≡ labels t k (c ∷ cs) → map label rs ≡ labels t (k + 1) cs
later_labels t k r rs cs c e = cc

end_counts : (t k : ℕ) (r : Record) → map label (r ∷ []) ≡ labels t k [] → count_by is_ok_command (r ∷ []) ≡ 0
end_counts t k r e =
    let first : label r ≡ (let l : Label = record { thread = t; mark = mark.End } in l) = cc in
    let is : r.mark ≡ mark.End = ap (λ (l : Label). l.mark) first in
    rw is refl

counts_in : (t k : ℕ) (cs : List Command) (rs : List Record) → map label rs ≡ labels t k cs → ((i : ℕ) (r : Record) → slice_get rs i ≡ Some r → all_ok r.answer ≡ true) → count_by is_ok_command rs ≡ length cs
counts_in t k [] [] e ok = refl
counts_in t k [] (r ∷ []) e ok = end_counts t k r e
counts_in t k [] (r ∷ q ∷ rs) e ok = absurd (cc)
counts_in t k (c ∷ cs) [] e ok = absurd (cc)
counts_in t k (c ∷ cs) (r ∷ rs) e ok =
    let is : is_ok_command r ≡ true = rw (first_mark t k r rs cs c e, ok 0 r refl) refl in
    let rest = counts_in t (k + 1) cs rs (later_labels t k r rs cs c e) (λ i q at. ok (suc i) q at) in
    let first = sum_by-cons (λ (x : Record). cond (is_ok_command x) 1 0) r rs in
    first ∙ rw is (omega (arith, rest))

counts_all : (k : ℕ) (threads : List (List Command)) (records : List (List Record)) → ThreadsHaveRecords k threads records → ((u i : ℕ) (r : Record) → record_at records u i ≡ Some r → all_ok r.answer ≡ true) → ok_commands records ≡ sum_by length threads
counts_all k [] [] are ok = refl
counts_all k [] (rs ∷ records) are ok = absurd are
counts_all k (cs ∷ threads) [] are ok = absurd are
counts_all k (cs ∷ threads) (rs ∷ records) are ok =
    let a = sum_by-cons (count_by is_ok_command) rs records in
    let b = sum_by-cons length cs threads in
    let first = counts_in k 1 cs rs are.0 (λ i r at. ok 0 i r at) in
    let rest = counts_all (k + 1) threads records are.1 (λ u i r at. ok (suc u) i r at) in
    omega (arith, a, b, first, rest)

commits_all : (k : ℕ) (threads : List (List Command)) (records : List (List Record)) → ThreadsHaveRecords k threads records → commits records ≡ sum_by (λ cs. length cs + 1) threads
commits_all k [] [] are = refl
commits_all k [] (rs ∷ records) are = absurd are
commits_all k (cs ∷ threads) [] are = absurd are
commits_all k (cs ∷ threads) (rs ∷ records) are =
    let a = sum_by-cons length rs records in
    let b = sum_by-cons (λ (xs : List Command). length xs + 1) cs threads in
    let first = length_records k 1 cs rs are.0 in
    let rest = commits_all (k + 1) threads records are.1 in
    omega (arith, a, b, first, rest)

-- ---- one thread after another

made_adds : (m : Meaning) (adds : ℕ → ℕ) → Adds m adds → (v : ℕ → ℕ) → Small v → (l : ℕ) → made_by m v l ≡ wrapped (v l + adds l)
made_adds m adds h v small l = rw (h.outcome v) (h.leaves v small l)

made_small : (m : Meaning) (adds : ℕ → ℕ) → Adds m adds → (v : ℕ → ℕ) → Small v → Small (made_by m v)
made_small m adds h v small l = subst (λ (k : ℕ). k < 2 ^ 32) (sym (made_adds m adds h v small l)) (small_wrapped (v l + adds l))

-- a thread's commits, one after another
thread_adds : (thread : ℕ) (cs : List Command) → AllAdd cs → (v : ℕ → ℕ) → Small v → Small (made_by_all (meanings MOST thread cs) v) × ((l : ℕ) → made_by_all (meanings MOST thread cs) v l ≡ wrapped (v l + sum_by (λ (f : ℕ → ℕ). f l) (sums_of cs)))
thread_adds thread [] h v small = (
  made_small ended (at_cell 0 4294967295) ended_adds v small,
  λ l. made_adds ended (at_cell 0 4294967295) ended_adds v small l ∙ ap (λ (k : ℕ). wrapped (v l + k)) (let e = sum_by-cons (λ (f : ℕ → ℕ). f l) (at_cell 0 4294967295) [] in omega (arith, e)),
)
thread_adds thread (c ∷ cs) h v small =
    let m = asked MOST thread c in
    let w = made_by m v in
    let rest = thread_adds thread cs h.1 w (made_small m (command_adds c) (h.0 thread) v small) in (
      rest.0,
      λ l.
          rest.1 l
          ∙ ap (λ (k : ℕ). wrapped (k + sum_by (λ (f : ℕ → ℕ). f l) (sums_of cs))) (made_adds m (command_adds c) (h.0 thread) v small l)
          ∙ mod-add-mod (v l + command_adds c l) (2 ^ 32) (sum_by (λ (f : ℕ → ℕ). f l) (sums_of cs))
          ∙ ap wrapped (let e = sum_by-cons (λ (f : ℕ → ℕ). f l) (command_adds c) (sums_of cs) in omega (arith, e)),
    )

pub threads_add : (thread : ℕ) (threads : List (List Command)) → ThreadsAdd threads → (v : ℕ → ℕ) → Small v → (l : ℕ) → thread_after_thread thread threads v l ≡ wrapped (v l + sum_by (λ fs. sum_by (λ (f : ℕ → ℕ). f l) fs) (map sums_of threads))
threads_add thread [] h v small l = let e : v l ≡ v l + 0 = omega arith in sym (mod-eq_of_lt (small l)) ∙ ap wrapped e
threads_add thread (cs ∷ threads) h v small l =
    let one = thread_adds thread cs h.0 v small in
    let w = made_by_all (meanings MOST thread cs) v in
    let w_sum = sum_by (λ (f : ℕ → ℕ). f l) (sums_of cs) in
    let rest = sum_by (λ fs. sum_by (λ (f : ℕ → ℕ). f l) fs) (map sums_of threads) in
    threads_add (thread + 1) threads h.1 w one.0 l
    ∙ ap (λ (k : ℕ). wrapped (k + rest)) (one.1 l)
    ∙ mod-add-mod (v l + w_sum) (2 ^ 32) rest
    ∙ ap wrapped (let e = sum_by-cons (λ fs. sum_by (λ (f : ℕ → ℕ). f l) fs) (sums_of cs) (map sums_of threads) in omega (arith, e))

-- ---- runs

module _ (script : Script) (records : List (List Record)) (order : List Place) (last : Store) (run : IsScriptRun script records order last) (adding : ThreadsAdd script.threads) (most : script.limit ≡ MOST) where
  replays : Replays MOST script.threads records (opening_store script) order last
  replays = subst (λ (n : ℕ). Replays n script.threads records (opening_store script) order last) most run.replays

  pub run_counts : (commits records ≡ sum_by (λ cs. length cs + 1) script.threads) × (ok_commands records ≡ sum_by length script.threads)
  run_counts = (
    commits_all 1 script.threads records run.threads,
    counts_all 1 script.threads records run.threads (λ u i r at. records_ok script.threads records run.threads adding (λ _. 0) (opening_store script) last (opening_store script) last order (run_legal script records order last run) replays u i r at (omega arith)),
  )

  -- whatever the order, the values are those of one thread after another
  pub run_values : Small (values (opening_store script)) → values last ≡ thread_after_thread 1 script.threads (values (opening_store script))
  run_values small = fun_ext (λ l.
      let w : (ℕ → ℕ) → ℕ = λ f. f l in
      last_values script.threads records run.threads adding (λ _. 0) (opening_store script) last (opening_store script) last order (run_legal script records order last run) replays small l
      ∙ ap (λ (k : ℕ). wrapped (values (opening_store script) l + k)) (left_all w (map sums_of script.threads))
      ∙ sym (threads_add 1 script.threads adding (values (opening_store script)) small l))
