-- The commands of a storm only add.
use Rattle.std.proofs.Common.{◌≡◌, ℕ, zero, suc, ◌+◌, ◌-◌, ◌*◌, ◌^◌, ◌<◌, ◌≤◌, List, [], ◌∷◌, length, map, sum_by, refl, sym, ap, ◌∙◌, arith, lit<}
use Rattle.std.proofs.lemmas.Bool.Decides.{nat_tests}
use Rattle.std.proofs.lemmas.List.Sums.{sum_by-cons}
use Rattle.kc_history.specs.declared.record.Place.{Place}
use Rattle.kc_history.specs.declared.record.Record.{Record}
use Rattle.kc_model.specs.Store.{Store, store_of, opened}
use Rattle.kc_script_bundle.proofs.Standing.{all_show}
use Rattle.kc_script_bundle.specs.Meaning.{thread_meaning}
use Rattle.kc_script_bundle.specs.State.{state_lines, state_text, opening_values}
use Rattle.kc_script_bundle.specs.declared.operation.Command.{Command}
use Rattle.kc_script_runs.specs.Run.{IsScriptRun, opening_store}
use Rattle.kc_script_storm.proofs.Adding.{Small, Adds, modify_adds, incr_adds, bump_adds, both_adds, asked_adds}
use Rattle.kc_script_storm.proofs.Ordered.{AllAdd, ThreadsAdd, sums_of, run_counts, run_values, threads_add}
use Rattle.kc_script_storm.specs.State.{at_cell, command_adds, all_adds, storm_state}
use Rattle.kc_script_storm.specs.Storm.{accumulator, first_place, other_place, amount, kind, high, next_draw, storm_command, drawn_commands, storm_thread, storm_script, storm_objects}
use Rattle.kc_script_storm.specs.Summary.{commits, ok_commands, summary_lines, summary_text, IsSummary}
use Rattle.kc_xt.specs.Meaning.{values}
use Rattle.kc_xt.specs.Program.{wrapped}

-- ---- its threads

drawn_adds : (number thread x k : ℕ) → Adds (thread_meaning 0 number (storm_command thread x k)) (command_adds (storm_command thread x k))
drawn_adds number thread x zero = modify_adds number (first_place x + 1) (amount x)
drawn_adds number thread x (suc zero) = bump_adds number accumulator (thread - 1) (amount x)
drawn_adds number thread x (suc (suc zero)) = both_adds number (first_place x + 1) (amount x) (other_place x + 1) (2 ^ 32 - amount x)
drawn_adds number thread x (suc (suc (suc k))) = incr_adds number (first_place x + 1)

commands_add : (thread count s : ℕ) → AllAdd (drawn_commands thread count s)
unfolding drawn_commands
commands_add thread zero s = tt
commands_add thread (suc count) s = (λ number. asked_adds number (storm_command thread (high (next_draw s)) (kind (high (next_draw s)))) _ (drawn_adds number thread (high (next_draw s)) (kind (high (next_draw s)))), commands_add thread count (next_draw s))

pub length-commands : (thread count s : ℕ) → length (drawn_commands thread count s) ≡ count
unfolding drawn_commands
length-commands thread zero s = refl
length-commands thread (suc count) s = ap suc (length-commands thread count (next_draw s))

storm_adds : (n : ℕ) → ThreadsAdd (storm_script n).threads
storm_adds n = (commands_add 1 2000 _, (commands_add 2 2000 _, (commands_add 3 2000 _, (commands_add 4 2000 _, tt))))

-- ---- its opening

abbrev AllSmall : List ℕ → Type 0
AllSmall [] = Unit {0}
AllSmall (v ∷ vs) = (v < 2 ^ 32) × AllSmall vs

opened_small : (vs : List ℕ) → AllSmall vs → Small (values (store_of (opened vs)))
opened_small [] h l = lit< tt
opened_small (v ∷ vs) h zero = h.0
opened_small (v ∷ vs) h (suc l) = opened_small vs h.1 l

storm_opens : (n : ℕ) → Small (values (opening_store (storm_script n)))
storm_opens n = opened_small (opening_values (storm_script n)) (let z : 0 < 2 ^ 32 = lit< tt in (lit< tt, (z, (z, (z, (z, (z, (z, (z, (z, (z, (z, (z, (z, tt))))))))))))))

-- ---- its runs

four : (f : List Command → ℕ) (k : ℕ) (a b c d : List Command) → f a ≡ k → f b ≡ k → f c ≡ k → f d ≡ k → sum_by f (a ∷ b ∷ c ∷ d ∷ []) ≡ 4 * k
four f k a b c d ea eb ec ed =
    let s1 = sum_by-cons f a (b ∷ c ∷ d ∷ []) in
    let s2 = sum_by-cons f b (c ∷ d ∷ []) in
    let s3 = sum_by-cons f c (d ∷ []) in
    let s4 = sum_by-cons f d [] in
    omega (arith, s1, s2, s3, s4, ea, eb, ec, ed)

longer : (thread s : ℕ) → length (drawn_commands thread 2000 s) + 1 ≡ 2001
longer thread s = ap (λ (k : ℕ). k + 1) (length-commands thread 2000 s)

module _ (n : ℕ) (records : List (List Record)) (order : List Place) (last : Store) (run : IsScriptRun (storm_script n) records order last) where
  pub storm_commits : commits records ≡ 8004
  storm_commits = (run_counts (storm_script n) records order last run (storm_adds n) refl).0 ∙ four (λ cs. length cs + 1) 2001 (storm_thread n 1) (storm_thread n 2) (storm_thread n 3) (storm_thread n 4) (longer 1 _) (longer 2 _) (longer 3 _) (longer 4 _)

  pub storm_oks : ok_commands records ≡ 8000
  storm_oks = (run_counts (storm_script n) records order last run (storm_adds n) refl).1 ∙ four length 2000 (storm_thread n 1) (storm_thread n 2) (storm_thread n 3) (storm_thread n 4) (length-commands 1 2000 _) (length-commands 2 2000 _) (length-commands 3 2000 _) (length-commands 4 2000 _)

  pub storm_values : values last ≡ storm_state n
  storm_values = run_values (storm_script n) records order last run (storm_adds n) refl (storm_opens n)

pub summary_is : (n : ℕ) (records : List (List Record)) (text : List ℕ) → IsSummary n records text → text ≡ summary_text n
summary_is n records text s =
    let state : state_lines storm_objects s.contents ≡ state_text storm_objects (storm_state n) = sym (all_show storm_objects (values s.last) s.contents s.stand) ∙ ap (state_text storm_objects) (storm_values n records s.order s.last s.run) in
    s.spelled ∙ ap (λ (k : ℕ). summary_lines n k (ok_commands records) (state_lines storm_objects s.contents)) (storm_commits n records s.order s.last s.run)
    ∙ ap (λ (k : ℕ). summary_lines n 8004 k (state_lines storm_objects s.contents)) (storm_oks n records s.order s.last s.run)
    ∙ ap (summary_lines n 8004 8000) state

-- ---- the sums

-- where a location above 0 is meant, a thread's end adds nothing
thread_sum : (cs : List Command) (l : ℕ) → 1 ≤ l → sum_by (λ (f : ℕ → ℕ). f l) (sums_of cs) ≡ sum_by (λ c. command_adds c l) cs
thread_sum [] l le =
    let none : at_cell 0 4294967295 l ≡ 0 = grind (arith, nat_tests, le) in
    let one = sum_by-cons (λ (f : ℕ → ℕ). f l) (at_cell 0 4294967295) [] in
    omega (arith, one, none)
thread_sum (c ∷ cs) l le =
    let a = sum_by-cons (λ (f : ℕ → ℕ). f l) (command_adds c) (sums_of cs) in
    let b = sum_by-cons (λ (x : Command). command_adds x l) c cs in
    let rest = thread_sum cs l le in
    omega (arith, a, b, rest)

threads_sum : (threads : List (List Command)) (l : ℕ) → 1 ≤ l → sum_by (λ fs. sum_by (λ (f : ℕ → ℕ). f l) fs) (map sums_of threads) ≡ all_adds threads l
threads_sum [] l le = refl
threads_sum (cs ∷ threads) l le =
    let a = sum_by-cons (λ fs. sum_by (λ (f : ℕ → ℕ). f l) fs) (sums_of cs) (map sums_of threads) in
    let b = sum_by-cons (λ xs. sum_by (λ c. command_adds c l) xs) cs threads in
    let first = thread_sum cs l le in
    let rest = threads_sum threads l le in
    omega (arith, a, b, first, rest)

abbrev AllZero : List ℕ → Type 0
AllZero [] = Unit {0}
AllZero (v ∷ vs) = (v ≡ 0) × AllZero vs

opened_zeros : (vs : List ℕ) → AllZero vs → (l : ℕ) → values (store_of (opened vs)) l ≡ 0
opened_zeros [] h l = refl
opened_zeros (v ∷ vs) h zero = h.0
opened_zeros (v ∷ vs) h (suc l) = opened_zeros vs h.1 l

opens_zero : (n l : ℕ) → 1 ≤ l → values (opening_store (storm_script n)) l ≡ 0
opens_zero n zero le = absurd (omega arith)
opens_zero n (suc l) le = opened_zeros (0 ∷ 0 ∷ 0 ∷ 0 ∷ 0 ∷ 0 ∷ 0 ∷ 0 ∷ 0 ∷ 0 ∷ 0 ∷ 0 ∷ []) (refl, (refl, (refl, (refl, (refl, (refl, (refl, (refl, (refl, (refl, (refl, (refl, tt)))))))))))) l

pub state_is_sum : (n l : ℕ) → 1 ≤ l → storm_state n l ≡ wrapped (all_adds (storm_script n).threads l)
state_is_sum n l le =
    threads_add 1 (storm_script n).threads (storm_adds n) (values (opening_store (storm_script n))) (storm_opens n) l
    ∙ ap wrapped (let a = opens_zero n l le in let b = threads_sum (storm_script n).threads l le in omega (arith, a, b))
