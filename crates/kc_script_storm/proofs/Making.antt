-- A thread's commands, one after another, and the threads.
use Rattle.std.proofs.Common.{◌≡◌, ℕ, zero, suc, ◌+◌, ◌-◌, ◌<◌, ◌≤◌, List, [], ◌∷◌, ◌++◌, take, map, refl, sym, ap, ◌∙◌, append_assoc, arith}
use Rattle.std.specs.Global.{Vec}
use Rattle.std.proofs.lemmas.List.{append-nil, map-append, take_all}
use Rattle.kc_script_bundle.specs.declared.operation.Command.{Command}
use Rattle.kc_script_storm.specs.Storm.{next_draw, drawn_command, drawn_commands, storm_thread, storm_script}

-- one more command was added
pub drawn_next : (thread k s : ℕ) (made more total : List Command) (c : Command) → k < 2000 → made ++ drawn_commands thread (2000 - k) s ≡ total → more ≡ made ++ c ∷ [] → c ≡ drawn_command thread (next_draw s) → more ++ drawn_commands thread (2000 - (k + 1)) (next_draw s) ≡ total
unfolding drawn_commands
drawn_next thread k s made more total c lt so_far e is =
    let rest : 2000 - k ≡ suc (2000 - (k + 1)) = omega arith in
    ap (λ (xs : List Command). xs ++ drawn_commands thread (2000 - (k + 1)) (next_draw s)) e
    ∙ append_assoc made (c ∷ []) (drawn_commands thread (2000 - (k + 1)) (next_draw s))
    ∙ ap (λ (d : Command). made ++ d ∷ drawn_commands thread (2000 - (k + 1)) (next_draw s)) is
    ∙ rw rest at so_far

-- all were added
pub drawn_all : (thread k s : ℕ) (made total : List Command) → 2000 ≤ k → made ++ drawn_commands thread (2000 - k) s ≡ total → made ≡ total
unfolding drawn_commands
drawn_all thread k s made total le so_far =
    let rest : 2000 - k ≡ 0 = omega arith in
    sym (append-nil made) ∙ rw rest at so_far

-- one more thread
pub thread_next : (n t : ℕ) → 1 ≤ t → t < 5 → take (t - 1) (storm_script n).threads ++ storm_thread n t ∷ [] ≡ take t (storm_script n).threads
thread_next n zero some few = absurd (omega arith)
thread_next n (suc zero) some few = refl
thread_next n (suc (suc zero)) some few = refl
thread_next n (suc (suc (suc zero))) some few = refl
thread_next n (suc (suc (suc (suc zero)))) some few = refl
thread_next n (suc (suc (suc (suc (suc t))))) some few = absurd (omega arith)

pub threads_next : (n t : ℕ) (made more : List (Vec Command)) (v : Vec Command) → 1 ≤ t → t < 5 → map (λ (x : Vec Command). x.items) made ≡ take (t - 1) (storm_script n).threads → more ≡ made ++ v ∷ [] → v.items ≡ storm_thread n t → map (λ (x : Vec Command). x.items) more ≡ take (t + 1 - 1) (storm_script n).threads
threads_next n t made more v some few so_far e is =
    let i : Vec Command → List Command = λ x. x.items in
    let k : t + 1 - 1 ≡ t = omega arith in
    ap (map i) e ∙ map-append i made (v ∷ []) ∙ ap (λ (xs : List (List Command)). xs ++ v.items ∷ []) so_far ∙ ap (λ (c : List Command). take (t - 1) (storm_script n).threads ++ c ∷ []) is ∙ thread_next n t some few ∙ ap (λ (j : ℕ). take j (storm_script n).threads) (sym k)

-- all four
pub threads_all : (n t : ℕ) (made : List (Vec Command)) → 5 ≤ t → map (λ (x : Vec Command). x.items) made ≡ take (t - 1) (storm_script n).threads → map (λ (x : Vec Command). x.items) made ≡ (storm_script n).threads
threads_all n t made le so_far = so_far ∙ take_all (t - 1) (storm_script n).threads (omega (arith, le))
