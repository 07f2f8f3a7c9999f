-- Room for the replies of threads, and lists that are filled where they lie.
use Rattle.std.proofs.Common.{◌≡◌, ℕ, zero, suc, ◌+◌, ◌<◌, ◌≤◌, List, [], ◌∷◌, ◌++◌, take, drop, get_or, length, refl, sym, ap, subst, ◌∙◌, arith, Vec, vec_capacity}
use Rattle.std.proofs.Math.ListN.{set}
use Rattle.std.proofs.lemmas.List.{take_more, take_more_set, take_all, drop-set-lt}
use Rattle.std.specs.Global.{Global}
use Rattle.kc_script_bundle.specs.declared.operation.Command.{Command}
use Rattle.kc_check.proofs.Parted.{ReadTo, read_more, read_whole}
use Rattle.kc_check.specs.Forms.{AllReplies, GoesOverLines, flat, replies_shapes, thread_shapes}
use Rattle.kc_check.specs.Reads.{HaveSpace}
use Rattle.kc_check.specs.Replays.{commands_of}
use Rattle.kc_check.specs.Walks.{lines_at, lines_in}

-- ---- as it is taken

space_push : (ts : List (List Command)) (vs : List (Vec ℕ Global)) (cs : List Command) (v : Vec ℕ Global) → HaveSpace ts vs → v.items ≡ [] → length cs ≤ vec_capacity v → HaveSpace (ts ++ cs ∷ []) (vs ++ v ∷ [])
space_push [] [] cs v h e le = (e, le, tt)
space_push [] (w ∷ vs) cs v h e le = absurd h
space_push (t ∷ ts) [] cs v h e le = absurd h
space_push (t ∷ ts) (w ∷ vs) cs v h e le = (h.0, h.1, space_push ts vs cs v h.2 e le)

pub space_next : (threads : List (Vec Command Global)) (i n : ℕ) (c : Vec Command Global) (v : Vec ℕ Global) (vs others : List (Vec ℕ Global)) → i < length threads → c ≡ get_or threads i c → n ≡ length c.items → HaveSpace (commands_of (take i threads)) vs → v.items ≡ [] → n ≤ vec_capacity v → others ≡ vs ++ v ∷ [] → HaveSpace (commands_of (take (i + 1) threads)) others
space_next threads i n c v vs others lt at long h e le pushed =
    let few : length c.items ≤ vec_capacity v = omega (arith, long, le) in
    let taken : commands_of (take i threads) ++ c.items ∷ [] ≡ commands_of (take (i + 1) threads) = sym (ap commands_of (take_more threads i c lt) ∙ mapped (take i threads) (get_or threads i c) ∙ ap (λ (w : Vec Command Global). commands_of (take i threads) ++ w.items ∷ []) (sym at)) in
    subst (HaveSpace (commands_of (take (i + 1) threads))) (sym pushed) (subst (λ (ts : List (List Command)). HaveSpace ts (vs ++ v ∷ [])) taken (space_push (commands_of (take i threads)) vs c.items v h e few))
  where
    mapped : (xs : List (Vec Command Global)) (x : Vec Command Global) → commands_of (xs ++ x ∷ []) ≡ commands_of xs ++ x.items ∷ []
    mapped [] x = refl
    mapped (y ∷ xs) x = ap (λ (zs : List (List Command)). y.items ∷ zs) (mapped xs x)

-- ---- as it is filled

pub space_long : (ts : List (List Command)) (vs : List (Vec ℕ Global)) → HaveSpace ts vs → length vs ≡ length ts
space_long [] [] h = refl
space_long [] (v ∷ vs) h = absurd h
space_long (t ∷ ts) [] h = absurd h
space_long (t ∷ ts) (v ∷ vs) h = ap suc (space_long ts vs h.2)

no_space : (t : ℕ) (threads : List (Vec Command Global)) → t < length threads → HaveSpace (drop t (commands_of threads)) [] → ⊥
no_space t [] lt h = absurd (omega arith)
no_space zero (c ∷ threads) lt h = h
no_space (suc t) (c ∷ threads) lt h = no_space t threads (omega arith) h

-- the list of a thread, and those behind it
space_front : (t : ℕ) (threads : List (Vec Command Global)) (vs : List (Vec ℕ Global)) (c : Vec Command Global) (v : Vec ℕ Global) → t < length threads → HaveSpace (drop t (commands_of threads)) (drop t vs) → ((get_or vs t v).items ≡ []) × (length (get_or threads t c).items ≤ vec_capacity (get_or vs t v)) × HaveSpace (drop (suc t) (commands_of threads)) (drop (suc t) vs)
space_front t [] vs c v lt h = absurd (omega arith)
space_front zero (x ∷ threads) [] c v lt h = absurd h
space_front zero (x ∷ threads) (w ∷ vs) c v lt h = h
space_front (suc t) (x ∷ threads) [] c v lt h = absurd (no_space t threads (omega arith) h)
space_front (suc t) (x ∷ threads) (w ∷ vs) c v lt h = space_front t threads vs c v (omega arith) h

-- a thread's replies are read into their list
pub filled_more : (whole : List ℕ) (threads : List (Vec Command Global)) (t k : ℕ) (c : Vec Command Global) (text : List ℕ) (n : ℕ) (vs : List (Vec ℕ Global)) (lines : Vec ℕ Global) (rest : List ℕ) (m : ℕ) (next : List ℕ) (o : ℕ) → t < length threads → t < length vs → c ≡ get_or threads t c → k ≡ length c.items → ReadTo threads t text n (lines_in whole (take t vs)) rest m
    → ((threads : List (List Command)) → GoesOverLines threads (thread_shapes (t + 1) 1 k) rest m (lines_at whole lines.items) next o) → ReadTo threads (t + 1) text n (lines_in whole (take (t + 1) (set vs t lines))) next o
filled_more whole threads t k c text n vs lines rest m next o lt within at long read goes = read_more whole threads t k c text n (take t vs) (take (t + 1) (set vs t lines)) lines rest m next o lt at long read goes (take_more_set vs t lines within)

pub space_here : (t k : ℕ) (threads : List (Vec Command Global)) (vs : List (Vec ℕ Global)) (c : Vec Command Global) (v : Vec ℕ Global) → t < length threads → HaveSpace (drop t (commands_of threads)) (drop t vs) → c ≡ get_or threads t c → k ≡ length c.items → ((get_or vs t v).items ≡ []) × (k ≤ vec_capacity (get_or vs t v))
space_here t k threads vs c v lt h at long =
    let f = space_front t threads vs c v lt h in
    (f.0, let a = f.1 in let b = ap (λ (w : Vec Command Global). length w.items) at in omega (arith, a, b, long))

pub space_behind : (t : ℕ) (threads : List (Vec Command Global)) (vs : List (Vec ℕ Global)) (c : Vec Command Global) (v lines : Vec ℕ Global) → t < length threads → HaveSpace (drop t (commands_of threads)) (drop t vs) → HaveSpace (drop (t + 1) (commands_of threads)) (drop (t + 1) (set vs t lines))
space_behind t threads vs c v lines lt h =
    let one : suc t ≡ t + 1 = omega arith in
    subst (HaveSpace (drop (t + 1) (commands_of threads))) (sym (drop-set-lt (t + 1) vs t lines (omega arith))) (subst (λ (i : ℕ). HaveSpace (drop i (commands_of threads)) (drop i vs)) one (space_front t threads vs c v lt h).2)

-- all of them
pub filled_whole : (whole : List ℕ) (threads : List (Vec Command Global)) (t : ℕ) (text : List ℕ) (n : ℕ) (vs : List (Vec ℕ Global)) (rest : List ℕ) (m : ℕ) → length threads ≤ t → length vs ≡ length threads → ReadTo threads t text n (lines_in whole (take t vs)) rest m → GoesOverLines (commands_of threads) (replies_shapes 1 (commands_of threads)) text n (flat (lines_in whole vs)) rest m × AllReplies 1 (commands_of threads) (lines_in whole vs)
filled_whole whole threads t text n vs rest m le long read =
    let all : lines_in whole (take t vs) ≡ lines_in whole vs = ap (lines_in whole) (take_all t vs (omega (arith, le, long))) in
    read_whole threads t text n (lines_in whole vs) rest m le (subst (λ (ls : List (List (List ℕ))). ReadTo threads t text n ls rest m) all read)

pub commands_many : (threads : List (Vec Command Global)) → length (commands_of threads) ≡ length threads
commands_many [] = refl
commands_many (c ∷ threads) = ap suc (commands_many threads)
