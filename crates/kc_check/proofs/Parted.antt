-- The lines of a text's parts, one part after another.
use Rattle.std.proofs.Common.{Bool, true, false, not, ◌≡◌, ◌≢◌, inl, inr, ℕ, zero, suc, ◌+◌, ◌-◌, ◌^◌, ◌<◌, ◌≤◌, List, [], ◌∷◌, ◌++◌, map, take, drop, All, get_or, length, refl, sym, ap, ap₂, subst, ◌∙◌, append_assoc, arith, slice_index_or, Vec}
use Rattle.std.proofs.lemmas.List.{append-nil, take_more, take_all, length-map}
use Rattle.std.specs.Global.{Global}
use Rattle.std.proofs.lemmas.Bool.Decides.{Decides-eqb}
use Rattle.std.proofs.lemmas.Slice.Eq.{slice_eq-Decides}
use Rattle.std.specs.Borrow.{Bor}
use Rattle.std.specs.Cmp.Lexicographic.{pointwise}
use Rattle.std.specs.Prelude.{nat_eq, codes, replicate}
use Rattle.kc_history.specs.declared.record.Place.{Place}
use Rattle.kc_script_bundle.specs.Script.{Names as Objects, Script}
use Rattle.kc_script_bundle.specs.declared.object.Object.{Object}
use Rattle.kc_script_bundle.specs.declared.operation.Command.{Command}
use Rattle.kc_check.proofs.Forming.{goes_fails, goes_more, goes_none, lacks_by_test}
use Rattle.kc_check.proofs.Walks.{parted, took}
use Rattle.kc_check.specs.Forms.{AllReplies, AreHeld, AreReplies, AreShaped, FailsAt, GoesOverLines, HasShape, IsFormed, IsReply, LacksLine, Shape, flat, holds, just, place, replies_shapes, thread_shapes}
use Rattle.kc_check.specs.Laid.{AreFew, IsLine}
use Rattle.kc_check.specs.Parts.{IsThreadPlace, joined_lines, place_text, places_in, places_text, replies_text}
use Rattle.kc_check.specs.Reads.{FailsForm, FailsHowever, FailsSo, LacksHere, LacksReply}
use Rattle.kc_check.specs.Replays.{commands_of}
use Rattle.kc_check.specs.Walks.{lines_at, lines_in, now_of}
use Rattle.kc_check.specs.declared.error.CheckError.{CheckError}
use Rattle.kc_check.specs.declared.error.CheckError.TheVariants as error
use Rattle.kc_check.specs.declared.error.CheckWhy.TheVariants as why

-- ---- a part behind another

module _ (threads : List (List Command)) where
  pub joined_append : (ls ms : List (List ℕ)) → joined_lines (ls ++ ms) ≡ joined_lines ls ++ joined_lines ms
  joined_append [] ms = refl
  joined_append (l ∷ ls) ms = ap (λ (xs : List ℕ). l ++ xs) (joined_append ls ms) ∙ sym (append_assoc l (joined_lines ls) (joined_lines ms))

  pub shaped_append : (ks js : List Shape) (ls ms : List (List ℕ)) → AreShaped threads ks ls → AreShaped threads js ms → AreShaped threads (ks ++ js) (ls ++ ms)
  shaped_append [] js [] ms h k = k
  shaped_append [] js (l ∷ ls) ms h k = absurd h
  shaped_append (x ∷ ks) js [] ms h k = absurd h
  shaped_append (x ∷ ks) js (l ∷ ls) ms h k = (h.0, shaped_append ks js ls ms h.1 k)

  long_append : (ls ms : List (List ℕ)) → length (ls ++ ms) ≡ length ls + length ms
  long_append [] ms = omega arith
  long_append (l ∷ ls) ms = let h = long_append ls ms in omega (arith, h)

  pub goes_on : (ks js : List Shape) (text : List ℕ) (n : ℕ) (ls ms : List (List ℕ)) (rest : List ℕ) (m : ℕ) (last : List ℕ) (o : ℕ) → GoesOverLines threads ks text n ls rest m → GoesOverLines threads js rest m ms last o → GoesOverLines threads (ks ++ js) text n (ls ++ ms) last o
  goes_on ks js text n ls ms rest m last o g h = record {
    shaped = shaped_append ks js ls ms g.shaped h.shaped;
    spelled = g.spelled ∙ ap (λ (xs : List ℕ). joined_lines ls ++ xs) h.spelled ∙ sym (append_assoc (joined_lines ls) (joined_lines ms) last) ∙ ap (λ (xs : List ℕ). xs ++ last) (sym (joined_append ls ms));
    number = (let a = g.number in let b = h.number in let c = long_append ls ms in omega (arith, a, b, c));
  }

  -- one line
  pub goes_one : (k : Shape) (text : List ℕ) (n : ℕ) (l rest : List ℕ) (m : ℕ) → HasShape threads k l → text ≡ l ++ rest → m ≡ n + 1 → GoesOverLines threads (k ∷ []) text n (l ∷ []) rest m
  goes_one k text n l rest m s e f = goes_more threads [] k text n [] text n l rest m (goes_none threads text n) s e f

  -- what fails behind a part fails behind both
  pub however_on : (ks js : List Shape) (text : List ℕ) (n : ℕ) (ls : List (List ℕ)) (rest : List ℕ) (m : ℕ) (e : CheckError) → GoesOverLines threads ks text n ls rest m → FailsHowever threads js rest m e → FailsHowever threads (ks ++ js) text n e
  however_on ks js text n ls rest m (error.Fault line why.Form) g h = λ more. subst (λ (xs : List Shape). FailsAt threads xs text n line) (sym (append_assoc ks js more)) (goes_fails threads ks (js ++ more) text n ls rest m line g (h more))
  however_on ks js text n ls rest m (error.Fault line why.Turn) g h = absurd h
  however_on ks js text n ls rest m (error.Fault line why.Waits) g h = absurd h
  however_on ks js text n ls rest m (error.Fault line why.Reply) g h = absurd h
  however_on ks js text n ls rest m (error.Fault line why.Order) g h = absurd h
  however_on ks js text n ls rest m (error.Fault line why.State) g h = absurd h
  however_on ks js text n ls rest m error.NoMemory g h = absurd h

  -- what fails fails whatever is to follow
  pub however_more : (ks more : List Shape) (text : List ℕ) (n : ℕ) (e : CheckError) → FailsHowever threads ks text n e → FailsHowever threads (ks ++ more) text n e
  however_more ks more text n (error.Fault line why.Form) h = λ then. subst (λ (xs : List Shape). FailsAt threads xs text n line) (sym (append_assoc ks more then)) (h (more ++ then))
  however_more ks more text n (error.Fault line why.Turn) h = absurd h
  however_more ks more text n (error.Fault line why.Waits) h = absurd h
  however_more ks more text n (error.Fault line why.Reply) h = absurd h
  however_more ks more text n (error.Fault line why.Order) h = absurd h
  however_more ks more text n (error.Fault line why.State) h = absurd h
  however_more ks more text n error.NoMemory h = absurd h

  -- one line that is lacking
  pub lacks_one : (k : Shape) (text : List ℕ) (n : ℕ) (e : CheckError) → LacksHere threads k text n e → FailsHowever threads (k ∷ []) text n e
  lacks_one k text n (error.Fault line why.Form) h = λ more. inl (h.0, h.1)
  lacks_one k text n (error.Fault line why.Turn) h = absurd h
  lacks_one k text n (error.Fault line why.Waits) h = absurd h
  lacks_one k text n (error.Fault line why.Reply) h = absurd h
  lacks_one k text n (error.Fault line why.Order) h = absurd h
  lacks_one k text n (error.Fault line why.State) h = absurd h
  lacks_one k text n error.NoMemory h = absurd h

pub lacks_fault : (threads : List (List Command)) (k : Shape) (text : List ℕ) (n : ℕ) (e : CheckError) → e ≡ error.Fault n why.Form → LacksLine threads k text → LacksHere threads k text n e
lacks_fault threads k text n e is lacks = subst (LacksHere threads k text n) (sym is) (lacks, refl)

pub reply_fault : (thread number : ℕ) (text : List ℕ) (n : ℕ) (e : CheckError) → e ≡ error.Fault n why.Form → ((first rest : List ℕ) → IsReply thread number first → text ≢ first ++ rest) → LacksReply thread number text n e
reply_fault thread number text n e is lacks = subst (LacksReply thread number text n) (sym is) (lacks, refl)

-- threads that are not too many
pub few_of : (vs : List (Vec Command Global)) → length vs ≤ 16 → All (λ (v : Vec Command Global). length v.items ≤ 4096) vs → AreFew (commands_of vs)
few_of vs few short = record {
  threads_few = (let e = length-map vs (λ (v : Vec Command Global). v.items) in omega (arith, e, few));
  commands_few = λ t. at vs t short;
}
  where
    at : (vs : List (Vec Command Global)) (t : ℕ) → All (λ (v : Vec Command Global). length v.items ≤ 4096) vs → length (slice_index_or (commands_of vs) t []) + 1 < 2 ^ 64
    at [] t h = omega arith
    at (v ∷ vs) zero h = let le = h zero v (omega arith) in omega arith
    at (v ∷ vs) (suc t) h = at vs t (λ i d lt. h (suc i) d (omega arith))

-- what has no thread in its shape
pub lacks_any : (threads : List (List Command)) (name text : List ℕ) (n : ℕ) (e : CheckError) → LacksHere [] (holds name) text n e → LacksHere threads (holds name) text n e
lacks_any threads name text n (error.Fault line why.Form) h = h
lacks_any threads name text n (error.Fault line why.Turn) h = absurd h
lacks_any threads name text n (error.Fault line why.Waits) h = absurd h
lacks_any threads name text n (error.Fault line why.Reply) h = absurd h
lacks_any threads name text n (error.Fault line why.Order) h = absurd h
lacks_any threads name text n (error.Fault line why.State) h = absurd h
lacks_any threads name text n error.NoMemory h = absurd h

pub lacks_just : (threads : List (List Command)) (bytes text : List ℕ) (n : ℕ) (e : CheckError) → LacksHere [] (just bytes) text n e → LacksHere threads (just bytes) text n e
lacks_just threads bytes text n (error.Fault line why.Form) h = h
lacks_just threads bytes text n (error.Fault line why.Turn) h = absurd h
lacks_just threads bytes text n (error.Fault line why.Waits) h = absurd h
lacks_just threads bytes text n (error.Fault line why.Reply) h = absurd h
lacks_just threads bytes text n (error.Fault line why.Order) h = absurd h
lacks_just threads bytes text n (error.Fault line why.State) h = absurd h
lacks_just threads bytes text n error.NoMemory h = absurd h

-- ---- the replies of all threads

replies_front : (j : ℕ) (front : List (List Command)) (cs : List Command) (back : List (List Command)) → replies_shapes j (front ++ cs ∷ back) ≡ (replies_shapes j front ++ thread_shapes (j + length front) 1 (length cs)) ++ replies_shapes (j + length front + 1) back
replies_front j [] cs back = ap (λ (k : ℕ). thread_shapes k 1 (length cs) ++ replies_shapes (k + 1) back) (let e : j ≡ j + 0 = omega arith in e)
replies_front j (x ∷ front) cs back =
    let e : j + 1 + length front ≡ j + length (x ∷ front) = omega arith in
    ap (λ (ks : List Shape). thread_shapes j 1 (length x) ++ ks) (replies_front (j + 1) front cs back ∙ ap (λ (k : ℕ). (replies_shapes (j + 1) front ++ thread_shapes k 1 (length cs)) ++ replies_shapes (k + 1) back) e)
    ∙ regroup (thread_shapes j 1 (length x)) (replies_shapes (j + 1) front) (thread_shapes (j + length (x ∷ front)) 1 (length cs)) (replies_shapes (j + length (x ∷ front) + 1) back)
  where
    regroup : (a b c d : List Shape) → a ++ ((b ++ c) ++ d) ≡ ((a ++ b) ++ c) ++ d
    regroup a b c d = ap (λ (xs : List Shape). a ++ xs) (append_assoc b c d) ∙ sym (append_assoc a b (c ++ d)) ∙ sym (append_assoc (a ++ b) c d)

take_commands : (vs : List (Vec Command Global)) (i : ℕ) → commands_of (take i vs) ≡ take i (commands_of vs)
take_commands vs zero = refl
take_commands [] (suc i) = refl
take_commands (v ∷ vs) (suc i) = ap (λ (x : List (List Command)). v.items ∷ x) (take_commands vs i)

-- of all threads as those before one, it, and those behind it
pub replies_split : (vs : List (Vec Command Global)) (t n : ℕ) (v : Vec Command Global) → t < length vs → v ≡ get_or vs t v → n ≡ length v.items → replies_shapes 1 (commands_of vs) ≡ (replies_shapes 1 (commands_of (take t vs)) ++ thread_shapes (t + 1) 1 n) ++ replies_shapes (t + 1 + 1) (commands_of (drop (t + 1) vs))
replies_split vs t n v lt at long =
    let whole : vs ≡ take t vs ++ get_or vs t v ∷ drop (t + 1) vs = parted vs t v lt in
    let front : length (commands_of (take t vs)) ≡ t = length-map (take t vs) (λ (w : Vec Command Global). w.items) ∙ took vs t (omega arith) in
    let number : 1 + length (commands_of (take t vs)) ≡ t + 1 = omega (arith, front) in
    ap (λ (ws : List (Vec Command Global)). replies_shapes 1 (commands_of ws)) whole ∙ ap (replies_shapes 1) (mapped (take t vs) (get_or vs t v) (drop (t + 1) vs)) ∙ replies_front 1 (commands_of (take t vs)) (get_or vs t v).items (commands_of (drop (t + 1) vs))
    ∙ ap (λ (k : ℕ). (replies_shapes 1 (commands_of (take t vs)) ++ thread_shapes k 1 (length (get_or vs t v).items)) ++ replies_shapes (k + 1) (commands_of (drop (t + 1) vs))) number
    ∙ ap (λ (k : ℕ). (replies_shapes 1 (commands_of (take t vs)) ++ thread_shapes (t + 1) 1 k) ++ replies_shapes (t + 1 + 1) (commands_of (drop (t + 1) vs))) (ap (λ (w : Vec Command Global). length w.items) (sym at) ∙ sym long)
  where
    mapped : (xs : List (Vec Command Global)) (x : Vec Command Global) (ys : List (Vec Command Global)) → commands_of (xs ++ x ∷ ys) ≡ commands_of xs ++ x.items ∷ commands_of ys
    mapped [] x ys = refl
    mapped (y ∷ xs) x ys = ap (λ (zs : List (List Command)). y.items ∷ zs) (mapped xs x ys)

pub replies_next : (vs : List (Vec Command Global)) (t n : ℕ) (v : Vec Command Global) → t < length vs → v ≡ get_or vs t v → n ≡ length v.items → replies_shapes 1 (commands_of (take (t + 1) vs)) ≡ replies_shapes 1 (commands_of (take t vs)) ++ thread_shapes (t + 1) 1 n
replies_next vs t n v lt at long =
    let one : take (t + 1) vs ≡ take t vs ++ get_or vs t v ∷ [] = take_more vs t v lt in
    let front : length (commands_of (take t vs)) ≡ t = length-map (take t vs) (λ (w : Vec Command Global). w.items) ∙ took vs t (omega arith) in
    let number : 1 + length (commands_of (take t vs)) ≡ t + 1 = omega (arith, front) in
    ap (λ (ws : List (Vec Command Global)). replies_shapes 1 (commands_of ws)) one ∙ ap (replies_shapes 1) (mapped (take t vs) (get_or vs t v)) ∙ replies_front 1 (commands_of (take t vs)) (get_or vs t v).items []
    ∙ append-nil (replies_shapes 1 (commands_of (take t vs)) ++ thread_shapes (1 + length (commands_of (take t vs))) 1 (length (get_or vs t v).items))
    ∙ ap₂ (λ (k i : ℕ). replies_shapes 1 (commands_of (take t vs)) ++ thread_shapes k 1 i) number (ap (λ (w : Vec Command Global). length w.items) (sym at) ∙ sym long)
  where
    mapped : (xs : List (Vec Command Global)) (x : Vec Command Global) → commands_of (xs ++ x ∷ []) ≡ commands_of xs ++ x.items ∷ []
    mapped [] x = refl
    mapped (y ∷ xs) x = ap (λ (zs : List (List Command)). y.items ∷ zs) (mapped xs x)

flat_more : (rs : List (List (List ℕ))) (ls : List (List ℕ)) → flat (rs ++ ls ∷ []) ≡ flat rs ++ ls
flat_more [] ls = append-nil ls
flat_more (r ∷ rs) ls = ap (λ (xs : List (List ℕ)). r ++ xs) (flat_more rs ls) ∙ sym (append_assoc r (flat rs) ls)

lines_more : (whole : List ℕ) (rs : List (Vec ℕ Global)) (r : Vec ℕ Global) → lines_in whole (rs ++ r ∷ []) ≡ lines_in whole rs ++ lines_at whole r.items ∷ []
lines_more whole [] r = refl
lines_more whole (x ∷ rs) r = ap (λ (xs : List (List (List ℕ))). lines_at whole x.items ∷ xs) (lines_more whole rs r)

-- what has the shapes of a thread's replies are they
replies_of : (threads : List (List Command)) (thread number : ℕ) (cs : List Command) (n : ℕ) (ls : List (List ℕ)) → n ≡ length cs → AreShaped threads (thread_shapes thread number n) ls → AreReplies thread number cs ls
replies_of threads thread number [] zero [] e h = tt
replies_of threads thread number [] zero (l ∷ ls) e h = absurd h
replies_of threads thread number [] (suc n) ls e h = absurd (omega (arith, e))
replies_of threads thread number (c ∷ cs) zero ls e h = absurd (omega (arith, e))
replies_of threads thread number (c ∷ cs) (suc n) [] e h = absurd h
replies_of threads thread number (c ∷ cs) (suc n) (l ∷ ls) e h = (h.0, replies_of threads thread (number + 1) cs n ls (omega (arith, e)) h.1)

all_more : (j : ℕ) (threads : List (List Command)) (rs : List (List (List ℕ))) (cs : List Command) (ls : List (List ℕ)) (k : ℕ) → AllReplies j threads rs → j + length threads ≡ k → AreReplies k 1 cs ls → AllReplies j (threads ++ cs ∷ []) (rs ++ ls ∷ [])
all_more j [] [] cs ls k h e r = (subst (λ (i : ℕ). AreReplies i 1 cs ls) (let f : k ≡ j = omega (arith, e) in f) r, tt)
all_more j [] (x ∷ rs) cs ls k h e r = absurd h
all_more j (t ∷ threads) [] cs ls k h e r = absurd h
all_more j (t ∷ threads) (x ∷ rs) cs ls k h e r = (h.0, all_more (j + 1) threads rs cs ls k h.1 (omega (arith, e)) r)

-- so many threads have been read
pub record ReadTo (vs : List (Vec Command Global)) (t : ℕ) (text : List ℕ) (n : ℕ) (replies : List (List (List ℕ))) (rest : List ℕ) (m : ℕ) : Type 0 where
  pub goes : GoesOverLines (commands_of vs) (replies_shapes 1 (commands_of (take t vs))) text n (flat replies) rest m
  pub replies_are : AllReplies 1 (commands_of (take t vs)) replies

pub read_none : (vs : List (Vec Command Global)) (text : List ℕ) (n : ℕ) → ReadTo vs 0 text n [] text n
read_none vs text n = record { goes = goes_none (commands_of vs) text n; replies_are = tt }

pub read_more : (whole : List ℕ) (vs : List (Vec Command Global)) (t k : ℕ) (v : Vec Command Global) (text : List ℕ) (n : ℕ) (rs others : List (Vec ℕ Global)) (lines : Vec ℕ Global) (rest : List ℕ) (m : ℕ) (next : List ℕ) (o : ℕ) → t < length vs → v ≡ get_or vs t v → k ≡ length v.items → ReadTo vs t text n (lines_in whole rs) rest m
    → ((threads : List (List Command)) → GoesOverLines threads (thread_shapes (t + 1) 1 k) rest m (lines_at whole lines.items) next o) → others ≡ rs ++ lines ∷ [] → ReadTo vs (t + 1) text n (lines_in whole others) next o
read_more whole vs t k v text n rs others lines rest m next o lt at long read goes pushed =
    let threads : List (List Command) = commands_of vs in
    let on = goes_on threads (replies_shapes 1 (commands_of (take t vs))) (thread_shapes (t + 1) 1 k) text n (flat (lines_in whole rs)) (lines_at whole lines.items) rest m next o read.goes (goes threads) in
    let lines_are : lines_in whole others ≡ lines_in whole rs ++ lines_at whole lines.items ∷ [] = ap (lines_in whole) pushed ∙ lines_more whole rs lines in
    let flat_is : flat (lines_in whole rs) ++ lines_at whole lines.items ≡ flat (lines_in whole others) = sym (ap flat lines_are ∙ flat_more (lines_in whole rs) (lines_at whole lines.items)) in
    let front : length (commands_of (take t vs)) ≡ t = length-map (take t vs) (λ (w : Vec Command Global). w.items) ∙ took vs t (omega arith) in
    let number : 1 + length (commands_of (take t vs)) ≡ t + 1 = omega (arith, front) in
    let long' : k ≡ length (get_or vs t v).items = long ∙ ap (λ (w : Vec Command Global). length w.items) at in
    let all = all_more 1 (commands_of (take t vs)) (lines_in whole rs) (get_or vs t v).items (lines_at whole lines.items) (t + 1) read.replies_are number (replies_of threads (t + 1) 1 (get_or vs t v).items k (lines_at whole lines.items) long' (goes threads).shaped) in
    let taken : commands_of (take t vs) ++ (get_or vs t v).items ∷ [] ≡ commands_of (take (t + 1) vs) = sym (ap commands_of (take_more vs t v lt) ∙ mapped (take t vs) (get_or vs t v)) in
    record {
      goes = subst (λ (ls : List (List ℕ)). GoesOverLines threads (replies_shapes 1 (commands_of (take (t + 1) vs))) text n ls next o) flat_is (subst (λ (ks : List Shape). GoesOverLines threads ks text n (flat (lines_in whole rs) ++ lines_at whole lines.items) next o) (sym (replies_next vs t k v lt at long)) on);
      replies_are = subst (λ (xs : List (List (List ℕ))). AllReplies 1 (commands_of (take (t + 1) vs)) xs) (sym lines_are) (subst (λ (ts : List (List Command)). AllReplies 1 ts (lines_in whole rs ++ lines_at whole lines.items ∷ [])) taken all);
    }
  where
    mapped : (xs : List (Vec Command Global)) (x : Vec Command Global) → commands_of (xs ++ x ∷ []) ≡ commands_of xs ++ x.items ∷ []
    mapped [] x = refl
    mapped (y ∷ xs) x = ap (λ (zs : List (List Command)). y.items ∷ zs) (mapped xs x)

pub read_fails : (vs : List (Vec Command Global)) (t k : ℕ) (v : Vec Command Global) (text : List ℕ) (n : ℕ) (replies : List (List (List ℕ))) (rest : List ℕ) (m : ℕ) (e : CheckError) → t < length vs → v ≡ get_or vs t v → k ≡ length v.items → ReadTo vs t text n replies rest m
    → ((threads : List (List Command)) → FailsHowever threads (thread_shapes (t + 1) 1 k) rest m e) → FailsHowever (commands_of vs) (replies_shapes 1 (commands_of vs)) text n e
read_fails vs t k v text n replies rest m e lt at long read fails =
    let threads : List (List Command) = commands_of vs in
    subst (λ (ks : List Shape). FailsHowever threads ks text n e) (sym (replies_split vs t k v lt at long))
    (however_more threads (replies_shapes 1 (commands_of (take t vs)) ++ thread_shapes (t + 1) 1 k) (replies_shapes (t + 1 + 1) (commands_of (drop (t + 1) vs))) text n e
    (however_on threads (replies_shapes 1 (commands_of (take t vs))) (thread_shapes (t + 1) 1 k) text n (flat replies) rest m e read.goes (fails threads)))

pub read_whole : (vs : List (Vec Command Global)) (t : ℕ) (text : List ℕ) (n : ℕ) (replies : List (List (List ℕ))) (rest : List ℕ) (m : ℕ) → length vs ≤ t → ReadTo vs t text n replies rest m → GoesOverLines (commands_of vs) (replies_shapes 1 (commands_of vs)) text n (flat replies) rest m × AllReplies 1 (commands_of vs) replies
read_whole vs t text n replies rest m le read =
    let whole = take_all t vs le in (
      subst (λ (ws : List (Vec Command Global)). GoesOverLines (commands_of vs) (replies_shapes 1 (commands_of ws)) text n (flat replies) rest m) whole read.goes,
      subst (λ (ws : List (Vec Command Global)). AllReplies 1 (commands_of ws) replies) whole read.replies_are,
    )

-- ---- places

replicate_more : (i : ℕ) → replicate (i + 1) place ≡ replicate i place ++ place ∷ []
replicate_more i = ap (λ (k : ℕ). replicate k place) (let e : i + 1 ≡ suc i = omega arith in e) ∙ by i
  where
    by : (i : ℕ) → replicate (suc i) place ≡ replicate i place ++ place ∷ []
    by zero = refl
    by (suc i) = ap (λ (ks : List Shape). place ∷ ks) (by i)

replicate_split : (i j : ℕ) → replicate (i + suc j) place ≡ (replicate i place ++ place ∷ []) ++ replicate j place
replicate_split zero j = ap (λ (k : ℕ). replicate k place) (let e : 0 + suc j ≡ suc j = omega arith in e)
replicate_split (suc i) j = ap (λ (k : ℕ). replicate k place) (let e : suc i + suc j ≡ suc (i + suc j) = omega arith in e) ∙ ap (λ (ks : List Shape). place ∷ ks) (replicate_split i j)

map_more : {A B : Type 0} (f : A → B) (xs : List A) (x : A) → map f (xs ++ x ∷ []) ≡ map f xs ++ f x ∷ []
map_more f [] x = refl
map_more {A} {B} f (y ∷ xs) x = ap (λ (zs : List B). f y ∷ zs) (map_more f xs x)

all_push : {X : Type 0} (P : X → Type 0) (xs : List X) (x : X) → All P xs → P x → All P (xs ++ x ∷ [])
all_push P [] x h p zero d lt = p
all_push P [] x h p (suc i) d lt = absurd (omega arith)
all_push P (y ∷ xs) x h p zero d lt = h zero y (omega arith)
all_push P (y ∷ xs) x h p (suc i) d lt = all_push P xs x (λ j e le. h (suc j) e (omega arith)) p i d (omega arith)

pub record PlacedTo (threads : List (List Command)) (i : ℕ) (text : List ℕ) (n : ℕ) (places : List Place) (rest : List ℕ) (m : ℕ) : Type 0 where
  pub goes : GoesOverLines threads (replicate i place) text n (map (place_text threads) places) rest m
  pub each : All (IsThreadPlace threads) places
  pub count : length places ≡ i

pub placed_none : (threads : List (List Command)) (text : List ℕ) (n : ℕ) → PlacedTo threads 0 text n [] text n
placed_none threads text n = record { goes = goes_none threads text n; each = λ i d lt. absurd (omega arith); count = refl }

pub placed_more : (threads : List (List Command)) (i : ℕ) (text : List ℕ) (n : ℕ) (places others : List Place) (p : Place) (rest : List ℕ) (m : ℕ) (next : List ℕ) (o : ℕ) → PlacedTo threads i text n places rest m → IsThreadPlace threads p → rest ≡ place_text threads p ++ next → o ≡ m + 1 → others ≡ places ++ p ∷ [] → PlacedTo threads (i + 1) text n others next o
placed_more threads i text n places others p rest m next o read is e f pushed =
    let more = goes_more threads (replicate i place) place text n (map (place_text threads) places) rest m (place_text threads p) next o read.goes (record { at = p; is = is; spelled = refl }) e f in
    let lines : map (place_text threads) places ++ place_text threads p ∷ [] ≡ map (place_text threads) others = sym (ap (map (place_text threads)) pushed ∙ map_more (place_text threads) places p) in
    let long : length others ≡ length places + 1 = ap length pushed ∙ long_more places p in
    let count = read.count in
    record {
      goes = subst (λ (ls : List (List ℕ)). GoesOverLines threads (replicate (i + 1) place) text n ls next o) lines (subst (λ (ks : List Shape). GoesOverLines threads ks text n (map (place_text threads) places ++ place_text threads p ∷ []) next o) (sym (replicate_more i)) more);
      each = subst (All (IsThreadPlace threads)) (sym pushed) (all_push (IsThreadPlace threads) places p read.each is);
      count = omega (arith, long, count);
    }
  where
    long_more : (xs : List Place) (x : Place) → length (xs ++ x ∷ []) ≡ length xs + 1
    long_more [] x = refl
    long_more (y ∷ xs) x = let h = long_more xs x in omega (arith, h)

pub placed_fails : (threads : List (List Command)) (i count : ℕ) (text : List ℕ) (n : ℕ) (places : List Place) (rest : List ℕ) (m : ℕ) (e : CheckError) → i < count → PlacedTo threads i text n places rest m → LacksHere threads place rest m e → FailsHowever threads (replicate count place) text n e
placed_fails threads i count text n places rest m e lt read lacks =
    let j : ℕ = count - i - 1 in
    let whole : i + suc j ≡ count = omega arith in
    subst (λ (k : ℕ). FailsHowever threads (replicate k place) text n e) whole (subst (λ (ks : List Shape). FailsHowever threads ks text n e) (sym (replicate_split i j))
    (however_more threads (replicate i place ++ place ∷ []) (replicate j place) text n e (however_on threads (replicate i place) (place ∷ []) text n (map (place_text threads) places) rest m e read.goes (lacks_one threads place rest m e lacks))))

-- ---- the state

abbrev pub held_shapes : Objects → List Shape
held_shapes names = map (λ (entry : List ℕ × Object). holds entry.0) names

held_next : (names : Objects) (i : ℕ) (e : List ℕ × Object) → i < length names → held_shapes (take (i + 1) names) ≡ held_shapes (take i names) ++ holds (get_or names i e).0 ∷ []
held_next names i e lt = ap held_shapes (take_more names i e lt) ∙ map_more (λ (entry : List ℕ × Object). holds entry.0) (take i names) (get_or names i e)

held_split : (names : Objects) (i : ℕ) (e : List ℕ × Object) → i < length names → held_shapes names ≡ (held_shapes (take i names) ++ holds (get_or names i e).0 ∷ []) ++ held_shapes (drop (i + 1) names)
held_split names i e lt = ap held_shapes (parted names i e lt) ∙ mapped (take i names) (get_or names i e) (drop (i + 1) names)
  where
    mapped : (xs : Objects) (x : List ℕ × Object) (ys : Objects) → held_shapes (xs ++ x ∷ ys) ≡ (held_shapes xs ++ holds x.0 ∷ []) ++ held_shapes ys
    mapped [] x ys = refl
    mapped (y ∷ xs) x ys = ap (λ (ks : List Shape). holds y.0 ∷ ks) (mapped xs x ys)

now_push : (lines : List (Bor (List ℕ))) (line : Bor (List ℕ)) → now_of (lines ++ line ∷ []) ≡ now_of lines ++ line.now ∷ []
now_push [] line = refl
now_push (l ∷ lines) line = ap (λ (ls : List (List ℕ)). l.now ∷ ls) (now_push lines line)

pub HeldTo : Objects → ℕ → List ℕ → ℕ → List (List ℕ) → List ℕ → ℕ → Type 0
HeldTo names i text n lines rest m = (threads : List (List Command)) → GoesOverLines threads (held_shapes (take i names)) text n lines rest m

pub held_none : (names : Objects) (text : List ℕ) (n : ℕ) → HeldTo names 0 text n [] text n
unfolding HeldTo
held_none names text n threads = goes_none threads text n

pub held_more : (names : Objects) (i : ℕ) (entry : List ℕ × Object) (name : List ℕ) (text : List ℕ) (n : ℕ) (lines others : List (Bor (List ℕ))) (line : Bor (List ℕ)) (rest : List ℕ) (m : ℕ) (next : List ℕ) (o : ℕ) → i < length names → get_or names i entry ≡ entry → name ≡ entry.0 → HeldTo names i text n (now_of lines) rest m → HasShape [] (holds name) line.now → rest ≡ line.now ++ next → o ≡ m + 1 → others ≡ lines ++ line ∷ [] → HeldTo names (i + 1) text n (now_of others) next o
unfolding HeldTo
held_more names i entry name text n lines others line rest m next o lt at is read held e f pushed threads =
    let same : name ≡ (get_or names i entry).0 = is ∙ ap (λ (x : List ℕ × Object). x.0) (sym at) in
    let more = goes_more threads (held_shapes (take i names)) (holds (get_or names i entry).0) text n (now_of lines) rest m line.now next o (read threads) (subst (λ (x : List ℕ). HasShape threads (holds x) line.now) same held) e f in
    subst (λ (ls : List (List ℕ)). GoesOverLines threads (held_shapes (take (i + 1) names)) text n ls next o) (sym (ap now_of pushed ∙ now_push lines line)) (subst (λ (ks : List Shape). GoesOverLines threads ks text n (now_of lines ++ line.now ∷ []) next o) (sym (held_next names i entry lt)) more)

pub held_fails : (names : Objects) (i : ℕ) (entry : List ℕ × Object) (name : List ℕ) (text : List ℕ) (n : ℕ) (lines : List (List ℕ)) (rest : List ℕ) (m : ℕ) (e : CheckError) → i < length names → get_or names i entry ≡ entry → name ≡ entry.0 → HeldTo names i text n lines rest m → LacksHere [] (holds name) rest m e → (threads : List (List Command)) → FailsHowever threads (held_shapes names) text n e
unfolding HeldTo
held_fails names i entry name text n lines rest m e lt at is read lacks threads =
    let same : name ≡ (get_or names i entry).0 = is ∙ ap (λ (x : List ℕ × Object). x.0) (sym at) in
    let lacks' : LacksHere threads (holds (get_or names i entry).0) rest m e = subst (λ (x : List ℕ). LacksHere threads (holds x) rest m e) same (lacks_any threads name rest m e lacks) in
    subst (λ (ks : List Shape). FailsHowever threads ks text n e) (sym (held_split names i entry lt))
    (however_more threads (held_shapes (take i names) ++ holds (get_or names i entry).0 ∷ []) (held_shapes (drop (i + 1) names)) text n e
    (however_on threads (held_shapes (take i names)) (holds (get_or names i entry).0 ∷ []) text n lines rest m e (read threads) (lacks_one threads (holds (get_or names i entry).0) rest m e lacks')))

pub held_whole : (names : Objects) (i : ℕ) (text : List ℕ) (n : ℕ) (lines : List (List ℕ)) (rest : List ℕ) (m : ℕ) → length names ≤ i → HeldTo names i text n lines rest m → (threads : List (List Command)) → GoesOverLines threads (held_shapes names) text n lines rest m
unfolding HeldTo
held_whole names i text n lines rest m le read threads = subst (λ (ns : Objects). GoesOverLines threads (held_shapes ns) text n lines rest m) (take_all i names le) (read threads)

-- ---- the whole text

held_are : (threads : List (List Command)) (names : Objects) (ls : List (List ℕ)) → AreShaped threads (held_shapes names) ls → AreHeld names ls
held_are threads [] [] h = tt
held_are threads [] (l ∷ ls) h = absurd h
held_are threads (entry ∷ names) [] h = absurd h
held_are threads (entry ∷ names) (l ∷ ls) h = (h.0, held_are threads names ls h.1)

pub joined_flat : (rs : List (List (List ℕ))) → joined_lines (flat rs) ≡ replies_text rs
joined_flat [] = refl
joined_flat (r ∷ rs) = joined_append [] r (flat rs) ∙ ap (λ (xs : List ℕ). joined_lines r ++ xs) (joined_flat rs)

pub joined_places : (threads : List (List Command)) (ps : List Place) → joined_lines (map (place_text threads) ps) ≡ places_text threads ps
joined_places threads [] = refl
joined_places threads (p ∷ ps) = ap (λ (xs : List ℕ). place_text threads p ++ xs) (joined_places threads ps)

-- ---- how a reading of the whole text fails

pub so_goes : (threads : List (List Command)) (ks more : List Shape) (text : List ℕ) (n : ℕ) (ls : List (List ℕ)) (rest : List ℕ) (m : ℕ) (e : CheckError) → GoesOverLines threads ks text n ls rest m → FailsSo threads more rest m e → FailsSo threads (ks ++ more) text n e
so_goes threads ks more text n ls rest m (error.Fault line why.Form) g h = goes_fails threads ks more text n ls rest m line g h
so_goes threads ks more text n ls rest m (error.Fault line why.Turn) g h = absurd h
so_goes threads ks more text n ls rest m (error.Fault line why.Waits) g h = absurd h
so_goes threads ks more text n ls rest m (error.Fault line why.Reply) g h = absurd h
so_goes threads ks more text n ls rest m (error.Fault line why.Order) g h = absurd h
so_goes threads ks more text n ls rest m (error.Fault line why.State) g h = absurd h
so_goes threads ks more text n ls rest m error.NoMemory g h = absurd h

pub so_line : (threads : List (List Command)) (k : Shape) (ks : List Shape) (text : List ℕ) (n : ℕ) (l rest : List ℕ) (m : ℕ) (e : CheckError) → HasShape threads k l → text ≡ l ++ rest → m ≡ n + 1 → FailsSo threads ks rest m e → FailsSo threads (k ∷ ks) text n e
so_line threads k ks text n l rest m (error.Fault line why.Form) s f i h = inr (l, rest, s, f, subst (λ (j : ℕ). FailsAt threads ks rest j line) i h)
so_line threads k ks text n l rest m (error.Fault line why.Turn) s f i h = absurd h
so_line threads k ks text n l rest m (error.Fault line why.Waits) s f i h = absurd h
so_line threads k ks text n l rest m (error.Fault line why.Reply) s f i h = absurd h
so_line threads k ks text n l rest m (error.Fault line why.Order) s f i h = absurd h
so_line threads k ks text n l rest m (error.Fault line why.State) s f i h = absurd h
so_line threads k ks text n l rest m error.NoMemory s f i h = absurd h

pub so_lacks : (threads : List (List Command)) (k : Shape) (ks : List Shape) (text : List ℕ) (n : ℕ) (e : CheckError) → LacksHere threads k text n e → FailsSo threads (k ∷ ks) text n e
so_lacks threads k ks text n (error.Fault line why.Form) h = inl (h.0, h.1)
so_lacks threads k ks text n (error.Fault line why.Turn) h = absurd h
so_lacks threads k ks text n (error.Fault line why.Waits) h = absurd h
so_lacks threads k ks text n (error.Fault line why.Reply) h = absurd h
so_lacks threads k ks text n (error.Fault line why.Order) h = absurd h
so_lacks threads k ks text n (error.Fault line why.State) h = absurd h
so_lacks threads k ks text n error.NoMemory h = absurd h

pub so_however : (threads : List (List Command)) (ks more : List Shape) (text : List ℕ) (n : ℕ) (e : CheckError) → FailsHowever threads ks text n e → FailsSo threads (ks ++ more) text n e
so_however threads ks more text n (error.Fault line why.Form) h = h more
so_however threads ks more text n (error.Fault line why.Turn) h = absurd h
so_however threads ks more text n (error.Fault line why.Waits) h = absurd h
so_however threads ks more text n (error.Fault line why.Reply) h = absurd h
so_however threads ks more text n (error.Fault line why.Order) h = absurd h
so_however threads ks more text n (error.Fault line why.State) h = absurd h
so_however threads ks more text n error.NoMemory h = absurd h

pub fails_replies : (s : Script) (text : List ℕ) (e : CheckError) → FailsHowever s.threads (replies_shapes 1 s.threads) text 1 e → FailsForm s text e
fails_replies s text e h = so_however s.threads (replies_shapes 1 s.threads) (just (codes "order\n") ∷ (replicate (places_in s.threads) place ++ (just (codes "state\n") ∷ held_shapes s.objects))) text 1 e h

pub order_line : IsLine (codes "order\n")
order_line = record { body = codes "order"; lacks = lacks_by_test (codes "order") refl; is = refl }

pub state_line : IsLine (codes "state\n")
state_line = record { body = codes "state"; lacks = lacks_by_test (codes "state") refl; is = refl }

pub none_long : {X : Type 0} (xs : List X) → length xs ≡ 0 → xs ≡ []
none_long [] e = refl
none_long (x ∷ xs) e = absurd (omega arith)

-- what a test of two lines says
pub other_line : (a b : List ℕ) → true ≡ not (pointwise nat_eq a b) → a ≢ b
other_line a b h e = by (pointwise nat_eq a b) ((slice_eq-Decides Decides-eqb a b (pointwise nat_eq a b) refl).1 e) h
  where
    by : (x : Bool) → x ≡ true → true ≡ not x → ⊥
    by true f g = cc g
    by false f g = cc f

-- the parts of a text, as far as they have been read
module _ (s : Script) (text : List ℕ) (replies : List (List (List ℕ))) (rest1 : List ℕ) (n1 : ℕ) (one : GoesOverLines s.threads (replies_shapes 1 s.threads) text 1 (flat replies) rest1 n1) where
  places_shapes : List Shape
  places_shapes = replicate (places_in s.threads) place

  last_shapes : List Shape
  last_shapes = just (codes "state\n") ∷ held_shapes s.objects

  behind_replies : (e : CheckError) → FailsSo s.threads (just (codes "order\n") ∷ (places_shapes ++ last_shapes)) rest1 n1 e → FailsForm s text e
  unfolding places_shapes last_shapes
  behind_replies e h = so_goes s.threads (replies_shapes 1 s.threads) (just (codes "order\n") ∷ (places_shapes ++ last_shapes)) text 1 (flat replies) rest1 n1 e one h

  pub fails_order : (e : CheckError) → LacksHere [] (just (codes "order\n")) rest1 n1 e → FailsForm s text e
  fails_order e lacks = behind_replies e (so_lacks s.threads (just (codes "order\n")) (places_shapes ++ last_shapes) rest1 n1 e (lacks_just s.threads (codes "order\n") rest1 n1 e lacks))

  module _ (rest2 : List ℕ) (n2 : ℕ) (order : rest1 ≡ codes "order\n" ++ rest2) (second : n2 ≡ n1 + 1) where
    behind_order : (e : CheckError) → FailsSo s.threads (places_shapes ++ last_shapes) rest2 n2 e → FailsForm s text e
    behind_order e h = behind_replies e (so_line s.threads (just (codes "order\n")) (places_shapes ++ last_shapes) rest1 n1 (codes "order\n") rest2 n2 e refl order second h)

    pub fails_places : (e : CheckError) → FailsHowever s.threads (replicate (places_in s.threads) place) rest2 n2 e → FailsForm s text e
    unfolding places_shapes
    fails_places e h = behind_order e (so_however s.threads places_shapes last_shapes rest2 n2 e h)

    module _ (places : List Place) (rest3 : List ℕ) (n3 : ℕ) (two : GoesOverLines s.threads (replicate (places_in s.threads) place) rest2 n2 (map (place_text s.threads) places) rest3 n3) where
      behind_places : (e : CheckError) → FailsSo s.threads last_shapes rest3 n3 e → FailsForm s text e
      unfolding places_shapes
      behind_places e h = behind_order e (so_goes s.threads places_shapes last_shapes rest2 n2 (map (place_text s.threads) places) rest3 n3 e two h)

      pub fails_state : (e : CheckError) → LacksHere [] (just (codes "state\n")) rest3 n3 e → FailsForm s text e
      unfolding last_shapes
      fails_state e lacks = behind_places e (so_lacks s.threads (just (codes "state\n")) (held_shapes s.objects) rest3 n3 e (lacks_just s.threads (codes "state\n") rest3 n3 e lacks))

      module _ (rest4 : List ℕ) (n4 : ℕ) (state : rest3 ≡ codes "state\n" ++ rest4) (fourth : n4 ≡ n3 + 1) where
        behind_state : (e : CheckError) → FailsSo s.threads (held_shapes s.objects) rest4 n4 e → FailsForm s text e
        unfolding last_shapes
        behind_state e h = behind_places e (so_line s.threads (just (codes "state\n")) (held_shapes s.objects) rest3 n3 (codes "state\n") rest4 n4 e refl state fourth h)

        pub fails_held : (e : CheckError) → FailsHowever s.threads (held_shapes s.objects) rest4 n4 e → FailsForm s text e
        fails_held e h = behind_state e (subst (λ (ks : List Shape). FailsSo s.threads ks rest4 n4 e) (append-nil (held_shapes s.objects)) (so_however s.threads (held_shapes s.objects) [] rest4 n4 e h))

        module _ (lines : List (List ℕ)) (rest5 : List ℕ) (n5 : ℕ) (three : GoesOverLines s.threads (held_shapes s.objects) rest4 n4 lines rest5 n5) where
          pub fails_end : (e : CheckError) → rest5 ≢ [] → e ≡ error.Fault n5 why.Form → FailsForm s text e
          fails_end e more is = subst (FailsForm s text) (sym is) (behind_state (error.Fault n5 why.Form) (subst (λ (ks : List Shape). FailsSo s.threads ks rest4 n4 (error.Fault n5 why.Form)) (append-nil (held_shapes s.objects)) (so_goes s.threads (held_shapes s.objects) [] rest4 n4 lines rest5 n5 (error.Fault n5 why.Form) three (more, refl))))

          pub text_formed : rest5 ≡ [] → AllReplies 1 s.threads replies → All (IsThreadPlace s.threads) places → length places ≡ places_in s.threads → IsFormed s text (record { replies = replies; places = places; state = lines })
          text_formed none all each count = record {
            replies = all;
            places = each;
            count = count;
            state = held_are s.threads s.objects lines three.shaped;
            spelled = one.spelled ∙ ap₂ (λ (xs ys : List ℕ). xs ++ ys) (joined_flat replies) (order ∙ ap (λ (xs : List ℕ). codes "order\n" ++ xs) (two.spelled ∙ ap₂ (λ (xs ys : List ℕ). xs ++ ys) (joined_places s.threads places) (state ∙ ap (λ (xs : List ℕ). codes "state\n" ++ xs) (three.spelled ∙ ap (λ (xs : List ℕ). joined_lines lines ++ xs) none ∙ append-nil (joined_lines lines)))))
                ∙ sym (regroup (replies_text replies) (codes "order\n") (places_text s.threads places) (codes "state\n") (joined_lines lines));
          }
            where
              regroup : (a b c d e : List ℕ) → (((a ++ b) ++ c) ++ d) ++ e ≡ a ++ (b ++ (c ++ (d ++ e)))
              regroup a b c d e = append_assoc ((a ++ b) ++ c) d e ∙ append_assoc (a ++ b) c (d ++ e) ∙ append_assoc a b (c ++ (d ++ e))
