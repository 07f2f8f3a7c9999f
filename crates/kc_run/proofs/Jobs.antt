-- From each thread's run to the run of all.
use Rattle.std.proofs.Common.{◌≡◌, ℕ, zero, suc, ◌+◌, ◌<◌, List, [], ◌∷◌, ◌++◌, length, map, take, drop, get_or, refl, sym, ap, ◌∙◌, arith, subst}
use Rattle.std.proofs.lemmas.List.{take_more, length-map}
use Rattle.std.specs.Prelude.{All}
use Rattle.std.specs.Global.{Vec}
use Rattle.kc_history.specs.RecordsValue.{RecordsValue}
use Rattle.kc_history.specs.Callers.{of_caller}
use Rattle.kc_history.specs.Records.{lists_of}
use Rattle.kc_model.specs.declared.footprint.Entry.{Entry}
use Rattle.kc_run.specs.Jobs.{Rooms, empty_records, paired, job_pass, list_of, row_at, JobReady, PassRan, JobRan, AllMayRun}
use Rattle.kc_run.specs.Run.{CanRunAll}
use Rattle.kc_table_moves.specs.Views.{count_from}
use Rattle.kc_run.specs.declared.job.Job.{Job}
use Rattle.kc_script_bundle.specs.declared.operation.Command.{Command}
use Rattle.kc_script_runs.specs.Threads.{CommitGives, AreGiven, AreRunBy, meanings}

-- ---- rooms

rooms_push : (limit : ℕ) (vs : List (Vec Command)) (rs : List RecordsValue) (v : Vec Command) (r : RecordsValue) → Rooms limit vs rs → r ≡ empty_records limit v.items → Rooms limit (vs ++ v ∷ []) (rs ++ r ∷ [])
rooms_push limit [] [] v r h made = (made, tt)
rooms_push limit [] (x ∷ rs) v r h made = absurd h
rooms_push limit (w ∷ vs) [] v r h made = absurd h
rooms_push limit (w ∷ vs) (x ∷ rs) v r h made = (h.0, rooms_push limit vs rs v r h.1 made)

-- one room more
pub rooms_next : (limit : ℕ) (threads : List (Vec Command)) (i : ℕ) (v : Vec Command) (r : RecordsValue) (rs rs' : List RecordsValue) → i < length threads → v ≡ get_or threads i v → Rooms limit (take i threads) rs → rs' ≡ rs ++ r ∷ []
    → r ≡ empty_records limit v.items → Rooms limit (take (i + 1) threads) rs'
rooms_next limit threads i v r rs rs' lt is h pushed made =
    let more : take (i + 1) threads ≡ take i threads ++ v ∷ [] = take_more threads i v lt ∙ ap (λ (x : Vec Command). take i threads ++ x ∷ []) (sym is) in
    subst (λ (x : List RecordsValue). Rooms limit (take (i + 1) threads) x) (sym pushed) (subst (λ l. Rooms limit l (rs ++ r ∷ [])) (sym more) (rooms_push limit (take i threads) rs v r h made))

pub rooms_length : (limit : ℕ) (threads : List (Vec Command)) (rs : List RecordsValue) → Rooms limit threads rs → length threads ≡ length rs
rooms_length limit [] [] h = refl
rooms_length limit [] (r ∷ rs) h = absurd h
rooms_length limit (v ∷ vs) [] h = absurd h
rooms_length limit (v ∷ vs) (r ∷ rs) h = ap suc (rooms_length limit vs rs h.1)

-- ---- lists

-- what a `Vec` has after a whole slice of it was changed
pub whole_slice : {A : Type 0} (n : ℕ) (new old : List A) → n ≡ length old → length new ≡ length old → take n (new ++ drop (length new) old) ≡ new
whole_slice n new old e same = ap (λ k. take k (new ++ drop (length new) old)) (e ∙ sym same) ∙ go new (drop (length new) old)
  where
    go : {A : Type 0} (xs ys : List A) → take (length xs) (xs ++ ys) ≡ xs
    go [] ys = refl
    go (x ∷ xs) ys = ap (λ l. x ∷ l) (go xs ys)

pub row_is : (xs : List (Vec Command)) (i : ℕ) (v : Vec Command) → i < length xs → v ≡ get_or xs i v → row_at xs i ≡ v.items
row_is [] i v lt e = absurd (omega arith)
row_is (x ∷ xs) zero v lt e = ap (λ (y : Vec Command). y.items) (sym e)
row_is (x ∷ xs) (suc i) v lt e = row_is xs i v (omega arith) e

pub can_row : (n : ℕ) (xs : List (Vec Command)) (i : ℕ) (v : Vec Command) (cs : List Command) → i < length xs → v ≡ get_or xs i v → cs ≡ v.items → All (λ (w : Vec Command). CanRunAll n w.items) xs → CanRunAll n cs
can_row n xs i v cs lt is value all = subst (CanRunAll n) (sym value) (subst (λ (w : Vec Command). CanRunAll n w.items) (sym is) (all i v lt))

-- the element at a place, whatever the default
pick : {A : Type 0} (xs : List A) (i : ℕ) → i < length xs → (x : A) × ((d : A) → get_or xs i d ≡ x) × ((B : Type 0) (f : A → B) (e : B) → get_or (map f xs) i e ≡ f x)
pick [] i lt = absurd (omega arith)
pick (x ∷ xs) zero lt = (x, (λ d. refl), (λ B f e. refl))
pick (x ∷ xs) (suc i) lt = pick xs i (omega arith)

all_map : {A B : Type 0} (f : A → B) (P : B → Type 0) (xs : List A) → ((i : ℕ) (d : A) → i < length xs → P (f (get_or xs i d))) → All P (map f xs)
all_map f P xs h = λ k d lt. let l : k < length xs = (let e = length-map xs f in omega arith) in let p = pick xs k l in
    subst P (sym (p.2 _ f d)) (subst (λ x. P (f x)) (p.1 p.0) (h k p.0 l))

counted : {A : Type 0} (f : A → ℕ) (xs : List A) (k : ℕ) → ((i : ℕ) (d : A) → i < length xs → f (get_or xs i d) ≡ k + i) → map f xs ≡ count_from k (length xs)
counted f [] k h = refl
counted f (x ∷ xs) k h = λ j. (h 0 x (omega arith) ∙ (let e : k + 0 ≡ k = omega arith in e)) j ∷ counted f xs (suc k) (λ i d lt. h (suc i) d (omega arith) ∙ (let e : k + suc i ≡ suc k + i = omega arith in e)) j

-- ---- jobs

module _ {S P : Type 0} (belongs : S → P → Type 0) (number left : P → ℕ) (own : P → List Entry) (store : S) (limit : ℕ) where
  may_length : (k : ℕ) (threads : List (Vec Command)) (ps : List P) → AllMayRun belongs number left own store k threads ps → length threads ≡ length ps
  may_length k [] [] h = refl
  may_length k [] (p ∷ ps) h = absurd h
  may_length k (v ∷ vs) [] h = absurd h
  may_length k (v ∷ vs) (p ∷ ps) h = ap suc (may_length (suc k) vs ps h.1)

  paired_length : (ps : List P) (rs : List RecordsValue) → length ps ≡ length rs → length (paired ps rs) ≡ length ps
  paired_length [] rs e = refl
  paired_length (p ∷ ps) [] e = absurd (omega arith)
  paired_length (p ∷ ps) (r ∷ rs) e = ap suc (paired_length ps rs (omega arith))

  ready_all : (k : ℕ) (threads : List (Vec Command)) (ps : List P) (rs : List RecordsValue) → AllMayRun belongs number left own store k threads ps → Rooms limit threads rs → (i : ℕ) (d : Job P) → i < length (paired ps rs)
      → JobReady belongs number left own limit store (k + i) (row_at threads i) (get_or (paired ps rs) i d)
  ready_all k [] [] rs m r i d lt = absurd (omega arith)
  ready_all k [] (p ∷ ps) rs m r i d lt = absurd m
  ready_all k (v ∷ vs) [] rs m r i d lt = absurd m
  ready_all k (v ∷ vs) (p ∷ ps) [] m r i d lt = absurd r
  ready_all k (v ∷ vs) (p ∷ ps) (x ∷ xs) m r zero d lt = let e : k ≡ k + 0 = omega arith in rw (← e) (record { may = m.0; room = r.0 })
  ready_all k (v ∷ vs) (p ∷ ps) (x ∷ xs) m r (suc i) d lt = let e : suc k + i ≡ k + suc i = omega arith in rw (← e) (ready_all (suc k) vs ps xs m.1 r.1 i d (omega arith))

  -- before the run
  pub record AreReady (threads : List (Vec Command)) (ps : List P) (rs : List RecordsValue) (js : List (Job P)) : Type 0 where
    pub jobs : length threads ≡ length js
    pub rooms : length ps ≡ length rs
    pub passes : length threads ≡ length ps
    pub each : (i : ℕ) (d : Job P) → i < length js → JobReady belongs number left own limit store i (row_at threads i) (get_or js i d)

  pub jobs_ready : (threads : List (Vec Command)) (ps : List P) (rs : List RecordsValue) (js : List (Job P)) → AllMayRun belongs number left own store 0 threads ps → Rooms limit threads rs → js ≡ paired ps rs → AreReady threads ps rs js
  jobs_ready threads ps rs js m r e =
      let a = may_length 0 threads ps m in
      let b = rooms_length limit threads rs r in
      let l : length (paired ps rs) ≡ length ps = paired_length ps rs (sym a ∙ b) in record {
        jobs = a ∙ sym l ∙ sym (ap length e);
        rooms = sym a ∙ b;
        passes = a;
        each = λ i d lt.
            subst (λ (xs : List (Job P)). JobReady belongs number left own limit store i (row_at threads i) (get_or xs i d)) (sym e)
            (let z : 0 + i ≡ i = omega arith in subst (λ n. JobReady belongs number left own limit store n (row_at threads i) (get_or (paired ps rs) i d)) z (ready_all 0 threads ps rs m r i d (let q = ap length e in omega arith)));
      }

module _ {S P : Type 0} (limit : ℕ) (gives : CommitGives) (belongs : S → P → Type 0) (number left : P → ℕ) (own : P → List Entry) (opening : S → List ℕ) (store : S) where
  -- after the run
  abbrev AllRan : List (Vec Command) → List (Job P) → Type 0
  AllRan threads js = (i : ℕ) (d : Job P) → i < length js → JobRan limit gives belongs number own opening store i (row_at threads i) (get_or js i d)

  passes_belong : (threads : List (Vec Command)) (js : List (Job P)) → AllRan threads js → All (belongs store) (map job_pass js)
  passes_belong threads js ran = all_map job_pass (belongs store) js (λ i d lt. (ran i d lt).belongs_to)

  passes_counted : (threads : List (Vec Command)) (js : List (Job P)) → AllRan threads js → map number (map job_pass js) ≡ count_from 0 (length js)
  passes_counted threads js ran = map_map js ∙ counted (λ j. number (job_pass j)) js 0 (λ i d lt. (ran i d lt).number_is ∙ (let z : i ≡ 0 + i = omega arith in z)) where
    map_map : (xs : List (Job P)) → map number (map job_pass xs) ≡ map (λ j. number (job_pass j)) xs
    map_map [] = refl
    map_map (x ∷ xs) = ap (λ l. number x.pass ∷ l) (map_map xs)

  run_from : (history : List Entry) (k : ℕ) (threads : List (Vec Command)) (js : List (Job P)) → length threads ≡ length js → ((i : ℕ) (d : Job P) → i < length js → JobRan limit gives belongs number own opening store (k + i) (row_at threads i) (get_or js i d))
      → ((i : ℕ) (d : Job P) → i < length js → of_caller (number (get_or js i d).pass) history ≡ own (get_or js i d).pass) → AreRunBy gives limit (length (opening store)) k history (map (λ (v : Vec Command). v.items) threads) (lists_of (map list_of js))
  run_from history k [] [] len ran owns = tt
  run_from history k [] (j ∷ js) len ran owns = absurd (omega arith)
  run_from history k (v ∷ vs) [] len ran owns = absurd (omega arith)
  run_from history k (v ∷ vs) (j ∷ js) len ran owns =
      let z : k + 0 ≡ k = omega arith in
      let r : PassRan limit gives belongs number own opening store k v.items j.pass j.records.items = subst (λ n. PassRan limit gives belongs number own opening store n v.items j.pass j.records.items) z (ran 0 j (omega arith)) in
      let o : of_caller (number j.pass) history ≡ own j.pass = owns 0 j (omega arith) in (
        record { labelled = r.labelled; answered = r.answered; committed = subst (AreGiven gives k (meanings limit (k + 1) v.items) [] j.records.items) (sym (ap (λ n. of_caller n history) (sym r.number_is) ∙ o)) r.own_is },
        run_from history (suc k) vs js (omega arith) (λ i d lt. let e : k + suc i ≡ suc k + i = omega arith in subst (λ n. PassRan limit gives belongs number own opening store n (row_at vs i) (get_or js i d).pass (get_or js i d).records.items) e (ran (suc i) d (omega arith))) (λ i d lt. owns (suc i) d (omega arith)),
      )

  run_all : (history : List Entry) (threads : List (Vec Command)) (js : List (Job P)) → length threads ≡ length js → AllRan threads js → All (λ p. of_caller (number p) history ≡ own p) (map job_pass js) → AreRunBy gives limit (length (opening store)) 0 history (map (λ (v : Vec Command). v.items) threads) (lists_of (map list_of js))
  run_all history threads js len ran owns =
      run_from history 0 threads js len (λ i d lt. let z : i ≡ 0 + i = omega arith in subst (λ n. PassRan limit gives belongs number own opening store n (row_at threads i) (get_or js i d).pass (get_or js i d).records.items) z (ran i d lt))
      (λ i d lt. let p = pick js i lt in
      subst (λ (x : Job P). of_caller (number x.pass) history ≡ own x.pass) (sym (p.1 d)) (subst (λ q. of_caller (number q) history ≡ own q) (p.2 P job_pass p.0.pass) (owns i p.0.pass (let e = length-map js job_pass in omega arith))))

  -- the passes come back, and the run shows in any history of which each own list is its caller's part
  pub record AreDone (threads : List (Vec Command)) (js : List (Job P)) (callers : ℕ) : Type 0 where
    pub belong : All (belongs store) (map job_pass js)
    pub numbered : map number (map job_pass js) ≡ count_from 0 callers
    pub run : (history : List Entry) → All (λ p. of_caller (number p) history ≡ own p) (map job_pass js) → AreRunBy gives limit (length (opening store)) 0 history (map (λ (v : Vec Command). v.items) threads) (lists_of (map list_of js))

  pub ran_done : (threads : List (Vec Command)) (ps : List P) (rs : List RecordsValue) (before js : List (Job P)) (callers : ℕ) → AreReady belongs number left own store limit threads ps rs before → length js ≡ length before
      → ((i : ℕ) (d : Job P) → i < length before → JobRan limit gives belongs number own opening store i (row_at threads i) (get_or js i d)) → length threads ≡ callers → AreDone threads js callers
  ran_done threads ps rs before js callers ready len ran all =
      let here : AllRan threads js = λ i d lt. ran i d (omega (arith, len, lt)) in record {
        belong = passes_belong threads js here;
        numbered = passes_counted threads js here ∙ ap (count_from 0) (len ∙ sym ready.jobs ∙ all);
        run = λ history. run_all history threads js (ready.jobs ∙ sym len) here;
      }
