-- One thread's commits, one after another.
use Rattle.std.proofs.Common.{◌≡◌, ℕ, zero, suc, ◌+◌, ◌-◌, ◌≤◌, ◌<◌, List, [], ◌∷◌, ◌++◌, length, map, take, drop, get_or, refl, sym, ap, subst, ◌∙◌, arith, append_assoc}
use Rattle.std.proofs.lemmas.List.{take_all, take_more, drop_all, drop_more, map-append, length-map}
use Rattle.kc_model.specs.declared.footprint.Entry.{Entry}
use Rattle.kc_script_bundle.specs.declared.operation.Command.{Command}
use Rattle.kc_script_bundle.specs.declared.operation.Command.TheVariants as command
use Rattle.kc_script_bundle.specs.declared.operation.Op.TheVariants as op
use Rattle.kc_script_bundle.specs.Meaning.{end_meaning}
use Rattle.kc_model.specs.Footprint.{IsBelow}
use Rattle.kc_model.specs.declared.footprint.TheConstants.{MOST}
use Rattle.kc_loc.specs.declared.operation.LocOp.TheVariants as loc
use Rattle.kc_history.specs.RecordsValue.{RecordsValue}
use Rattle.kc_history.specs.declared.record.Record.{Record}
use Rattle.kc_history.specs.declared.record.Mark.TheVariants as mark
use Rattle.kc_run.specs.Jobs.{PassRan, empty_records}
use Rattle.kc_script_runs.specs.Labels.{Label, label, labels}
use Rattle.kc_script_runs.proofs.Given.{given_more}
use Rattle.kc_script_runs.specs.Threads.{asked, CommitGives, AreAnswered, AreGiven, IsAnswered, meanings}
use Rattle.kc_xt.specs.Commit.{Answers}
use Rattle.kc_xt.specs.Meaning.{limited, Meaning}

-- ---- commits

answered_more : {n : ℕ} (ms : List Meaning) (rs : List Record) (m : Meaning) (r : Record) → AreAnswered n ms rs → IsAnswered n m r → AreAnswered n (ms ++ m ∷ []) (rs ++ r ∷ [])
answered_more [] [] m r done next = (next, tt)
answered_more [] (q ∷ rs) m r done next = absurd done
answered_more (p ∷ ms) [] m r done next = absurd done
answered_more (p ∷ ms) (q ∷ rs) m r done next = (done.0, answered_more ms rs m r done.1 next)

-- a record is answered so, whose locations are those of the store
pub is_answered : {n e : ℕ} (m : Meaning) (r : Record) → Answers m r.answer r.footprint → IsBelow e r.footprint → e ≤ n → IsAnswered n m r
is_answered m r answers below le = record { answers = answers; within = λ q d. (let h = below q d in omega (arith, h, le)) }

-- the end of a thread is committed last
pub thread_ends : (limit thread : ℕ) (gives : CommitGives) {locations : ℕ} (commands : List Command) (k j : ℕ) (before after : List Entry) (records : List Record) (r : Record) → AreGiven gives k (map (asked limit thread) commands) [] records before
    → AreAnswered locations (map (asked limit thread) commands) records → j ≡ k → gives j (limited MOST (end_meaning 0)) before r.footprint after → IsAnswered locations (limited MOST (end_meaning 0)) r
    → AreGiven gives k (meanings limit thread commands) [] (records ++ r ∷ []) after × AreAnswered locations (meanings limit thread commands) (records ++ r ∷ [])
thread_ends limit thread gives commands k j before after records r was done same now next = (
  given_more gives k _ [] _ before after _ r was (subst (λ (i : ℕ). gives i (limited MOST (end_meaning 0)) before r.footprint after) same now),
  answered_more _ _ _ _ done next,
)

-- ---- labels

-- where a list has an element, any will do as what stands past its end
abbrev no_command : Command
no_command = command.One (op.Loc (loc.Get (record { 0 = 0 })))

-- one label more
pub labels_more : (thread : ℕ) (commands : List Command) (i : ℕ) (records records' : List Record) (r : Record) (total : List Label) → i < length commands → records' ≡ records ++ r ∷ [] → r.thread ≡ thread → r.mark ≡ mark.Command (i + 1)
    → map label records ++ labels thread (i + 1) (drop i commands) ≡ total → map label records' ++ labels thread (i + 1 + 1) (drop (i + 1) commands) ≡ total
labels_more thread commands i records records' r total lt pushed by marked so_far =
    let same : label r ≡ record { thread = thread; mark = mark.Command (i + 1) } = rw (by, marked) refl in
    rw (pushed, map-append label records (r ∷ []), same) (append_assoc (map label records) (record { thread = thread; mark = mark.Command (i + 1) } ∷ []) (labels thread (i + 1 + 1) (drop (i + 1) commands))
    ∙ ap (λ (rest : List Command). map label records ++ labels thread (i + 1) rest) (sym (drop_more commands i no_command lt)) ∙ so_far)

-- and the end's
pub labels_end : (thread number : ℕ) (records : List Record) (r : Record) (total : List Label) → r.thread ≡ thread → r.mark ≡ mark.End → map label records ++ labels thread number [] ≡ total → map label (records ++ r ∷ []) ≡ total
labels_end thread number records r total by marked so_far =
    let same : label r ≡ record { thread = thread; mark = mark.End } = rw (by, marked) refl in
    rw (map-append label records (r ∷ []), same) so_far

-- ---- the run of a thread

module _ {S P : Type 0} (limit thread : ℕ) (gives : CommitGives) (belongs : S → P → Type 0) (number left : P → ℕ) (own : P → List Entry) (opening : S → List ℕ) where
  -- the first i commands are committed
  pub record RanTo (store : S) (commands : List Command) (first now : P) (records : RecordsValue) (i : ℕ) : Type 0 where
    pub pass : belongs store now × (number now ≡ number first)
    pub share : length commands + 1 ≤ left now + i
    pub given : AreGiven gives (number first) (map (asked limit thread) (take i commands)) [] records.items (own now)
    pub answered : AreAnswered (length (opening store)) (map (asked limit thread) (take i commands)) records.items
    pub labelled : map label records.items ++ labels thread (i + 1) (drop i commands) ≡ labels thread 1 commands
    pub spare : records.spare + i ≡ length commands + 1
    pub most : records.limit ≡ limit

  pub ran_first : (store : S) (commands : List Command) (first : P) (records : RecordsValue) → belongs store first → length commands + 1 ≤ left first → own first ≡ [] → records ≡ empty_records limit commands → RanTo store commands first first records 0
  ran_first store commands first records pass share fresh empty = subst (λ (v : RecordsValue). RanTo store commands first first v 0) (sym empty) (record { pass = (pass, refl); share = omega (arith, share); given = fresh; answered = tt; labelled = refl; spare = omega arith; most = refl })

  pub ran_more : (store : S) (commands : List Command) (first now next : P) (before after : RecordsValue) (i : ℕ) (d : Command) (r : Record) → RanTo store commands first now before i → i < length commands
      → belongs store next × (number next ≡ number now) → left now ≤ left next + 1 → gives (number now) (asked limit thread (get_or commands i d)) (own now) r.footprint (own next) → IsAnswered (length (opening store)) (asked limit thread (get_or commands i d)) r
      → after.items ≡ before.items ++ r ∷ [] → after.spare ≡ before.spare - 1 → after.limit ≡ before.limit → r.thread ≡ thread → r.mark ≡ mark.Command (i + 1) → RanTo store commands first next after (i + 1)
  ran_more store commands first now next before after i d r so_far lt pass left_is own_next answers added less same by marked = record {
    pass = (pass.0, pass.1 ∙ so_far.pass.1);
    share = omega (arith, so_far.share, left_is);
    given =
        rw (take_more commands i d lt, map-append (asked limit thread) (take i commands) (get_or commands i d ∷ []), added)
        (given_more gives (number first) _ [] _ (own now) (own next) _ r so_far.given (subst (λ (k : ℕ). gives k (asked limit thread (get_or commands i d)) (own now) r.footprint (own next)) so_far.pass.1 own_next));
    answered = rw (take_more commands i d lt, map-append (asked limit thread) (take i commands) (get_or commands i d ∷ []), added) (answered_more _ _ _ _ so_far.answered answers);
    labelled = labels_more thread commands i before.items after.items r (labels thread 1 commands) lt added by marked so_far.labelled;
    spare = omega (arith, so_far.spare, less, lt);
    most = same ∙ so_far.most;
  }

  -- and then its end
  pub ran_end : (store : S) (commands : List Command) (first now next : P) (before after : RecordsValue) (i k : ℕ) (r : Record) → RanTo store commands first now before i → length commands ≤ i → number first ≡ k → thread ≡ k + 1
      → belongs store next × (number next ≡ number now) → gives (number now) (limited MOST (end_meaning 0)) (own now) r.footprint (own next) → IsAnswered (length (opening store)) (limited MOST (end_meaning 0)) r
      → after.items ≡ before.items ++ r ∷ [] → r.thread ≡ thread → r.mark ≡ mark.End → PassRan limit gives belongs number own opening store k commands next after.items
  ran_end store commands first now next before after i k r so_far all numbered is pass own_next answers added by marked =
      let given = subst (λ (cs : List Command). AreGiven gives (number first) (map (asked limit thread) cs) [] before.items (own now)) (take_all i commands all) so_far.given in
      let answered = subst (λ (cs : List Command). AreAnswered (length (opening store)) (map (asked limit thread) cs) before.items) (take_all i commands all) so_far.answered in
      let labelled = subst (λ (cs : List Command). map label before.items ++ labels thread (i + 1) cs ≡ labels thread 1 commands) (drop_all i commands all) so_far.labelled in
      let ends = thread_ends limit thread gives commands (number first) (number now) (own now) (own next) before.items r given answered so_far.pass.1 own_next answers in record {
        belongs_to = pass.0;
        number_is = pass.1 ∙ so_far.pass.1 ∙ numbered;
        labelled = subst (λ (t : ℕ). map label after.items ≡ labels t 1 commands) is (ap (map label) added ∙ labels_end thread (i + 1) before.items r (labels thread 1 commands) by marked labelled);
        answered = subst (λ (t : ℕ). AreAnswered (length (opening store)) (meanings limit t commands) after.items) is (subst (AreAnswered (length (opening store)) (meanings limit thread commands)) (sym added) ends.1);
        own_is = subst (λ (j : ℕ). AreGiven gives j (meanings limit (k + 1) commands) [] after.items (own next)) numbered (subst (λ (t : ℕ). AreGiven gives (number first) (meanings limit t commands) [] after.items (own next)) is (subst (λ rs. AreGiven gives (number first) (meanings limit thread commands) [] rs (own next)) (sym added) ends.0));
      }

length-labels : (thread number : ℕ) (cs : List Command) → length (labels thread number cs) ≡ length cs + 1
length-labels thread number [] = refl
length-labels thread number (c ∷ cs) = ap suc (length-labels thread (number + 1) cs) ∙ omega arith

-- there is a record for each command, and one for the end
pub room_length : (thread : ℕ) (commands : List Command) (records : List Record) → map label records ≡ labels thread 1 commands → length records ≡ length commands + 1
room_length thread commands records e = sym (length-map records label) ∙ ap length e ∙ length-labels thread 1 commands
