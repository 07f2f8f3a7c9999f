-- What operations on the jobs' parts, and on a queue before them, make of one of the jobs.
use Rattle.std.proofs.Common.{◌≡◌, ◌≢◌, ◌⊎◌, ℕ, ◌+◌, ◌<◌, ◌≤◌, Bool, true, false, cond, List, length, Option, Some, None, inl, inr, refl, sym, ap, ap₂, subst, ◌∙◌, arith}
use Rattle.std.specs.Prelude.{◌==◌}
use Rattle.std.proofs.lemmas.Bool.Decides.{nat_tests}
use borrow.Author.Tests.{eqb-false}
use Rattle.kc_cells.proofs.OnePlaces.{holds_held, place_own}
use Rattle.kc_cells.specs.OnePlace.{PlaceHolds, place_cells, value_held}
use Rattle.kc_cells.specs.Promise.{promise_meaning, promise_value}
use Rattle.kc_cells.specs.declared.promise.Promise.{Promise}
use Rattle.kc_cells.specs.declared.promise.PromiseAct.{PromiseAct}
use Rattle.kc_cells.specs.declared.promise.PromiseOp.{PromiseOp}
use Rattle.kc_compose.proofs.Leads.{leads_also, leads_more}
use Rattle.kc_compose.proofs.Stood.{OnlyWithin, leads_find, leads_promise, leads_value, leads_within}
use Rattle.kc_compose.specs.Leads.{LeadsTo}
use Rattle.kc_hash.proofs.Chained.{same_cells, shows}
use Rattle.kc_hash.proofs.FiniteMaps.{value_at-other, value_at-with}
use Rattle.kc_hash.proofs.HashLaw.{hash_stays}
use Rattle.kc_hash.proofs.Values.{hash_means}
use Rattle.kc_hash.specs.Content.{HashStandsFor, found_reply, hash_shown, hash_value, pairs_after, put_value, value_at, with_pair}
use Rattle.kc_hash.specs.Meaning.{hash_cells_end, hash_meaning, hash_program}
use Rattle.kc_hash.specs.declared.hash.Hash.{Hash}
use Rattle.kc_hash.specs.declared.operation.HashAct.TheVariants.{Find as find, Put as put_state}
use Rattle.kc_hash.specs.declared.operation.HashOp.{HashOp}
use Rattle.kc_model.specs.declared.reply.Reply.{Reply}
use Rattle.kc_model.specs.declared.reply.Reply.TheVariants as reply
use Rattle.kc_queue.proofs.QueueLaw.{queue_stays}
use Rattle.kc_queue.specs.Meaning.{queue_cells_end, queue_count_cell, queue_counted, queue_meaning, queue_program}
use Rattle.kc_queue.specs.declared.operation.QueueAct.TheVariants as queue
use Rattle.kc_queue.specs.declared.queue.Queue.{Queue}
use Rattle.kc_queue.specs.declared.operation.QueueOp.{QueueOp}
use Rattle.kc_jobs_laws.specs.Taken.{AreJobCells, AreJobsLaid, IsEndOfJob, Job, end_cell, job_at, job_of}
use Rattle.kc_jobs_laws.specs.declared.jobs.Jobs.{Jobs}
use Rattle.kc_xt.proofs.PlainRuns.{plain-meaning}
use Rattle.kc_xt.specs.Meaning.{Meaning, Outcome, replied, too_large}
use Rattle.kc_xt.specs.Program.{Plain, Program, plain, replies}
use Rattle.kc_xt.specs.Structure.{SameCells, WellFormed}

-- a job that is asked for, if it is this one
abbrev pub Found : Bool → Job → Reply → Job → Type 0
Found this j b k = (this ≡ true → b ≡ found_reply j.state) × (k ≡ j)

-- if it is this one it has that state; or the table is full, and hasn't the job
abbrev pub Marked : Bool → ℕ → Job → Reply → Job → Type 0
Marked this state j a k = ((this ≡ true → j.state ≡ None) × (a ≡ reply.Full) × (k ≡ j)) ⊎ ((a ≡ reply.Unit) × (k ≡ cond this (job_of (Some state) j.told) j))

-- its end is told so, and says so
abbrev pub Told : Bool → PromiseAct → Job → Reply → Job → Type 0
Told this act j a k = (this ≡ true → (promise_value act j.told).outcome ≡ replied a) × (k ≡ cond this (job_of j.state (promise_value act j.told).content) j)

abbrev pub Stays : Job → Reply → Job → Type 0
Stays j a k = k ≡ j

-- a key has its value then; or the table is full, and hasn't the key
abbrev PutsSo : ℕ → ℕ → List (ℕ × ℕ) → Reply → List (ℕ × ℕ) → Type 0
PutsSo key value ps a qs = ((value_at ps key ≡ None) × (a ≡ reply.Full) × (qs ≡ ps)) ⊎ ((a ≡ reply.Unit) × (qs ≡ with_pair ps key value))

puts_one : (room key value : ℕ) (ps : List (ℕ × ℕ)) (o : Option ℕ) (a : Reply) → value_at ps key ≡ o → (put_value room key value ps o).outcome ≡ replied a → PutsSo key value ps a (put_value room key value ps o).content
puts_one room key value ps None a e = by_test (length ps == room)
  where
    by_test : (t : Bool) → (cond t (pairs_after reply.Full ps) (pairs_after reply.Unit (with_pair ps key value))).outcome ≡ replied a → PutsSo key value ps a (cond t (pairs_after reply.Full ps) (pairs_after reply.Unit (with_pair ps key value))).content
    by_test true said = inl (e, cc, refl)
    by_test false said = inr (cc, refl)
puts_one room key value ps (Some v) a e = λ said. inr (cc, refl)

fits : (o : Outcome) (a : Reply) → o ≡ replied a → o ≢ too_large
fits o a e = λ q. cc

full_or_done : (t : Bool) (w : ℕ → ℕ) (m : ℕ → ℕ) (a : Reply) → (cond {A = Plain} t (record { outcome = replied reply.Full; map = m }) (record { outcome = replied reply.Unit; map = w })).outcome ≡ replied a → (a ≡ reply.Full) ⊎ (a ≡ reply.Unit)
full_or_done true w m a e = inl (cc)
full_or_done false w m a e = inr (cc)

plain_if : (t : Bool) (p q : Program) (m : ℕ → ℕ) → plain (cond t p q) m ≡ cond t (plain p m) (plain q m)
plain_if true p q m = refl
plain_if false p q m = refl

enq_says : (q : Queue) (v : ℕ) (m : ℕ → ℕ) (a : Reply) → (plain (queue_program q (queue.Enq v) replies) m).outcome ≡ replied a → (a ≡ reply.Full) ⊎ (a ≡ reply.Unit)
unfolding queue_program
enq_says q v m a e = full_or_done (queue_counted q (m (queue_count_cell q)) == q.cap) _ m a (ap (λ (p : Plain). p.outcome) (sym (plain_if (queue_counted q (m (queue_count_cell q)) == q.cap) _ _ m)) ∙ e)

leads_mark : (h : Hash) (key value : ℕ) → (let o : HashOp = record { hash = h; act = put_state key value } in LeadsTo (WellFormed (HashStandsFor h)) (λ m a w. PutsSo key value (hash_shown h m) a (hash_shown h w) × OnlyWithin h.base.0 (hash_cells_end h) m w) (hash_meaning o))
leads_mark h key value n m ks a there e =
    let o : HashOp = record { hash = h; act = put_state key value } in
    let one = leads_value (HashStandsFor h) (hash_shown h) h.base.0 (hash_cells_end h) (hash_program h (put_state key value) replies) (hash_value h (put_state key value)) (shows h) (hash_stays o) (hash_means o) n m ks a there e in
    (one.0, (subst (PutsSo key value (hash_shown h m) a) (sym one.1.1) (puts_one h.cap key value (hash_shown h m) _ a refl one.1.0), one.1.2))

module _ (s : Jobs) (laid : AreJobsLaid s) where
  abbrev table : ℕ
  table = s.states.base.0

  table_stays : (m w : ℕ → ℕ) → SameCells table (hash_cells_end s.states) m w → WellFormed (HashStandsFor s.states) m → WellFormed (HashStandsFor s.states) w × (hash_shown s.states w ≡ hash_shown s.states m)
  table_stays m w same (c, stood) = let then = same_cells s.states m c stood w same in ((c, then), shows s.states w c then ∙ sym (shows s.states m c stood))

  end_stays : (job : ℕ) (m w : ℕ → ℕ) → SameCells (end_cell s job) (end_cell s job + place_cells) m w → WellFormed (PlaceHolds (end_cell s job)) m → WellFormed (PlaceHolds (end_cell s job)) w × (value_held (end_cell s job) w ≡ value_held (end_cell s job) m)
  end_stays job m w same (c, held) = let then = place_own (end_cell s job) m w c same held in ((c, then), holds_held (end_cell s job) w c then ∙ sym (holds_held (end_cell s job) m c held))

  off_ends : (m w : ℕ → ℕ) → OnlyWithin table (hash_cells_end s.states) m w → (job : ℕ) → job < s.many → SameCells (end_cell s job) (end_cell s job + place_cells) m w
  off_ends m w out job lt l ge below = sym (out l (λ c le under q. omega (arith, lt, below, le, q, laid.states)))

  module _ (i : ℕ) (lt : i < s.many) where
    -- it holds between what is shown of the job
    abbrev pub On : (Job → Reply → Job → Type 0) → (ℕ → ℕ) → Reply → (ℕ → ℕ) → Type 0
    On so m a w = so (job_at s m i) a (job_at s w i)

    by_table : (R : (ℕ → ℕ) → Reply → (ℕ → ℕ) → Type 0) (so : Job → Reply → Job → Type 0) (p : Meaning) → LeadsTo (WellFormed (HashStandsFor s.states)) (λ m a w. R m a w × OnlyWithin table (hash_cells_end s.states) m w) p → ((m w : ℕ → ℕ) (a : Reply) → R m a w → value_held (end_cell s i) w ≡ value_held (end_cell s i) m → On so m a w) → LeadsTo (AreJobCells s) (On so) p
    by_table R so p h is = leads_more (AreJobCells s) (λ m a w. R m a w × OnlyWithin table (hash_cells_end s.states) m w) (On so) p
        (leads_also (WellFormed (HashStandsFor s.states)) (AreJobCells s) (λ m a w. R m a w × OnlyWithin table (hash_cells_end s.states) m w) p h (λ m parts. parts.0) (λ m w a parts then r. (then, λ job below. (end_stays job m w (off_ends m w r.1 job below) (parts.1 job below)).0)))
        (λ m w a parts r. is m w a r.0 (end_stays i m w (off_ends m w r.1 i lt) (parts.1 i lt)).1)

    pub finds : (job : ℕ) → (let o : HashOp = record { hash = s.states; act = find job } in LeadsTo (AreJobCells s) (On (Found (i == job))) (hash_meaning o))
    finds job = let o : HashOp = record { hash = s.states; act = find job } in by_table (λ m a w. (a ≡ found_reply (value_at (hash_shown s.states m) job)) × (hash_shown s.states w ≡ hash_shown s.states m)) (Found (i == job)) (hash_meaning o)
        (λ n m ks a there e. let one = leads_find s.states job n m ks a there e in (one.0, ((one.1.0, one.1.1), one.1.2)))
        (λ m w a r held. (λ e. let same : i ≡ job = grind (arith, nat_tests, e) in subst (λ k. a ≡ found_reply (value_at (hash_shown s.states m) k)) (sym same) r.0, ap₂ job_of (ap (λ ps. value_at ps i) r.1) held))

    pub marks : (job state : ℕ) → (let o : HashOp = record { hash = s.states; act = put_state job state } in LeadsTo (AreJobCells s) (On (Marked (i == job) state)) (hash_meaning o))
    marks job state = let o : HashOp = record { hash = s.states; act = put_state job state } in by_table (λ m a w. PutsSo job state (hash_shown s.states m) a (hash_shown s.states w)) (Marked (i == job) state) (hash_meaning o) (leads_mark s.states job state) so
      where
        by_test : (m w : ℕ → ℕ) (this : Bool) → (i == job) ≡ this → hash_shown s.states w ≡ with_pair (hash_shown s.states m) job state → value_held (end_cell s i) w ≡ value_held (end_cell s i) m → job_at s w i ≡ cond this (job_of (Some state) (job_at s m i).told) (job_at s m i)
        by_test m w true e q held = let same : i ≡ job = grind (arith, nat_tests, e) in ap₂ job_of (ap (λ ps. value_at ps i) q ∙ ap (value_at (with_pair (hash_shown s.states m) job state)) same ∙ value_at-with (hash_shown s.states m) job state) held
        by_test m w false e q held = ap₂ job_of (ap (λ ps. value_at ps i) q ∙ value_at-other (hash_shown s.states m) job state i (λ f. eqb-false _ _ e (sym f))) held

        so : (m w : ℕ → ℕ) (a : Reply) → PutsSo job state (hash_shown s.states m) a (hash_shown s.states w) → value_held (end_cell s i) w ≡ value_held (end_cell s i) m → On (Marked (i == job) state) m a w
        so m w a (inl (none, full, q)) held = inl (λ e. let same : i ≡ job = grind (arith, nat_tests, e) in ap (value_at (hash_shown s.states m)) same ∙ none, full, ap₂ job_of (ap (λ ps. value_at ps i) q) held)
        so m w a (inr (unit, q)) held = inr (unit, by_test m w (i == job) refl q held)

    -- what an operation on a promise makes of it
    abbrev Tells : Promise → PromiseAct → (ℕ → ℕ) → Reply → (ℕ → ℕ) → Type 0
    Tells end act m a w = ((promise_value act (value_held end.base.0 m)).outcome ≡ replied a) × (value_held end.base.0 w ≡ (promise_value act (value_held end.base.0 m)).content) × OnlyWithin end.base.0 (end.base.0 + place_cells) m w

    pub tells : (job : ℕ) (end : Promise) (act : PromiseAct) → IsEndOfJob s job end → (let o : PromiseOp = record { promise = end; act = act } in LeadsTo (AreJobCells s) (On (Told (i == job) act)) (promise_meaning o))
    tells job end act is = let o : PromiseOp = record { promise = end; act = act } in leads_more (AreJobCells s) (Tells end act) (On (Told (i == job) act)) (promise_meaning o)
        (leads_also (WellFormed (PlaceHolds end.base.0)) (AreJobCells s) (Tells end act) (promise_meaning o) (leads_promise end act) (λ m parts. subst (λ b. WellFormed (PlaceHolds b) m) (sym is.cell) (parts.1 job is.one)) keeps)
        (λ m w a parts r. (λ e. let same : i ≡ job = grind (arith, nat_tests, e) in subst (λ b. (promise_value act (value_held b m)).outcome ≡ replied a) (is.cell ∙ ap (end_cell s) (sym same)) r.0, by_test m w (i == job) refl parts r.1 r.2))
      where
        off_table : (m w : ℕ → ℕ) → OnlyWithin end.base.0 (end.base.0 + place_cells) m w → SameCells table (hash_cells_end s.states) m w
        off_table m w out l ge below = sym (out l (λ c le under q. omega (arith, is.one, is.cell, ge, under, q, laid.states)))

        off_end : (m w : ℕ → ℕ) → OnlyWithin end.base.0 (end.base.0 + place_cells) m w → (k : ℕ) → k ≢ job → SameCells (end_cell s k) (end_cell s k + place_cells) m w
        off_end m w out k ne l ge below = sym (out l (λ c le under q. omega (arith, ne, is.cell, ge, below, le, under, q)))

        keeps : (m w : ℕ → ℕ) (a : Reply) → AreJobCells s m → WellFormed (PlaceHolds end.base.0) w → Tells end act m a w → AreJobCells s w
        keeps m w a parts then r = ((table_stays m w (off_table m w r.2) parts.0).0, λ k below. one k below (k == job) refl)
          where
            one : (k : ℕ) → k < s.many → (t : Bool) → (k == job) ≡ t → WellFormed (PlaceHolds (end_cell s k)) w
            one k below true e = let same : k ≡ job = grind (arith, nat_tests, e) in subst (λ b. WellFormed (PlaceHolds b) w) (is.cell ∙ ap (end_cell s) (sym same)) then
            one k below false e = (end_stays k m w (off_end m w r.2 k (eqb-false _ _ e)) (parts.1 k below)).0

        by_test : (m w : ℕ → ℕ) (this : Bool) → (i == job) ≡ this → AreJobCells s m → value_held end.base.0 w ≡ (promise_value act (value_held end.base.0 m)).content → OnlyWithin end.base.0 (end.base.0 + place_cells) m w → job_at s w i ≡ cond this (job_of (job_at s m i).state (promise_value act (job_at s m i).told).content) (job_at s m i)
        by_test m w true e parts held out =
            let same : i ≡ job = grind (arith, nat_tests, e) in
            let at : end.base.0 ≡ end_cell s i = is.cell ∙ ap (end_cell s) (sym same) in
            ap₂ job_of (ap (λ ps. value_at ps i) (table_stays m w (off_table m w out) parts.0).1) (subst (λ b. value_held b w ≡ (promise_value act (value_held b m)).content) at held)
        by_test m w false e parts held out = ap₂ job_of (ap (λ ps. value_at ps i) (table_stays m w (off_table m w out) parts.0).1) (end_stays i m w (off_end m w out i (eqb-false _ _ e)) (parts.1 i lt)).1

    pub queues : (o : QueueOp) → queue_cells_end o.queue ≤ s.ends.base.0 → LeadsTo (AreJobCells s) (On Stays) (queue_meaning o)
    queues o before = leads_more (AreJobCells s) (λ m a w. OnlyWithin o.queue.base.0 (queue_cells_end o.queue) m w) (On Stays) (queue_meaning o) (leads_within o.queue.base.0 (queue_cells_end o.queue) (AreJobCells s) (queue_program o.queue o.act replies) (queue_stays o) keeps)
        (λ m w a parts out. ap₂ job_of (ap (λ ps. value_at ps i) (table_stays m w (off_table m w out) parts.0).1) (end_stays i m w (off_end m w out i) (parts.1 i lt)).1)
      where
        off_table : (m w : ℕ → ℕ) → OnlyWithin o.queue.base.0 (queue_cells_end o.queue) m w → SameCells table (hash_cells_end s.states) m w
        off_table m w out l ge below = sym (out l (λ c le under q. omega (arith, ge, under, q, before, laid.states)))

        off_end : (m w : ℕ → ℕ) → OnlyWithin o.queue.base.0 (queue_cells_end o.queue) m w → (k : ℕ) → SameCells (end_cell s k) (end_cell s k + place_cells) m w
        off_end m w out k l ge below = sym (out l (λ c le under q. omega (arith, ge, under, q, before)))

        keeps : (m w : ℕ → ℕ) → OnlyWithin o.queue.base.0 (queue_cells_end o.queue) m w → AreJobCells s m → AreJobCells s w
        keeps m w out parts = ((table_stays m w (off_table m w out) parts.0).0, λ k below. (end_stays k m w (off_end m w out k) (parts.1 k below)).0)

    -- a put into a queue says that it is done, or Full
    pub enqueues : (q : Queue) (v : ℕ) → queue_cells_end q ≤ s.ends.base.0 → (let o : QueueOp = record { queue = q; act = queue.Enq v } in LeadsTo (AreJobCells s) (On (λ j a k. (k ≡ j) × ((a ≡ reply.Full) ⊎ (a ≡ reply.Unit)))) (queue_meaning o))
    enqueues q v before n m ks a parts e =
        let o : QueueOp = record { queue = q; act = queue.Enq v } in
        let one = queues o before n m ks a parts e in
        (one.0, (one.1, enq_says q v m a (sym (plain-meaning (queue_program q (queue.Enq v) replies) n m ks (fits _ a e)).0 ∙ e)))
