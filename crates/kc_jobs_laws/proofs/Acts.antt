-- What each act makes of each job.
use Rattle.std.proofs.Common.{◌≡◌, ◌≢◌, ◌⊎◌, ℕ, ◌<◌, ◌≤◌, Bool, true, false, cond, Option, Some, None, inl, inr, refl, sym, ap, subst, ◌∙◌, arith}
use Rattle.std.specs.Prelude.{◌==◌}
use Rattle.std.proofs.lemmas.Bool.Decides.{nat_tests}
use borrow.Author.Tests.{eqb-false}
use Rattle.kc_cells.specs.Promise.{promise_meaning, promise_value}
use Rattle.kc_cells.specs.declared.promise.Promise.{Promise}
use Rattle.kc_cells.specs.declared.promise.PromiseAct.TheVariants.{Await as await, Resolve as resolve}
use Rattle.kc_cells.specs.declared.promise.PromiseOp.{PromiseOp}
use Rattle.kc_compose.proofs.Leads.{leads_fed, leads_give, leads_more, leads_say, leads_then, leads_unless, leads_wait, leads_when}
use Rattle.kc_compose.specs.Found.{moves_item}
use Rattle.kc_compose.specs.Leads.{LeadsTo}
use Rattle.kc_compose.specs.Meaning.{both_meaning, fed_meaning, give_meaning, say_meaning, unless_meaning, wait_meaning, when_meaning, number_said}
use Rattle.kc_compose.specs.Sort.{is_of}
use Rattle.kc_compose.specs.declared.sort.Sort.{Sort}
use Rattle.kc_compose.specs.declared.sort.Sort.TheVariants.{Empty, Full, Is}
use Rattle.kc_hash.specs.Content.{found_reply}
use Rattle.kc_hash.specs.Meaning.{hash_meaning}
use Rattle.kc_hash.specs.declared.operation.HashAct.TheVariants.{Find as find, Put as put_state}
use Rattle.kc_hash.specs.declared.operation.HashOp.{HashOp}
use Rattle.kc_jobs.specs.declared.jobs.TheConstants.{RUNNING, WAITING}
use Rattle.kc_jobs_laws.proofs.Parts.{Found, Marked, On, Stays, Told, enqueues, finds, marks, queues, tells}
use Rattle.kc_jobs_laws.specs.Acts.{moves_meaning, settles_job, settles_meaning, starts_meaning, starts_next, submits_job, submits_meaning}
use Rattle.kc_jobs_laws.specs.Taken.{AreJobCells, AreJobsLaid, AwaitsJob, IsEndOfJob, Job, SettlesJob, StartsJob, StaysSo, SubmitsJob, TakesJobs, has_no_room, is_known, is_otherwise, is_settled, is_started, is_submitted, job_at, job_of, settles_none, starts_none, submits_none}
use Rattle.kc_jobs_laws.specs.declared.jobs.Jobs.{Jobs}
use Rattle.kc_model.specs.declared.reply.Reply.{Reply}
use Rattle.kc_model.specs.declared.reply.Reply.TheVariants as reply
use Rattle.kc_queue.specs.Meaning.{queue_cells_end, queue_meaning}
use Rattle.kc_queue.specs.declared.operation.QueueAct.TheVariants as queue
use Rattle.kc_queue.specs.declared.operation.QueueOp.{QueueOp}
use Rattle.kc_queue.specs.declared.queue.Queue.{Queue}
use Rattle.kc_xt.specs.Meaning.{Meaning, replied}

found_none : (o : Option ℕ) (b : Reply) → b ≡ found_reply o → is_of Empty b ≡ true → o ≡ None
found_none None b e is = refl
found_none (Some v) b e is = absurd (cc)

found_some : (o : Option ℕ) (b : Reply) → b ≡ found_reply o → is_of Empty b ≡ false → o ≢ None
found_some None b e isnt = absurd (cc)
found_some (Some v) b e isnt = λ q. cc

found_number : (n : ℕ) (o : Option ℕ) (b : Reply) → b ≡ found_reply o → is_of (Is n) b ≡ true → o ≡ Some n
found_number n None b e is = absurd (cc)
found_number n (Some v) b e is = let same : (v == n) ≡ true = ap (is_of (Is n)) (sym e) ∙ is in let q : v ≡ n = grind (arith, nat_tests, same) in ap Some q

found_other : (n : ℕ) (o : Option ℕ) (b : Reply) → b ≡ found_reply o → is_of (Is n) b ≡ false → o ≢ Some n
found_other n None b e isnt = λ q. cc
found_other n (Some v) b e isnt = let other : (v == n) ≡ false = ap (is_of (Is n)) (sym e) ∙ isnt in λ q. eqb-false _ _ other (cc)

is_full : (a : Reply) → is_of Full a ≡ true → a ≡ reply.Full
is_full reply.Unit e = absurd (cc)
is_full (reply.Value n) e = absurd (cc)
is_full (reply.Bool b) e = absurd (cc)
is_full reply.Empty e = absurd (cc)
is_full reply.Full e = refl
is_full reply.Stranded e = absurd (cc)
is_full reply.Cancelled e = absurd (cc)
is_full (reply.Many items) e = absurd (cc)

isnt_number : (i : ℕ) (a : Reply) → number_said a ≡ None → a ≢ reply.Value i
isnt_number i a none q = let same : number_said a ≡ Some i = ap number_said q in cc

-- ---- the operations

abbrev finding : Jobs → ℕ → Meaning
finding s job = let o : HashOp = record { hash = s.states; act = find job } in hash_meaning o

abbrev marking : Jobs → ℕ → ℕ → Meaning
marking s job state = let o : HashOp = record { hash = s.states; act = put_state job state } in hash_meaning o

abbrev resolving : Promise → ℕ → Meaning
resolving end v = let o : PromiseOp = record { promise = end; act = resolve v } in promise_meaning o

abbrev taken : Queue → QueueOp
taken q = record { queue = q; act = queue.DeqWait }

abbrev put_in : Queue → ℕ → QueueOp
put_in q job = record { queue = q; act = queue.Enq job }

abbrev noting : Jobs → Queue → ℕ → Meaning
noting s line job = unless_meaning Full (marking s job WAITING) (queue_meaning (put_in line job))

abbrev settling : Jobs → Promise → ℕ → ℕ → ℕ → Meaning
settling s end job state v = both_meaning (marking s job state) (resolving end v)

abbrev beginning : Jobs → ℕ → Meaning
beginning s job = when_meaning (Is WAITING) (finding s job) (both_meaning (marking s job RUNNING) (say_meaning (reply.Value job))) (say_meaning reply.Empty)

abbrev moving : Queue → ℕ → Meaning
moving ready job = wait_meaning Full (queue_meaning (put_in ready job))

-- ---- one job

module _ (s : Jobs) (laid : AreJobsLaid s) where
  module _ (i : ℕ) (lt : i < s.many) where
    abbrev Does : (Job → Reply → Job → Type 0) → Meaning → Type 0
    Does J = LeadsTo (AreJobCells s) (On s laid i lt J)

    this_one : (job : ℕ) → (i == job) ≡ true → i ≡ job
    this_one job e = grind (arith, nat_tests, e)

    -- the table is asked for a job, and where what it says is of the sort, that follows; else this is replied
    guarded : (job : ℕ) (sort : Sort) (old : Option ℕ) (Q T : Job → Reply → Job → Type 0) (q : Meaning) (r : Reply) → Does Q q → ((o : Option ℕ) (b : Reply) → b ≡ found_reply o → is_of sort b ≡ true → o ≡ old) → ((o : Option ℕ) (b : Reply) → b ≡ found_reply o → is_of sort b ≡ false → o ≢ old) → ((j k : Job) (a : Reply) → ((i == job) ≡ true → j.state ≡ old) → Q j a k → T j a k) → ((j : Job) → ((i == job) ≡ true → j.state ≢ old) → T j r j) → Does T (when_meaning sort (finding s job) q (say_meaning r))
    guarded job sort old Q T q r then found unfound goes refused = leads_when (AreJobCells s) sort (On s laid i lt (Found (i == job))) (On s laid i lt Q) (λ m a w. (a ≡ r) × (w ≡ m)) (On s laid i lt T) (finding s job) q (say_meaning r) (finds s laid i lt job) then (leads_say (AreJobCells s) r)
        (λ m w x b a asked e two. goes (job_at s m i) (job_at s x i) a (λ this. found (job_at s m i).state b (asked.0 this) e) (subst (λ j. Q j a (job_at s x i)) asked.1 two))
        (λ m w x b a asked e two. subst (λ k. T (job_at s m i) a k) (sym (ap (λ u. job_at s u i) two.1 ∙ asked.1)) (subst (λ c. T (job_at s m i) c (job_at s m i)) (sym two.0) (refused (job_at s m i) (λ this. unfound (job_at s m i).state b (asked.0 this) e))))

    -- a new job waits then, or there was no room
    abbrev NotedIf : Bool → Job → Reply → Job → Type 0
    NotedIf this j a k = ((a ≡ reply.Full) × (k ≡ j)) ⊎ ((a ≡ reply.Unit) × (k ≡ cond this (job_of (Some WAITING) j.told) j))

    -- both are noted, or one said Full
    abbrev NotedBoth : Bool → Job → Reply → Job → Type 0
    NotedBoth this j a k = (a ≡ reply.Full) ⊎ ((a ≡ reply.Unit) × (k ≡ cond this (job_of (Some WAITING) j.told) j))

    submits : (line : Queue) (job : ℕ) → queue_cells_end line ≤ s.ends.base.0 → Does (SubmitsJob job i) (when_meaning Empty (finding s job) (give_meaning Full (noting s line job)) (say_meaning (reply.Bool false)))
    submits line job before = guarded job Empty None (NotedIf (i == job)) (SubmitsJob job i) (give_meaning Full (noting s line job)) (reply.Bool false) noted found_none found_some (λ j k a found q. submitted j k a (i == job) refl found q) (λ j unfound. refused j (i == job) refl unfound)
      where
        submitted : (j k : Job) (a : Reply) (this : Bool) → (i == job) ≡ this → (this ≡ true → j.state ≡ None) → NotedIf this j a k → SubmitsJob job i j a k
        submitted j k a true e found (inl (full, q)) = subst (SubmitsJob job i j a) (sym q) (has_no_room (this_one job e) (found refl) full)
        submitted j k a true e found (inr (unit, q)) = subst (SubmitsJob job i j a) (sym q) (is_submitted (this_one job e) (found refl) unit)
        submitted j k a false e found (inl (full, q)) = subst (SubmitsJob job i j a) (sym q) (submits_none (eqb-false _ _ e))
        submitted j k a false e found (inr (unit, q)) = subst (SubmitsJob job i j a) (sym q) (submits_none (eqb-false _ _ e))

        refused : (j : Job) (this : Bool) → (i == job) ≡ this → (this ≡ true → j.state ≢ None) → SubmitsJob job i j (reply.Bool false) j
        refused j true e unfound = is_known (this_one job e) (unfound refl) refl
        refused j false e unfound = submits_none (eqb-false _ _ e)

        first_full : (j k : Job) (b : Reply) → is_of Full b ≡ true → NotedBoth (i == job) j b k
        first_full j k b e = inl (is_full b e)

        then_line : (j k l : Job) (b a : Reply) → Marked (i == job) WAITING j b k → is_of Full b ≡ false → (l ≡ k) × ((a ≡ reply.Full) ⊎ (a ≡ reply.Unit)) → NotedBoth (i == job) j a l
        then_line j k l b a (inl (none, full, q)) e two = let not : is_of Full b ≡ true = ap (is_of Full) full in absurd (cc)
        then_line j k l b a (inr (unit, q)) e (same, inl full) = inl full
        then_line j k l b a (inr (unit, q)) e (same, inr fine) = inr (fine, same ∙ q)

        either : (m w : ℕ → ℕ) (a : Reply) → ((is_of Full a ≡ true) × (w ≡ m)) ⊎ ((is_of Full a ≡ false) × On s laid i lt (NotedBoth (i == job)) m a w) → On s laid i lt (NotedIf (i == job)) m a w
        either m w a (inl (e, same)) = inl (is_full a e, ap (λ u. job_at s u i) same)
        either m w a (inr (e, inl full)) = let not : is_of Full a ≡ true = ap (is_of Full) full in absurd (cc)
        either m w a (inr (e, inr q)) = inr q

        noted : Does (NotedIf (i == job)) (give_meaning Full (noting s line job))
        noted = leads_more (AreJobCells s) (λ m a w. ((is_of Full a ≡ true) × (w ≡ m)) ⊎ ((is_of Full a ≡ false) × On s laid i lt (NotedBoth (i == job)) m a w)) (On s laid i lt (NotedIf (i == job))) (give_meaning Full (noting s line job))
            (leads_give (AreJobCells s) Full (On s laid i lt (NotedBoth (i == job))) (noting s line job) (leads_unless (AreJobCells s) Full (On s laid i lt (Marked (i == job) WAITING)) (On s laid i lt (λ j a k. (k ≡ j) × ((a ≡ reply.Full) ⊎ (a ≡ reply.Unit)))) (On s laid i lt (NotedBoth (i == job))) (marking s job WAITING) (queue_meaning (put_in line job)) (marks s laid i lt job WAITING) (enqueues s laid i lt line job before) (λ m w b one e. first_full (job_at s m i) (job_at s w i) b e) (λ m w x b a one e two. then_line (job_at s m i) (job_at s w i) (job_at s x i) b a one e two)))
            (λ m w a parts r. either m w a r)

    abbrev told_by : ℕ → Option ℕ → Option ℕ
    told_by v o = (promise_value (resolve v) o).content

    -- the job has this state and its end is told, and says so; or the table was full, and hadn't the job
    abbrev AfterIf : Bool → ℕ → ℕ → Job → Reply → Job → Type 0
    AfterIf this state v j a k = (this ≡ true → (promise_value (resolve v) j.told).outcome ≡ replied a) × (((this ≡ true → j.state ≡ None) × (k ≡ cond this (job_of j.state (told_by v j.told)) j)) ⊎ (k ≡ cond this (job_of (Some state) (told_by v j.told)) j))

    settles : (job old state v : ℕ) (end : Promise) → IsEndOfJob s job end → Does (SettlesJob job old state v i) (when_meaning (Is old) (finding s job) (settling s end job state v) (say_meaning (reply.Bool false)))
    settles job old state v end is = guarded job (Is old) (Some old) (AfterIf (i == job) state v) (SettlesJob job old state v i) (settling s end job state v) (reply.Bool false) both (found_number old) (found_other old) (λ j k a found. after j k a (i == job) refl found) (λ j unfound. refused j (i == job) refl unfound)
      where
        after : (j k : Job) (a : Reply) (this : Bool) → (i == job) ≡ this → (this ≡ true → j.state ≡ Some old) → AfterIf this state v j a k → SettlesJob job old state v i j a k
        after j k a true e found (said, inl (none, q)) = let one = found refl in let other = none refl in absurd (cc)
        after j k a false e found (said, inl (none, q)) = subst (SettlesJob job old state v i j a) (sym q) (settles_none (eqb-false _ _ e))
        after j k a true e found (said, inr q) = subst (SettlesJob job old state v i j a) (sym q) (is_settled (this_one job e) (found refl) (said refl))
        after j k a false e found (said, inr q) = subst (SettlesJob job old state v i j a) (sym q) (settles_none (eqb-false _ _ e))

        refused : (j : Job) (this : Bool) → (i == job) ≡ this → (this ≡ true → j.state ≢ Some old) → SettlesJob job old state v i j (reply.Bool false) j
        refused j true e unfound = is_otherwise (this_one job e) (unfound refl) refl
        refused j false e unfound = settles_none (eqb-false _ _ e)

        same_told : (this : Bool) (j k : Job) (b : Reply) → Marked this state j b k → k.told ≡ j.told
        same_told this j k b (inl (none, full, e)) = ap (λ (x : Job). x.told) e
        same_told true j k b (inr (unit, e)) = ap (λ (x : Job). x.told) e
        same_told false j k b (inr (unit, e)) = ap (λ (x : Job). x.told) e

        left : (this : Bool) (j k l : Job) (b : Reply) → Marked this state j b k → l ≡ cond this (job_of k.state (told_by v k.told)) k → ((this ≡ true → j.state ≡ None) × (l ≡ cond this (job_of j.state (told_by v j.told)) j)) ⊎ (l ≡ cond this (job_of (Some state) (told_by v j.told)) j)
        left this j k l b (inl (none, full, e)) two = inl (none, subst (λ x. l ≡ cond this (job_of x.state (told_by v x.told)) x) e two)
        left true j k l b (inr (unit, e)) two = inr (subst (λ x. l ≡ job_of x.state (told_by v x.told)) e two)
        left false j k l b (inr (unit, e)) two = inr (two ∙ e)

        joined : (this : Bool) (j k l : Job) (b a : Reply) → Marked this state j b k → Told this (resolve v) k a l → AfterIf this state v j a l
        joined this j k l b a one two = (λ e. subst (λ o. (promise_value (resolve v) o).outcome ≡ replied a) (same_told this j k b one) (two.0 e), left this j k l b one two.1)

        both : Does (AfterIf (i == job) state v) (settling s end job state v)
        both = leads_then (AreJobCells s) (On s laid i lt (Marked (i == job) state)) (On s laid i lt (AfterIf (i == job) state v)) (λ b. On s laid i lt (Told (i == job) (resolve v))) (marking s job state) (λ b. resolving end v) (marks s laid i lt job state) (λ b. tells s laid i lt job end (resolve v) is) (λ m w x b a one two. joined (i == job) (job_at s m i) (job_at s w i) (job_at s x i) b a one two)

    -- what comes out of a queue goes on so
    fed : (q : Queue) (f : ℕ → Meaning) (T : Job → Reply → Job → Type 0) → queue_cells_end q ≤ s.ends.base.0 → ((job : ℕ) → Does T (f job)) → ((j k : Job) (a : Reply) → number_said a ≡ None → k ≡ j → T j a k) → Does T (fed_meaning (queue_meaning (taken q)) f)
    fed q f T before next stays = leads_fed (AreJobCells s) (On s laid i lt Stays) (On s laid i lt T) (λ job. On s laid i lt T) (queue_meaning (taken q)) f (queues s laid i lt (taken q) before) next
        (λ m w x b a job one e two. subst (λ j. T j a (job_at s x i)) one two)
        (λ m w b one e. stays (job_at s m i) (job_at s w i) b e one)

    -- it is marked, and its number is replied
    abbrev BegunIf : Bool → ℕ → Job → Reply → Job → Type 0
    BegunIf this job j a k = (a ≡ reply.Value job) × (((this ≡ true → j.state ≡ None) × (k ≡ j)) ⊎ (k ≡ cond this (job_of (Some RUNNING) j.told) j))

    begins : (job : ℕ) → Does (StartsJob i) (beginning s job)
    begins job = guarded job (Is WAITING) (Some WAITING) (BegunIf (i == job) job) (StartsJob i) (both_meaning (marking s job RUNNING) (say_meaning (reply.Value job))) reply.Empty begun (found_number WAITING) (found_other WAITING) (λ j k a found one. starts j k a (i == job) refl found one.0 one.1) (λ j unfound. starts_none (λ q. cc))
      where
        other : (a : Reply) → (i == job) ≡ false → a ≡ reply.Value job → a ≢ reply.Value i
        other a e said q = let same : reply.Value i ≡ reply.Value job = sym q ∙ said in eqb-false _ _ e (cc)

        starts : (j k : Job) (a : Reply) (this : Bool) → (i == job) ≡ this → (this ≡ true → j.state ≡ Some WAITING) → a ≡ reply.Value job → ((this ≡ true → j.state ≡ None) × (k ≡ j)) ⊎ (k ≡ cond this (job_of (Some RUNNING) j.told) j) → StartsJob i j a k
        starts j k a true e found said (inl (none, q)) = let one = found refl in let two = none refl in absurd (cc)
        starts j k a false e found said (inl (none, q)) = subst (StartsJob i j a) (sym q) (starts_none (other a e said))
        starts j k a false e found said (inr q) = subst (StartsJob i j a) (sym q) (starts_none (other a e said))
        starts j k a true e found said (inr q) = subst (StartsJob i j a) (sym q) (is_started (said ∙ ap reply.Value (sym (this_one job e))) (found refl))

        marked : (j k : Job) (b : Reply) → Marked (i == job) RUNNING j b k → (((i == job) ≡ true → j.state ≡ None) × (k ≡ j)) ⊎ (k ≡ cond (i == job) (job_of (Some RUNNING) j.told) j)
        marked j k b (inl (none, full, q)) = inl (none, q)
        marked j k b (inr (unit, q)) = inr q

        begun : Does (BegunIf (i == job) job) (both_meaning (marking s job RUNNING) (say_meaning (reply.Value job)))
        begun = leads_then (AreJobCells s) (On s laid i lt (Marked (i == job) RUNNING)) (On s laid i lt (BegunIf (i == job) job)) (λ b m a w. (a ≡ reply.Value job) × (w ≡ m)) (marking s job RUNNING) (λ b. say_meaning (reply.Value job)) (marks s laid i lt job RUNNING) (λ b. leads_say (AreJobCells s) (reply.Value job)) (λ m w x b a one two. (two.0, subst (λ u. (((i == job) ≡ true → (job_at s m i).state ≡ None) × (job_at s u i ≡ job_at s m i)) ⊎ (job_at s u i ≡ cond (i == job) (job_of (Some RUNNING) (job_at s m i).told) (job_at s m i))) (sym two.1) (marked (job_at s m i) (job_at s w i) b one)))

    moves_on : (ready : Queue) (job : ℕ) → queue_cells_end ready ≤ s.ends.base.0 → Does Stays (moving ready job)
    moves_on ready job before = leads_more (AreJobCells s) (λ m a w. (is_of Full a ≡ false) × On s laid i lt Stays m a w) (On s laid i lt Stays) (moving ready job) (leads_wait (AreJobCells s) Full (On s laid i lt Stays) (queue_meaning (put_in ready job)) (queues s laid i lt (put_in ready job) before)) (λ m w a parts r. r.1)

    awaits : (job : ℕ) (end : Promise) → IsEndOfJob s job end → (let o : PromiseOp = record { promise = end; act = await } in Does (AwaitsJob job i) (promise_meaning o))
    awaits job end is = let o : PromiseOp = record { promise = end; act = await } in leads_more (AreJobCells s) (On s laid i lt (Told (i == job) await)) (On s laid i lt (AwaitsJob job i)) (promise_meaning o) (tells s laid i lt job end await is) (λ m w a parts r. (r.1 ∙ by_test (i == job) (job_at s m i), λ same. r.0 (is_this same)))
      where
        held : (o : Option ℕ) → (promise_value await o).content ≡ o
        held None = refl
        held (Some v) = refl

        by_test : (this : Bool) (j : Job) → cond this (job_of j.state (promise_value await j.told).content) j ≡ j
        by_test true j = ap (job_of j.state) (held j.told)
        by_test false j = refl

        is_this : i ≡ job → (i == job) ≡ true
        is_this same = grind (arith, nat_tests, same)

  -- ---- all jobs

  takes : (so : ℕ → Job → Reply → Job → Type 0) (p : Meaning) → ((i : ℕ) (lt : i < s.many) → Does i lt (so i) p) → TakesJobs s so p
  takes so p each = record { leads = λ n m ks a parts e. ((each 0 laid.some n m ks a parts e).0, λ i lt. (each i lt n m ks a parts e).1) }

  pub submitting : (line : Queue) (job : ℕ) → queue_cells_end line ≤ s.ends.base.0 → TakesJobs s (SubmitsJob job) (submits_meaning (submits_job s.states line job))
  submitting line job before = takes (SubmitsJob job) (submits_meaning (submits_job s.states line job)) (λ i lt. submits i lt line job before)

  pub settled_by : (job old state v : ℕ) (end : Promise) → IsEndOfJob s job end → TakesJobs s (SettlesJob job old state v) (settles_meaning (settles_job s.states end job old state v))
  settled_by job old state v end is = takes (SettlesJob job old state v) (settles_meaning (settles_job s.states end job old state v)) (λ i lt. settles i lt job old state v end is)

  pub releasing : (line ready : Queue) → queue_cells_end line ≤ s.ends.base.0 → queue_cells_end ready ≤ s.ends.base.0 → TakesJobs s StaysSo (moves_meaning (moves_item line ready))
  releasing line ready first second = takes StaysSo (moves_meaning (moves_item line ready)) (λ i lt. fed i lt line (moving ready) Stays first (λ job. moves_on i lt ready job second) (λ j k a e q. q))

  pub starting : (ready : Queue) → queue_cells_end ready ≤ s.ends.base.0 → TakesJobs s StartsJob (starts_meaning (starts_next s ready))
  starting ready before = takes StartsJob (starts_meaning (starts_next s ready)) (λ i lt. fed i lt ready (beginning s) (StartsJob i) before (begins i lt) (λ j k a e q. subst (StartsJob i j a) (sym q) (starts_none (isnt_number i a e))))

  pub awaiting : (job : ℕ) (end : Promise) → IsEndOfJob s job end → (let o : PromiseOp = record { promise = end; act = await } in TakesJobs s (AwaitsJob job) (promise_meaning o))
  awaiting job end is = let o : PromiseOp = record { promise = end; act = await } in takes (AwaitsJob job) (promise_meaning o) (λ i lt. awaits i lt job end is)
