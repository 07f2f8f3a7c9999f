-- Each act takes a job on by one step at most, and what is settled stays so.
use Rattle.std.proofs.Common.{◌≡◌, ℕ, ◌<◌, true, false, Option, Some, None, inl, inr, refl, sym, ap, ap₂, subst, ◌∙◌, arith}
use Rattle.std.specs.Prelude.{◌||◌}
use Rattle.std.specs.Option.{is_some}
use Rattle.kc_jobs.specs.declared.jobs.TheConstants.{CANCELLED, DONE, RUNNING, WAITING}
use Rattle.kc_jobs_laws.specs.Taken.{AreJobCells, AreUnknown, AwaitsJob, Job, SettlesJob, StartsJob, StaysSo, SubmitsJob, TakesJobs, has_no_room, is_known, is_otherwise, is_settled, is_started, is_submitted, job_at, job_of, settles_none, starts_none, submits_none, told_then}
use Rattle.kc_jobs_laws.specs.declared.jobs.Jobs.{Jobs}
use Rattle.kc_model.specs.declared.reply.Reply.{Reply}
use Rattle.kc_sched.specs.Sched.{EachGoes, EndsStay, GoesSo, IsJob, JobGoes, cancelled, comes, done, ends, is_cancelled, is_settled_state, runs, starts, stays, unknown, waits}
use Rattle.kc_sched.specs.declared.sched.Sched.{Sched}
use Rattle.kc_sched.specs.declared.sched.TheConstants.{JOBS}
use Rattle.kc_xt.specs.Meaning.{Meaning}

-- ---- one job

goes_is : (j k : Job) → IsJob j → JobGoes j k → IsJob k
goes_is j k is (stays i) = is
goes_is j k is comes = waits
goes_is j k is starts = runs
goes_is j k is is_cancelled = cancelled
goes_is j k is (ends v) = done v

untold : (j : Job) → IsJob j → is_settled_state j.state ≡ false → j.told ≡ None
untold j unknown e = refl
untold j waits e = refl
untold j runs e = refl
untold j cancelled e = absurd (cc)
untold j (done v) e = absurd (cc)

stay : (j k : Job) → k ≡ j → JobGoes j k
stay j k e = subst (JobGoes j) (sym e) (stays j)

-- a job of which this was said, and whose end is told by nobody yet
from : (old : Option ℕ) (to : Option ℕ → Job) (j k : Job) → is_settled_state old ≡ false → JobGoes (job_of old None) (to None) → j.state ≡ old → k ≡ to j.told → IsJob j → JobGoes j k
from old to j k unsettled step said e is =
    let none = untold j is (ap is_settled_state said ∙ unsettled) in
    subst (λ i. JobGoes i k) (sym (ap₂ job_of said none)) (subst (JobGoes (job_of old None)) (sym (e ∙ ap to none)) step)

-- ---- acts

abbrev marked_as : ℕ → Option ℕ → Job
marked_as state told = job_of (Some state) told

all_go : (s : Sched) (so : ℕ → Job → Reply → Job → Type 0) (p : Meaning) → ((i : ℕ) (j k : Job) (a : Reply) → so i j a k → IsJob j → JobGoes j k) → TakesJobs s.jobs so p → GoesSo s p
all_go s so p step takes n m ks a (many, cells, are) e =
    let one = takes.leads n m ks a cells e in
    let goes : EachGoes s m _ = λ i lt. step i _ _ a (one.1 i (omega (arith, lt, many))) (are i lt) in
    ((many, one.0, λ i lt. goes_is _ _ (are i lt) (goes i lt)), goes)

pub submitting : (s : Sched) (job : ℕ) (p : Meaning) → TakesJobs s.jobs (SubmitsJob job) p → GoesSo s p
submitting s job p = all_go s (SubmitsJob job) p submits
  where
    submits : (i : ℕ) (j k : Job) (a : Reply) → SubmitsJob job i j a k → IsJob j → JobGoes j k
    submits i j k a (submits_none other) is = stays j
    submits i j k a (is_known this known said) is = stays j
    submits i j k a (has_no_room this none said) is = stays j
    submits i j k a (is_submitted this none said) is = from None (marked_as WAITING) j k refl comes none refl is

settling : (s : Sched) (job old state v : ℕ) (p : Meaning) → is_settled_state (Some old) ≡ false → JobGoes (job_of (Some old) None) (told_then state v None) → TakesJobs s.jobs (SettlesJob job old state v) p → GoesSo s p
settling s job old state v p unsettled step = all_go s (SettlesJob job old state v) p settles
  where
    settles : (i : ℕ) (j k : Job) (a : Reply) → SettlesJob job old state v i j a k → IsJob j → JobGoes j k
    settles i j k a (settles_none other) is = stays j
    settles i j k a (is_otherwise this other said) is = stays j
    settles i j k a (is_settled this was said) is = from (Some old) (told_then state v) j k unsettled step was refl is

pub cancelling : (s : Sched) (job : ℕ) (p : Meaning) → TakesJobs s.jobs (SettlesJob job WAITING CANCELLED 0) p → GoesSo s p
cancelling s job p = settling s job WAITING CANCELLED 0 p refl is_cancelled

pub ending : (s : Sched) (job v : ℕ) (p : Meaning) → TakesJobs s.jobs (SettlesJob job RUNNING DONE v) p → GoesSo s p
ending s job v p = settling s job RUNNING DONE v p refl (ends v)

pub starting : (s : Sched) (p : Meaning) → TakesJobs s.jobs StartsJob p → GoesSo s p
starting s p = all_go s StartsJob p begins
  where
    begins : (i : ℕ) (j k : Job) (a : Reply) → StartsJob i j a k → IsJob j → JobGoes j k
    begins i j k a (starts_none other) is = stays j
    begins i j k a (is_started number was) is = from (Some WAITING) (marked_as RUNNING) j k refl starts was refl is

pub awaiting : (s : Sched) (job : ℕ) (p : Meaning) → TakesJobs s.jobs (AwaitsJob job) p → GoesSo s p
awaiting s job p = all_go s (AwaitsJob job) p (λ i j k a e is. stay j k e.0)

pub staying : (s : Sched) (p : Meaning) → TakesJobs s.jobs StaysSo p → GoesSo s p
staying s p = all_go s StaysSo p (λ i j k a e is. stay j k e)

-- ---- what is settled

over : (j k : Job) → JobGoes j k → (is_settled_state j.state || is_some j.told) ≡ true → k ≡ j
over j k (stays i) e = refl
over j k comes e = absurd (cc)
over j k starts e = absurd (cc)
over j k is_cancelled e = absurd (cc)
over j k (ends v) e = absurd (cc)

pub settled : (s : Sched) (m w : ℕ → ℕ) → EachGoes s m w → EndsStay s m w
settled s m w goes job lt e = over (job_at s.jobs m job) (job_at s.jobs w job) (goes job lt) e

pub two_settled : (s : Sched) (m w x : ℕ → ℕ) → EndsStay s m w → EndsStay s w x → EndsStay s m x
two_settled s m w x first second job lt e = let same = first job lt e in second job lt (ap (λ (j : Job). is_settled_state j.state || is_some j.told) same ∙ e) ∙ same

-- ---- the opening

pub opens : (s : Jobs) (m : ℕ → ℕ) → s.many ≡ JOBS → AreUnknown s m → (s.many ≡ JOBS) × AreJobCells s m × ((job : ℕ) → job < JOBS → IsJob (job_at s m job))
opens s m many at = (many, at.cells, λ job lt. subst IsJob (sym (at.unknown job (omega (arith, lt, many)))) unknown)
