-- What becomes of a scheduler's jobs.
use Rattle.std.specs.Prelude.{◌≡◌, ℕ, ◌==◌, ◌<◌, ◌≤◌, Bool, true, false, ◌||◌, List, Option, Some, None, length, get_or}
use Rattle.std.specs.Option.{is_some}
use Rattle.kc_compose.specs.Leads.{LeadsTo}
use Rattle.kc_hash.specs.Meaning.{hash_cells_end}
use Rattle.kc_jobs.specs.declared.jobs.TheConstants.{CANCELLED, DONE, RUNNING, WAITING}
use Rattle.kc_jobs_laws.specs.Taken.{AreJobCells, AreJobsLaid, Job, job_at, job_of}
use Rattle.kc_keep.specs.Steps.{LastsThroughout, StepsThroughout}
use Rattle.kc_model.specs.Legal.{IsLegal}
use Rattle.kc_model.specs.Store.{Store}
use Rattle.kc_queue.specs.Meaning.{queue_cells_end}
use Rattle.kc_sched.specs.declared.sched.Sched.{Sched}
use Rattle.kc_sched.specs.declared.sched.TheConstants.{JOBS}
use Rattle.kc_store.specs.Views.{PastView, last}
use Rattle.kc_xt.specs.Meaning.{Meaning}

-- its parts lie one behind another, and it has this many jobs
pub record IsSchedLaid (s : Sched) : Type 0 where
  pub line : queue_cells_end s.line ≤ s.ready.base.0
  pub ready : queue_cells_end s.ready ≤ s.jobs.ends.base.0
  pub jobs : AreJobsLaid s.jobs
  pub many : s.jobs.many ≡ JOBS

-- a store of so many locations has the scheduler
abbrev pub HasSched : Sched → ℕ → Type 0
HasSched s size = IsSchedLaid s × (hash_cells_end s.jobs.states ≤ size)

-- ---- jobs

-- what can be said of a job: its end is told where it was cancelled or is done, and else not
pub data IsJob : Job → Type 0 where
  unknown : IsJob (job_of None None)
  waits : IsJob (job_of (Some WAITING) None)
  runs : IsJob (job_of (Some RUNNING) None)
  cancelled : IsJob (job_of (Some CANCELLED) (Some 0))
  done : (v : ℕ) → IsJob (job_of (Some DONE) (Some v))

-- what one step makes of a job
pub data JobGoes : Job → Job → Type 0 where
  stays : (j : Job) → JobGoes j j
  comes : JobGoes (job_of None None) (job_of (Some WAITING) None)
  starts : JobGoes (job_of (Some WAITING) None) (job_of (Some RUNNING) None)
  is_cancelled : JobGoes (job_of (Some WAITING) None) (job_of (Some CANCELLED) (Some 0))
  ends : (v : ℕ) → JobGoes (job_of (Some RUNNING) None) (job_of (Some DONE) (Some v))

-- the cells stand for jobs
abbrev pub HasJobs : Sched → (ℕ → ℕ) → Type 0
HasJobs s m = (s.jobs.many ≡ JOBS) × AreJobCells s.jobs m × ((job : ℕ) → job < JOBS → IsJob (job_at s.jobs m job))

-- each job goes on by one step at most
abbrev pub EachGoes : Sched → (ℕ → ℕ) → (ℕ → ℕ) → Type 0
EachGoes s m w = (job : ℕ) → job < JOBS → JobGoes (job_at s.jobs m job) (job_at s.jobs w job)

-- what a thread may commit: wherever the cells stand for jobs, it takes each on by one step at most
abbrev pub GoesSo : Sched → Meaning → Type 0
GoesSo s p = LeadsTo (HasJobs s) (λ m a w. EachGoes s m w) p

-- ---- the history that is left

abbrev pub is_settled_state : Option ℕ → Bool
is_settled_state (Some state) = state == CANCELLED || state == DONE
is_settled_state None = false

-- a job that was cancelled, or is done, or whose end was told, stays just so
abbrev pub EndsStay : Sched → (ℕ → ℕ) → (ℕ → ℕ) → Type 0
EndsStay s m w = (job : ℕ) → job < JOBS → (is_settled_state (job_at s.jobs m job).state || is_some (job_at s.jobs m job).told) ≡ true → job_at s.jobs w job ≡ job_at s.jobs m job

-- From these values on, each entry of the one history takes each job on by one step at most: it comes, starts, is cancelled or ends.
-- And from each place to each later one, a job that was cancelled stays cancelled, so none is started any more; and what an end was told it stays.
pub record IsScheduled (s : Sched) (values : List ℕ) (p : PastView) : Type 0 where
  pub opening : Store
  pub opens : (l : ℕ) → l < length values → (opening l).value ≡ get_or values l 0
  pub legal : IsLegal opening p.history (last p)
  pub goes : StepsThroughout (EachGoes s) opening p.history
  pub stay : LastsThroughout (EndsStay s) opening p.history
