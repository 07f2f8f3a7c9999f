-- What an act makes of each job, by what the cells show of it.
use Rattle.std.specs.Prelude.{◌≡◌, ◌≢◌, ℕ, ◌+◌, ◌*◌, ◌<◌, ◌≤◌, false, Option, Some, None}
use Rattle.kc_cells.specs.OnePlace.{PlaceHolds, value_held}
use Rattle.kc_cells.specs.Promise.{promise_value}
use Rattle.kc_cells.specs.declared.promise.PromiseAct.TheVariants.{Await, Resolve}
use Rattle.kc_cells.specs.declared.promise.Promise.{Promise}
use Rattle.kc_compose.specs.Leads.{LeadsTo}
use Rattle.kc_hash.specs.Content.{HashStandsFor, hash_shown, value_at}
use Rattle.kc_jobs.specs.declared.jobs.TheConstants.{RUNNING, WAITING}
use Rattle.kc_jobs_laws.specs.declared.jobs.Jobs.{Jobs}
use Rattle.kc_model.specs.declared.reply.Reply.{Reply}
use Rattle.kc_model.specs.declared.reply.Reply.TheVariants as reply
use Rattle.kc_xt.specs.Meaning.{Meaning, replied}
use Rattle.kc_xt.specs.Structure.{WellFormed}

-- the first cell of a job's end
abbrev pub end_cell : Jobs → ℕ → ℕ
end_cell s job = s.ends.base.0 + 2 * job

-- this promise is the end of that job
pub record IsEndOfJob (s : Jobs) (job : ℕ) (end : Promise) : Type 0 where
  pub one : job < s.many
  pub cell : end.base.0 ≡ end_cell s job

-- there is a job; each has an end, and the table lies behind the ends
pub record AreJobsLaid (s : Jobs) : Type 0 where
  pub some : 1 ≤ s.many
  pub ends : s.ends.cells ≡ 2 * s.many
  pub states : s.ends.base.0 + 2 * s.many ≤ s.states.base.0

-- what the table says of a job, and what its end was told
pub record Job : Type 0 where
  pub state : Option ℕ
  pub told : Option ℕ

abbrev pub job_of : Option ℕ → Option ℕ → Job
job_of state told = record { state = state; told = told }

-- what the cells show of a job, whatever they hold
abbrev pub job_at : Jobs → (ℕ → ℕ) → ℕ → Job
job_at s m job = job_of (value_at (hash_shown s.states m) job) (value_held (end_cell s job) m)

-- the cells are a table's and promises'
abbrev pub AreJobCells : Jobs → (ℕ → ℕ) → Type 0
AreJobCells s m = WellFormed (HashStandsFor s.states) m × ((job : ℕ) → job < s.many → WellFormed (PlaceHolds (end_cell s job)) m)

-- of no job anything is known
pub record AreUnknown (s : Jobs) (m : ℕ → ℕ) : Type 0 where
  pub cells : AreJobCells s m
  pub unknown : (job : ℕ) → job < s.many → job_at s m job ≡ job_of None None

-- where it replies, the cells stay such, and each job, what was replied, and the job then stand so to each other
pub record TakesJobs (s : Jobs) (so : ℕ → Job → Reply → Job → Type 0) (p : Meaning) : Type 0 where
  pub leads : LeadsTo (AreJobCells s) (λ m a w. (i : ℕ) → i < s.many → so i (job_at s m i) a (job_at s w i)) p

-- ---- what becomes of job i, by the reply

abbrev pub StaysSo : ℕ → Job → Reply → Job → Type 0
StaysSo i j a k = k ≡ j

-- its end is told so
abbrev pub told_then : ℕ → ℕ → Option ℕ → Job
told_then state v told = job_of (Some state) (promise_value (Resolve v) told).content

-- Of this job nothing was known, and it waits then, or the table or the line is full; or it was known, and is refused.
pub data SubmitsJob (job i : ℕ) (j : Job) (a : Reply) : Job → Type 0 where
  submits_none : i ≢ job → SubmitsJob job i j a j
  is_known : i ≡ job → j.state ≢ None → a ≡ reply.Bool false → SubmitsJob job i j a j
  has_no_room : i ≡ job → j.state ≡ None → a ≡ reply.Full → SubmitsJob job i j a j
  is_submitted : i ≡ job → j.state ≡ None → a ≡ reply.Unit → SubmitsJob job i j a (job_of (Some WAITING) j.told)

-- The table said this of this job, and says that then; its end is told, if it was told nothing before, and that is what is replied. Or it said otherwise, and the job is refused.
pub data SettlesJob (job old state v i : ℕ) (j : Job) (a : Reply) : Job → Type 0 where
  settles_none : i ≢ job → SettlesJob job old state v i j a j
  is_otherwise : i ≡ job → j.state ≢ Some old → a ≡ reply.Bool false → SettlesJob job old state v i j a j
  is_settled : i ≡ job → j.state ≡ Some old → (promise_value (Resolve v) j.told).outcome ≡ replied a → SettlesJob job old state v i j a (told_then state v j.told)

-- Its number was replied, it waited, and now it runs; or that wasn't, and it stays.
pub data StartsJob (i : ℕ) (j : Job) (a : Reply) : Job → Type 0 where
  starts_none : a ≢ reply.Value i → StartsJob i j a j
  is_started : a ≡ reply.Value i → j.state ≡ Some WAITING → StartsJob i j a (job_of (Some RUNNING) j.told)

-- each stays, and what the end of this one was told is replied
abbrev pub AwaitsJob : ℕ → ℕ → Job → Reply → Job → Type 0
AwaitsJob job i j a k = (k ≡ j) × (i ≡ job → (promise_value Await j.told).outcome ≡ replied a)
