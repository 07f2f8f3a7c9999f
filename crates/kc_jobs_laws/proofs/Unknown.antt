-- What jobs open with.
use Rattle.std.proofs.Common.{◌≡◌, ℕ, ◌+◌, ◌*◌, ◌<◌, [], None, ap, ap₂, arith}
use Rattle.kc_cells.proofs.OnePlaces.{holds_held}
use Rattle.kc_hash.proofs.Chained.{shows}
use Rattle.kc_hash.specs.Content.{HashStandsFor, value_at}
use Rattle.kc_jobs_laws.specs.Taken.{AreUnknown, end_cell, job_of}
use Rattle.kc_jobs_laws.specs.declared.jobs.Jobs.{Jobs}

pub unknown_at : (s : Jobs) (m : ℕ → ℕ) → HashStandsFor s.states m [] → ((i : ℕ) → i < 2 * s.many → m (s.ends.base.0 + i) ≡ 0) → AreUnknown s m
unknown_at s m states ends = record {
  cells = (([], states), λ job lt. (None, ends (2 * job) (omega (arith, lt))));
  unknown = λ job lt. ap₂ job_of (ap (λ ps. value_at ps job) (shows s.states m [] states)) (holds_held (end_cell s job) m None (ends (2 * job) (omega (arith, lt))));
}
