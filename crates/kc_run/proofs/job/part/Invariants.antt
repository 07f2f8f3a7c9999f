use Rattle.std.proofs.Common.{◌≡◌, ◌≤◌, ◌+◌, ◌++◌, length, map, vec_len, vec_capacity}
use Rattle.kc_run.specs.Jobs.{job_pass, list_of}
use Rattle.kc_run.proofs.job.part.Given as goal

abbrev pub invariant-loop-job : goal.invariant-loop-job
invariant-loop-job g l =
    (goal.iterator-loop-job g).can_next l.job-iterator ×
    (goal.iterator-loop-job g).is_finite l.job-iterator ×
    (l.passes.items ++ map job_pass l.job-iterator.rest.items ≡ map job_pass l.fn.jobs.items) ×
    (l.records.items ++ map list_of l.job-iterator.rest.items ≡ map list_of l.fn.jobs.items) ×
    (vec_len l.passes + length l.job-iterator.rest.items ≤ vec_capacity l.passes) ×
    (vec_len l.records + length l.job-iterator.rest.items ≤ vec_capacity l.records)
