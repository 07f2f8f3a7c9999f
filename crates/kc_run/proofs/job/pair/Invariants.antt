use Rattle.std.proofs.Common.{◌≡◌, ◌≤◌, ◌+◌, ◌++◌, length, vec_len, vec_capacity}
use Rattle.kc_run.specs.Jobs.{paired}
use Rattle.kc_run.proofs.job.pair.Given as goal

abbrev pub invariant-loop-pass : goal.invariant-loop-pass
invariant-loop-pass g l =
    (goal.iterator-loop-pass g).can_next l.pass-iterator ×
    (goal.iterator-loop-pass g).is_finite l.pass-iterator ×
    (l.jobs.items ++ paired l.pass-iterator.rest.items l.space.rest.items ≡ paired l.fn.passes.items l.fn.space.items) ×
    (length l.pass-iterator.rest.items ≡ length l.space.rest.items) ×
    (vec_len l.jobs + length l.pass-iterator.rest.items ≤ vec_capacity l.jobs)
