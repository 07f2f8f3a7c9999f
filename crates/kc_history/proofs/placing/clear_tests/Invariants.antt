use Rattle.std.proofs.Common.{◌≡◌, ◌<◌, ℕ, slice_index_or}
use Rattle.kc_history.specs.Tested.{untested}
use Rattle.kc_history.proofs.placing.clear_tests.Given as goal

abbrev pub invariant-loop-test : goal.invariant-loop-test
invariant-loop-test l = (k : ℕ) → k < l.test-index → slice_index_or l.tested k untested ≡ untested
