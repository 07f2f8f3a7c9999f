use Rattle.kc_table_tests.proofs.Trying.{two_known}
use Rattle.kc_table_tests.proofs.tests.look_both.Goals as goal

pub returns-clause-seen : goal.returns-clause-seen
returns-clause-seen c = two_known c.look-2.new.seat c.in_ok-first.first c.in_ok-second.second c.in_ok-second.ensures.reads c.in_ok-second.ensures.seen
