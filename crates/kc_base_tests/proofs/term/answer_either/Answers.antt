use Rattle.std.proofs.Common.{arith}
use Rattle.kc_term.proofs.Ones.{few_are_fit}
use Rattle.kc_base_tests.proofs.Worked.{add_one_item}
use Rattle.kc_base_tests.proofs.term.answer_either.Goals as goal

pub run-requires : goal.run-requires
run-requires c = record {
  fit = (few_are_fit (λ o. tt) (λ o. add_one_item o.at o.least o.n) c.args.first.now (omega arith), few_are_fit (λ o. tt) (λ o. add_one_item o.at o.least o.n) c.args.second.now (omega arith));
  within = omega arith;
}
