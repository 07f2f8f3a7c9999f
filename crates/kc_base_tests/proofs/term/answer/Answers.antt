use Rattle.std.proofs.Common.{refl, arith}
use Rattle.kc_term.proofs.Ones.{few_are_fit}
use Rattle.kc_base_tests.proofs.Worked.{add_one_item}
use Rattle.kc_term.specs.Tree.{operations}
use Rattle.kc_base_tests.proofs.term.answer.Goals as goal

pub run-requires : goal.run-requires
run-requires c = record {
  fit = few_are_fit (λ o. tt) (λ o. add_one_item o.at o.least o.n) (operations c.args.term.now) (c.if-not-is_short.ensures.0 refl);
  within = omega (arith, c.if-bound-len.false, c.bound.ensures, c.len.ensures.value, c.requires);
}
