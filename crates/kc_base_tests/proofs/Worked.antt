-- The operation of the worked examples obeys the law.
use Rattle.std.proofs.Common.{ℕ, ◌+◌, nat_lt, arith}
use Rattle.std.specs.Prelude.{Result}
use Rattle.kc_model.specs.declared.reply.Reply.{Reply}
use Rattle.kc_term.proofs.Ones.{means_one}
use Rattle.kc_base_tests.specs.Worked.{add_program}
use Rattle.kc_xt.proofs.Laws.{below_if, law_of}
use Rattle.kc_xt.proofs.Singles.{one_if}
use Rattle.kc_xt.specs.Law.{Obeys}
use Rattle.kc_xt.specs.Log.{Log}
use Rattle.kc_xt.specs.Peeks.{Gives}
use Rattle.kc_xt.specs.Program.{replies, meaning}
use Rattle.kc_xt.specs.Steps.{Does}
use Rattle.kc_xt.specs.Structure.{RepliesOneItem}
use Rattle.kc_xt.specs.declared.stop.Stop.{Stop}

pub add_law : {P : Type 0} (gives : Gives P) (l least n : ℕ) {x y : Log P} (r : Result Reply Stop) → Does gives (add_program l least n) x r y → Obeys gives (meaning (add_program l least n replies)) (l + 1) x r y
add_law gives l least n r d = law_of gives (add_program l least n) (l + 1) (omega arith, λ v. below_if _ (nat_lt v least) _ _ tt (omega arith, tt)) tt r d

pub add_one_item : (l least n : ℕ) → RepliesOneItem (meaning (add_program l least n replies))
add_one_item l least n = means_one (add_program l least n replies) (λ v. one_if (nat_lt v least) _ _ tt tt)
