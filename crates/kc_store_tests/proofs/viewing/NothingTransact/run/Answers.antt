use Rattle.kc_model.specs.declared.reply.Reply.TheVariants as reply
use Rattle.kc_xt.proofs.Chain.{does_reply}
use Rattle.kc_xt.proofs.Stay.{stays_law}
use Rattle.kc_store_tests.proofs.viewing.NothingTransact.run.Goals as goal

pub returns-clause-law : goal.returns-clause-law
returns-clause-law g c = stays_law 0 0 g.P.Peek.peek_gives (λ k. k reply.Unit) tt (λ e. cc) _ does_reply
