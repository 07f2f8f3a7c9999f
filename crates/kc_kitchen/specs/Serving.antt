-- What is said of commits on the kitchen's store.
use Rattle.kc_await.specs.Adds.{AddsLooksAndOne}
use Rattle.kc_model.specs.declared.footprint.Footprint.{Footprint}
use Rattle.kc_model.specs.declared.reply.Answer.TheVariants as answer
use Rattle.kc_model.specs.declared.reply.Reply.{Reply}
use Rattle.kc_store.specs.Views.{CallerView}
use Rattle.kc_xt.specs.Commit.{Answers}
use Rattle.kc_xt.specs.Meaning.{Meaning}

-- The caller committed what has this meaning, and it replied so: wherever what the commit read stands, the reply is the meaning's; and the caller's own entries have the commit's at the end, behind looks for which it had to wait.
pub record Replied (m : Meaning) (r : Reply) (c d : CallerView) : Type 0 where
  pub footprint : Footprint
  pub means : Answers m (answer.Reply r) footprint
  pub added : AddsLooksAndOne m c footprint d
