-- What a commit of an operation on texts says.
use Rattle.std.specs.Prelude.{◌≡◌, true}
use Rattle.kc_model.specs.Footprint.{IsBelow}
use Rattle.kc_model.specs.declared.footprint.Footprint.{Footprint}
use Rattle.kc_model.specs.declared.reply.Answer.TheVariants as answer
use Rattle.kc_model.specs.declared.reply.Reply.{Reply}
use Rattle.kc_store.specs.Knows.{AddsLook, AddsNone, AddsOne, Remembers}
use Rattle.kc_store.specs.Views.{CallerView}
use Rattle.kc_store.specs.declared.values.Wear.{Wear}
use Rattle.kc_store.specs.declared.values.Wear.TheVariants as wear
use Rattle.kc_text.specs.Meaning.{texts_cells_end, op, text_meaning}
use Rattle.kc_text.specs.declared.operation.TextAct.{TextAct}
use Rattle.kc_text.specs.declared.texts.Texts.{Texts}
use Rattle.kc_xt.specs.Commit.{Answers, Wears}

-- The operation was committed, and replied so: that is its reply wherever what it read stands, and the caller has one own entry more, with this footprint.
pub record CommitsText (t : Texts) (a : TextAct) (r : Reply) (f : Footprint) (c d : CallerView) : Type 0 where
  pub replies : Answers (text_meaning (op t a)) (answer.Reply r) f
  pub entry : AddsOne c f d
  pub below : IsBelow (texts_cells_end t) f
  pub remembers : Remembers c d
  pub worn : d.worn ≡ c.worn

-- The operation was not committed: a location that it would put stands at the last version, which a look shows; or no descriptor has a life left.
abbrev pub FailsBy : Texts → TextAct → Wear → CallerView → CallerView → Type 0
FailsBy t a (wear.Location loc f) c d = Wears (text_meaning (op t a)) loc.0 f × AddsLook c f d × IsBelow (texts_cells_end t) f × Remembers c d × (d.worn ≡ c.worn)
FailsBy t a wear.Pool c d = AddsNone c d × Remembers c d × (d.worn ≡ true)
