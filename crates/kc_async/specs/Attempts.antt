-- What the tries of a commit come to that a task waits for.
use Rattle.std.specs.Prelude.{◌≡◌, ℕ, true, false}
use Rattle.kc_async.specs.declared.attempt.Came.{Came}
use Rattle.kc_async.specs.declared.attempt.Came.TheVariants as came
use Rattle.kc_await.specs.Adds.{AddsLooksAlone}
use Rattle.kc_await.specs.Waiting.{is_later}
use Rattle.kc_model.specs.Footprint.{IsBelow}
use Rattle.kc_model.specs.declared.footprint.Footprint.{Footprint}
use Rattle.kc_store.specs.Knows.{IsTold, NotesWear, Remembers}
use Rattle.kc_store.specs.Verdicts.{has_entry, verdict_of}
use Rattle.kc_store.specs.Views.{CallerView}
use Rattle.kc_store.specs.declared.verdict.Answered.{Answered}
use Rattle.kc_xt.specs.Meaning.{Meaning}

-- it has looked some times, at what made it wait, and nothing else came of it
pub record HasLooked (m : Meaning) (c d : CallerView) : Type 0 where
  pub remembers : Remembers c d
  pub looks : AddsLooksAlone m c d
  pub worn : d.worn ≡ c.worn

-- a commit was answered so, which is not Later
pub record EndsSo (m : Meaning) (end : ℕ) (a : Answered) (c : CallerView) (f : Footprint) (d : CallerView) : Type 0 where
  pub remembers : Remembers c d
  pub told : IsTold m (verdict_of a) c f d
  pub ends : is_later a ≡ false
  pub within : has_entry (verdict_of a) ≡ true → IsBelow end f
  pub notes : NotesWear c (verdict_of a) d

abbrev pub CameTo : Meaning → ℕ → Came → CallerView → Footprint → CallerView → Type 0
CameTo m end (came.Ends a) c f d = EndsSo m end a c f d
CameTo m end came.Again c f d = HasLooked m c d
CameTo m end came.Waits c f d = HasLooked m c d
