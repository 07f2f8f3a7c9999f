-- What the futures of a commit give.
use Rattle.std.specs.Prelude.{◌≡◌, ◌≤◌, ℕ, Bool, false, Option, Some, None}
use Rattle.kc_async.specs.Attempts.{EndsSo, HasLooked}
use Rattle.kc_async.specs.declared.committed.Committed.{Committed}
use Rattle.kc_callers.specs.declared.borrowed.Borrowed.{Borrowed}
use Rattle.kc_callers.specs.declared.callers.Callers.{Callers}
use Rattle.kc_model.specs.declared.footprint.Footprint.{Footprint}
use Rattle.kc_store.specs.Views.{CallerView}
use Rattle.kc_store.specs.declared.verdict.Answered.{Answered}
use Rattle.kc_xt.specs.Meaning.{Meaning}

-- it has its caller, and its transaction fits, all of which lies in the store
abbrev pub IsUnderWay : Type 0 → ℕ → Option Borrowed → Type 0
IsUnderWay fit end None = ⊥
IsUnderWay fit end (Some one) = fit × (end ≤ one.caller.of.locations)

-- it isn't over, and its transaction fits, all of which lies in the store
pub record IsYetToEnd (fits : Type 0) (end : ℕ) (callers : Callers) (is_over : Bool) : Type 0 where
  pub fit : fits
  pub within : end ≤ callers.store.locations
  pub goes_on : is_over ≡ false

-- some looks, and then a commit that was answered so
pub record LooksThenEnds (m : Meaning) (end : ℕ) (a : Answered) (c : CallerView) (f : Footprint) (d : CallerView) : Type 0 where
  pub last : CallerView
  pub looked : HasLooked m c last
  pub ends : EndsSo m end a last f d

-- by this very caller, from where it stands
abbrev pub GivesAnswer : Meaning → ℕ → Option Borrowed → Committed → Type 0
GivesAnswer m end None out = Unit {0}
GivesAnswer m end (Some one) out = LooksThenEnds m end out.answered one.caller out.footprint out.one.caller × (out.one.callers.now ≡ one.callers.now)

-- by one of these callers, who had it, as it stood then
abbrev pub AnswersByTurns : Meaning → ℕ → Callers → Committed → Type 0
AnswersByTurns m end callers out = (out.one.callers.now ≡ callers) × ((c : CallerView) × EndsSo m end out.answered c out.footprint out.one.caller)
