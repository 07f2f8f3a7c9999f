-- What a wait, step by step, answers.
use Rattle.std.specs.Prelude.{◌≡◌, ◌≢◌, ◌<◌, ℕ, Bool, true, false, [], All, if◌then◌else◌}
use Rattle.kc_c.specs.Standings.{rests, settled}
use Rattle.kc_c.specs.declared.answers.TheConstants.{GOING, HUNG, LEAVING, FREE, NOT_NOW, QUIET, SIGNALLED}
use Rattle.kc_c.specs.declared.client.Client.{Client}
use Rattle.kc_c.specs.declared.standing.Standing.{Standing}
use Rattle.kc_c.specs.declared.standing.Standing.TheVariants as standing
use Rattle.kc_hang.specs.Hanging.{ShowsHang, stepping}
use Rattle.kc_hang.specs.declared.hang_state.HangState.{HangState}
use Rattle.kc_hang.specs.declared.hang_state.HangState.TheVariants as state
use Rattle.kc_hang.specs.kc_table_moves.Views.{Signalled, Stepped}
use Rattle.kc_store.specs.HangingView.{HangingView, hang_of}
use Rattle.kc_store.specs.Knows.{OnlyLearns}
use Rattle.kc_store.specs.Views.{CallerView}

abbrev pub number_of_state : HangState → ℕ
number_of_state state.Going = GOING
number_of_state state.Hung = HUNG
number_of_state state.Leaving = LEAVING
number_of_state state.Free = FREE

-- the caller rests, and its last try read something, all of it in the store
pub record ClientMayHang (c : Client) : Type 0 where
  pub rests : rests c.standing ≡ true
  pub some : c.footprint.reads.items ≢ []
  pub below : All (λ r. r.loc.0 < c.locations) c.footprint.reads.items

-- one step of the machine was made by a hanging, and it came to this
pub record HangingSteps (h : HangingView) (n : ℕ) (s : Standing) : Type 0 where
  pub state : HangState
  pub caller : CallerView
  pub number : n ≡ number_of_state state
  pub stands : s ≡ settled (standing.Hangs (record { caller = caller; reads = h.reads; state = state; begun = true }))
  pub step : Stepped (stepping (hang_of h) h.caller.seat) caller.seat
  pub shows : ShowsHang h.reads h.state state caller.seat
  pub learns : OnlyLearns h.caller caller

-- one that hangs makes no step
abbrev pub StepsFrom : HangState → HangingView → ℕ → Standing → Type 0
StepsFrom state.Hung h n s = (n ≡ HUNG) × (s ≡ standing.Hangs h)
StepsFrom _ h n s = HangingSteps h n s

abbrev pub StepsOn : Standing → ℕ → Standing → Type 0
StepsOn (standing.Hangs h) n s = StepsFrom h.state h n s
StepsOn c n s = (n ≡ NOT_NOW) × (s ≡ c)

-- one load of its signal was made, and found it so
pub record Loads (h : HangingView) (n : ℕ) (s : Standing) : Type 0 where
  pub found : Bool
  pub caller : CallerView
  pub number : n ≡ (if found then SIGNALLED else QUIET)
  pub stands : s ≡ standing.Hangs (record h { caller = caller })
  pub signalled : Signalled h.caller.seat found caller.seat
  pub learns : OnlyLearns h.caller caller

abbrev pub HangingHears : Standing → ℕ → Standing → Type 0
HangingHears (standing.Hangs h) n s = Loads h n s
HangingHears c n s = (n ≡ NOT_NOW) × (s ≡ c)

-- only one that hangs leaves
abbrev pub LeavesFrom : HangState → HangingView → ℕ → Standing → Type 0
LeavesFrom state.Hung h n s = (n ≡ LEAVING) × (s ≡ standing.Hangs (record h { state = state.Leaving; begun = false }))
LeavesFrom _ h n s = (n ≡ NOT_NOW) × (s ≡ standing.Hangs h)

abbrev pub HangingLeaves : Standing → ℕ → Standing → Type 0
HangingLeaves (standing.Hangs h) n s = LeavesFrom h.state h n s
HangingLeaves c n s = (n ≡ NOT_NOW) × (s ≡ c)
