-- How the caller of a handle stands.
use Rattle.std.specs.Prelude.{ℕ, Bool, true, false, Option, Some, None}
use Rattle.kc_c.specs.declared.standing.Standing.{Standing}
use Rattle.kc_c.specs.declared.standing.Standing.TheVariants as standing
use Rattle.kc_hang.specs.declared.hang_state.HangState.{HangState}
use Rattle.kc_hang.specs.declared.hang_state.HangState.TheVariants as state
use Rattle.kc_model.specs.Footprint.{IsBelow}
use Rattle.kc_model.specs.declared.footprint.Footprint.{Footprint}
use Rattle.kc_store.specs.HangingView.{HangingView}
use Rattle.kc_store.specs.Views.{StoreView}

-- the store that the caller is of
abbrev pub store_in : Standing → Option StoreView
store_in (standing.Rests c) = Some c.of
store_in (standing.Hangs h) = Some h.caller.of
store_in standing.Away = None

abbrev pub caller_number_in : Standing → Option ℕ
caller_number_in (standing.Rests c) = Some c.number
caller_number_in (standing.Hangs h) = Some h.caller.number
caller_number_in standing.Away = None

abbrev pub is_free_state : HangState → Bool
is_free_state state.Going = false
is_free_state state.Hung = false
is_free_state state.Leaving = false
is_free_state state.Free = true

-- it hangs no longer, and has not been given back
abbrev pub is_over : Standing → Bool
is_over (standing.Hangs h) = is_free_state h.state
is_over _ = false

abbrev pub rests : Standing → Bool
rests (standing.Rests c) = true
rests _ = false

-- one that rests, about to hang on what the footprint read
abbrev pub hanging_on : Footprint → Standing → Standing
hanging_on f (standing.Rests c) = standing.Hangs (record { caller = c; reads = f.reads; state = state.Going; begun = false })
hanging_on f s = s

abbrev pub HangsOnStore : Footprint → Standing → Type 0
HangsOnStore f (standing.Rests c) = IsBelow c.of.locations f
HangsOnStore f _ = Unit {0}

-- with a hanging that is over it rests again
abbrev pub settled_from : HangState → HangingView → Standing
settled_from state.Free h = standing.Rests h.caller
settled_from _ h = standing.Hangs h

abbrev pub settled : Standing → Standing
settled (standing.Hangs h) = settled_from h.state h
settled s = s
