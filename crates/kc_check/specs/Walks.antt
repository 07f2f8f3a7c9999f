-- How a walk over the places ends.
use Rattle.std.specs.Prelude.{◌≡◌, ℕ, List, drop, map, length, Vec}
use Rattle.std.specs.Borrow.{Bor}
use Rattle.std.specs.Global.{Global}
use Rattle.std.specs.Io.BufRead.{take_through}
use Rattle.kc_history.specs.Ends.{AreWellMade}
use Rattle.kc_history.specs.Records.{footprint_at, lists_of}
use Rattle.kc_history.specs.RecordsValue.{RecordsValue}
use Rattle.kc_history.specs.declared.record.Place.{Place}
use Rattle.kc_model.specs.Store.{Store}
use Rattle.kc_script_bundle.specs.declared.operation.Command.{Command}
use Rattle.kc_check.specs.Faults.{PlacesReplayed, HasToWait, IsOutOfTurn, RepliesElse, StopsAt}
use Rattle.kc_check.specs.Replays.{HaveRoom, all_kept, all_padded, counts}
use Rattle.kc_check.specs.declared.error.CheckWhy.{CheckWhy}
use Rattle.kc_check.specs.declared.error.CheckWhy.TheVariants as why

-- the lines themselves
abbrev pub now_of : List (Bor (List ℕ)) → List (List ℕ)
now_of lines = map (λ (line : Bor (List ℕ)). line.now) lines

-- the lines of a text that begin at these places
abbrev pub lines_at : List ℕ → List ℕ → List (List ℕ)
lines_at text starts = map (λ (start : ℕ). take_through 10 (drop start text)) starts

-- the same, thread by thread
abbrev pub lines_in : List ℕ → List (Vec ℕ Global) → List (List (List ℕ))
lines_in text replies = map (λ (v : Vec ℕ Global). lines_at text v.items) replies

-- the place at an index is the first that is wrong, for this reason
abbrev pub StopsFor : ℕ → List (List Command) → List (List (List ℕ)) → Store → List Place → ℕ → CheckWhy → Type 0
StopsFor limit threads replies first places index why.Turn = (p : Place) × (front : List Place) × StopsAt limit threads replies first places (IsOutOfTurn limit threads replies first) p front × (length front ≡ index)
StopsFor limit threads replies first places index why.Waits = (p : Place) × (front : List Place) × StopsAt limit threads replies first places (HasToWait limit threads replies first) p front × (length front ≡ index)
StopsFor limit threads replies first places index why.Reply = (p : Place) × (front : List Place) × StopsAt limit threads replies first places (RepliesElse limit threads replies first) p front × (length front ≡ index)
StopsFor limit threads replies first places index other = ⊥

-- the places come with records of which this is kept
pub record ComesKept (limit : ℕ) (threads : List (List Command)) (replies : List (List (List ℕ))) (first : Store) (places : List Place) (last : Store) (rs : List RecordsValue) : Type 0 where
  pub whole : List RecordsValue
  pub kept : rs ≡ all_kept whole
  pub comes : PlacesReplayed limit threads replies first places (counts (lists_of whole)) last (all_padded 1 threads (lists_of whole))
  pub room : HaveRoom limit 1 threads whole
  pub made : AreWellMade (footprint_at (all_padded 1 threads (lists_of whole)))
