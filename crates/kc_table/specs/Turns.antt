-- Looks one after another, whose seat is written once.
use Rattle.std.specs.Prelude.{◌≡◌, ◌<◌, ℕ, true, List, [], ◌∷◌, ◌++◌, length, Some, take, get_or}
use Rattle.kc_machine.specs.Points.{seat_told}
use Rattle.kc_machine.specs.Seats.{is_idle}
use Rattle.kc_machine.specs.declared.seat.Seat.{Seat}
use Rattle.kc_machine_steps.specs.declared.task.Task.TheVariants.{Look}
use Rattle.kc_machine_steps.specs.declared.task.Told.TheVariants as told
use Rattle.kc_model.specs.declared.footprint.Seen.{Seen}
use Rattle.kc_table_moves.specs.Views.{RanQuietly, SeatView, Stepped, begun_at}

-- by one look, of one step, the seat was told just this read
pub record LooksAs (v : SeatView) (r : Seen) (w : SeatView) : Type 0 where
  pub quiet : RanQuietly v (Look r.loc) w
  pub once : Stepped (begun_at v (Look r.loc)) w
  pub idle : is_idle w.seat.work ≡ true
  pub told : w.seat.told ≡ Some (told.Seen r)

-- and these, one after another
pub data LooksAgain (v : SeatView) : List Seen → SeatView → Type 0 where
  none : LooksAgain v [] v
  one : (rs : List Seen) (u : SeatView) (r : Seen) (w : SeatView) → LooksAgain v rs u → LooksAs u r w → LooksAgain v (rs ++ r ∷ []) w

-- so of some, and then it has made the first step of a look at the next, which didn't find it
pub record LooksUntil (v : SeatView) (rs : List Seen) (w : SeatView) : Type 0 where
  pub front : ℕ
  pub r : Seen
  pub u : SeatView
  pub within : front < length rs
  pub next : r ≡ get_or rs front r
  pub looked : LooksAgain v (take front rs) u
  pub quiet : RanQuietly u (Look r.loc) w
  pub once : Stepped (begun_at u (Look r.loc)) w
  pub differs : ¬ LooksAs u r w

-- its location lies below
abbrev pub is_read_below : ℕ → Seen → Type 0
is_read_below n r = r.loc.0 < n

-- a seat behind looks that were told these, which has made so many steps in all
abbrev pub seat_behind : Seat → ℕ → List Seen → Seat
seat_behind s made [] = s
seat_behind s made (r ∷ []) = seat_told s made s.calls (told.Seen r)
seat_behind s made (r ∷ x ∷ rs) = seat_behind s made (x ∷ rs)
