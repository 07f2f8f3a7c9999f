-- What is seen of the value under the lock, and what a commit does to it.
use Rattle.std.specs.Prelude.{◌≡◌, ℕ, ◌+◌, ◌≤◌, List, [], ◌∷◌, ◌++◌, length}
use Rattle.kc_locked.specs.declared.held.TheConstants.{MOST_COMMITS}
use Rattle.kc_model.specs.Legal.{IsLegal}
use Rattle.kc_model.specs.Store.{store_of, opened, Finds, after}
use Rattle.kc_model.specs.declared.footprint.Entry.{Entry}
use Rattle.kc_model.specs.declared.plain_store.Cell.{Cell}
use Rattle.kc_model.specs.declared.reply.Answer.{Answer}
use Rattle.kc_model.specs.declared.reply.Answer.TheVariants as answer
use Rattle.kc_model.specs.declared.reply.Reply.{Reply}
use Rattle.kc_xt.specs.Commit.{Answers}
use Rattle.kc_xt.specs.Meaning.{Meaning}
use Rattle.kc_xt.specs.declared.room.Went.{Went}
use Rattle.kc_xt.specs.declared.room.Went.TheVariants as went

-- the opening values, all commits since, what they made, and how many more there may be
pub record HeldView : Type 0 where
  pub opening : List ℕ
  pub history : List Entry
  pub cells : List Cell
  pub spare : ℕ

abbrev pub held_view : List ℕ → List Entry → List Cell → ℕ → HeldView
held_view opening history cells spare = record { opening = opening; history = history; cells = cells; spare = spare }

-- the history is legal from the opening values at versions 0 and makes the store; it has few enough entries that no version ever is the last
pub record IsSound (h : HeldView) : Type 0 where
  pub legal : IsLegal (store_of (opened h.opening)) h.history (store_of h.cells)
  pub size : length h.cells ≡ length h.opening
  pub most : length h.history + h.spare ≤ MOST_COMMITS

-- the entry was added at the end, and its puts were made
pub record Adds (e : Entry) (before now : HeldView) : Type 0 where
  pub finds : Finds e.footprint (store_of before.cells)
  pub store : store_of now.cells ≡ after e.footprint (store_of before.cells)
  pub history : now.history ≡ before.history ++ e ∷ []
  pub opening : now.opening ≡ before.opening
  pub size : length now.cells ≡ length before.cells
  pub spare : now.spare + 1 ≡ before.spare

-- The entry was added, and the answer is what the meaning comes to wherever the entry's reads stand, as they did in the store before.
pub record CommitsLocked (m : Meaning) (a : Answer) (e : Entry) (before now : HeldView) : Type 0 where
  pub answers : Answers m a e.footprint
  pub adds : Adds e before now

-- the answer of a commit that was made, by how its attempt went and what that replied
abbrev pub answer_in : Went → Reply → Answer
answer_in went.Done r = answer.Reply r
answer_in went.Later r = answer.TooLarge
answer_in went.TooLarge r = answer.TooLarge
answer_in went.Busy r = answer.TooLarge
answer_in (went.Worn l) r = answer.TooLarge
