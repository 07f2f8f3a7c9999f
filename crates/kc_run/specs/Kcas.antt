-- The lock-free store as one that threads share: its values and its history, its callers, and how it opens.
use Rattle.std.specs.Prelude.{◌≡◌, ℕ, ◌+◌, ◌<◌, ◌≤◌, ◌++◌, [], ◌∷◌, List, map}
use Rattle.std.specs.Global.{Vec}
use Rattle.kc_await.specs.Waiting.{CommitsAtLast}
use Rattle.kc_model.specs.Legal.{IsLegal}
use Rattle.kc_model.specs.Store.{Store}
use Rattle.kc_model.specs.declared.footprint.Entry.{Entry}
use Rattle.kc_model.specs.declared.footprint.Footprint.{Footprint}
use Rattle.kc_model.specs.declared.footprint.TheConstants.{LAST_VERSION}
use Rattle.kc_run.specs.Jobs.{AllMayRun}
use Rattle.kc_script_bundle.specs.declared.bundle.TheConstants.{MOST_COMMANDS}
use Rattle.kc_script_bundle.specs.declared.operation.Command.{Command}
use Rattle.kc_store.specs.PutCount.{puts_made}
use Rattle.kc_store.specs.Views.{CallerView, PastView, StoreView, caller_view, opened_caller, opened_callers, store_opening, store_view}
use Rattle.kc_store.specs.declared.verdict.Answered.{Answered}
use Rattle.kc_table_moves.specs.Origins.{Origin, opening_of}
use Rattle.kc_table_moves.specs.Views.{count_from}
use Rattle.kc_table_moves.specs.Views.{SeatView}
use Rattle.kc_xt.specs.Meaning.{Meaning}

-- ---- the values

-- the opening values, location by location
abbrev pub values_at : Origin → List ℕ
values_at q = map (opening_of q).value (count_from 0 q.locations)

abbrev pub values_of : StoreView → List ℕ
values_of z = values_at z.table.origin

-- what is left of a store: the values with which it opened, and its one history
pub record KcasPastView : Type 0 where
  pub opening : List ℕ
  pub history : List Entry

abbrev pub kcas_past : PastView → KcasPastView
kcas_past p = record { opening = values_at p.past.origin; history = p.history }

-- each location opened at version 0
pub record OpensAtZero (z : StoreView) : Type 0 where
  pub shown : z ≡ store_view z.table
  pub zeros : (l : ℕ) → l < z.table.origin.locations → (opening_of z.table.origin).version l ≡ 0

-- ---- callers

-- since v the seat has made commits that wait, one after another, and nothing else
pub data CommitsSince (v : SeatView) : SeatView → Type 0 where
  none : CommitsSince v v
  more : (u w : SeatView) (m : Meaning) (a : Answered) (f : Footprint) → CommitsSince v u → CommitsAtLast m a f u w → CommitsSince v w

-- since the opening
abbrev pub OnlyCommits : CallerView → Type 0
OnlyCommits c = CommitsSince (opened_caller c.of c.number).seat c.seat

-- it is a caller of the store, which has made commits that wait and nothing else
pub record BelongsTo (z : StoreView) (c : CallerView) : Type 0 where
  pub of : c.of ≡ z
  pub shown : c ≡ caller_view c.worn c.seat
  pub only : OnlyCommits c

-- its last entry is that of a commit that would put a location without a version left: in each legal list from the opening that has it, the location was put once for each version since then
pub record LastIsWorn (l : ℕ) (d : CallerView) : Type 0 where
  pub others : List Entry
  pub last : Entry
  pub own : d.own ≡ others ++ last ∷ []
  pub puts : (t e : Store) (before behind : List Entry) → IsLegal (store_opening d.of) before t → IsLegal (store_opening d.of) (before ++ last ∷ behind) e → LAST_VERSION ≤ (store_opening d.of l).version + puts_made l before

-- how many commits a caller may make, at least: those of a thread's commands and of its end
abbrev pub left_in : CallerView → ℕ
left_in c = MOST_COMMANDS + 1

-- ---- openings

-- a store that was opened on these values for so many callers, which have done nothing
pub record OpenedForCallers (values : List ℕ) (callers : ℕ) (store : StoreView) (all : List CallerView) : Type 0 where
  pub opening : values_of store ≡ values
  pub callers_are : store.callers ≡ callers
  pub shown : store ≡ store_view store.table
  pub dealt : all ≡ opened_callers store 0 callers

-- the callers of the store are those of the threads, in their order
abbrev pub AllKcDealt : StoreView → List (Vec Command) → List CallerView → Type 0
AllKcDealt store threads callers = AllMayRun BelongsTo (λ (c : CallerView). c.number) left_in (λ (c : CallerView). c.own) store 0 threads callers
