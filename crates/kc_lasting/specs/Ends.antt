-- How eras end, and what of an era stands before its end.
use Rattle.std.specs.Prelude.{◌≡◌, ◌⊎◌, ℕ, suc, ◌≤◌, List, [], Option, Some, None, map}
use Rattle.kc_hang.specs.kc_table_moves.Origins.{opening_of}
use Rattle.kc_hang.specs.kc_table_views.Known.{IsPrefix, known}
use Rattle.kc_lasting.specs.Cuts.{IsCut, standing_at}
use Rattle.kc_lasting.specs.Eras.{ended_at, store_at}
use Rattle.kc_lasting.specs.declared.line.End.{End}
use Rattle.kc_lasting.specs.declared.line.Line.{Line}
use Rattle.kc_machine_steps.specs.declared.task.Event.{Event}
use Rattle.kc_model.specs.declared.footprint.Entry.{Entry}
use Rattle.kc_model.specs.declared.footprint.Seen.{Seen}
use Rattle.kc_store.specs.Views.{CallerView, NoteView, StoreView, caller_view}
use Rattle.kc_store.specs.kc_machine_traces.Histories.{entries}
use Rattle.kc_store.specs.kc_table_laws.Tasks.{KeepsKnown}

-- the history is cut off where each location stands at its version
pub record IsCutAt (z : StoreView) (history : List Entry) (versions : List ℕ) : Type 0 where
  pub cells : List Seen
  pub cut : IsCut z history cells
  pub versions_are : versions ≡ map (λ (r : Seen). r.version) cells

-- the history stands behind a front of what the note knows, and there the store was cut off at these versions
pub record IsEraEnd (z : StoreView) (n : NoteView) (history : List Entry) (versions : List ℕ) : Type 0 where
  pub of : n.of ≡ z
  pub past : List Event
  pub within : IsPrefix past n.note.past
  pub history_is : history ≡ entries (known (opening_of z.table.origin) past)
  pub cut : IsCutAt z (entries (known (opening_of z.table.origin) past)) versions

-- Since it stood so, the caller goes on. Then it knew nothing, or knew of no put of location g that makes a version above this one
pub record HasSeen (g flag : ℕ) (seen now : CallerView) : Type 0 where
  pub keeps : KeepsKnown seen.seat now.seat
  pub shows : seen ≡ caller_view seen.worn seen.seat
  pub early : (seen.seat.past ≡ []) ⊎ ((standing_at seen.seat g).version ≤ flag)

-- it is how an era of these ended
pub record EndsEra (lines : List Line) (x : End) : Type 0 where
  pub store : StoreView
  pub at : store_at lines x.era ≡ Some store
  pub note : NoteView
  pub ended : ended_at lines (suc x.era) ≡ Some note
  pub end : IsEraEnd store x.note note.known x.versions.items

-- nobody has done anything with it
pub record IsNewCaller (c : CallerView) : Type 0 where
  pub own : c.own ≡ []
  pub past : c.seat.past ≡ []

abbrev pub MayEnd : List Line → Option End → Type 0
MayEnd lines None = Unit {0}
MayEnd lines (Some x) = EndsEra lines x
