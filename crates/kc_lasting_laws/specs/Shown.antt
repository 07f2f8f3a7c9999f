-- What handles were shown, in the one history.
use Rattle.std.specs.Prelude.{◌≡◌, ℕ, List, [], ◌∷◌, Some, map, take}
use Rattle.kc_lasting.specs.Cuts.{left_by}
use Rattle.kc_lasting.specs.Eras.{AreEras, first_line, store_at}
use Rattle.kc_lasting.specs.Told.{GoesOver, HandleView, ends_with}
use Rattle.kc_lasting.specs.declared.line.Line.{Line}
use Rattle.kc_lasting_laws.specs.Flat.{flat_history, versions_before}
use Rattle.kc_lasting_laws.specs.Raised.{cell_raised, entry_raised, footprint_raised}
use Rattle.kc_model.specs.Store.{Finds}
use Rattle.kc_model.specs.declared.footprint.Entry.{Entry}
use Rattle.kc_model.specs.declared.footprint.Footprint.{Footprint}
use Rattle.kc_model.specs.declared.footprint.Seen.{Seen}
use Rattle.kc_roll.specs.Fronts.{StandsAtFront}
use Rattle.kc_store.specs.Knows.{IsWithin}
use Rattle.kc_store.specs.Views.{StoreView}
use Rattle.kc_store.specs.kc_machine_traces.Histories.{seen_as_cell}

-- a front of the one history from the opening of z leaves at location l what was read there in era k
pub record FrontShows (z : StoreView) (lines : List Line) (k l : ℕ) (r : Seen) : Type 0 where
  pub front : ℕ
  pub shows : left_by z (take front (flat_history lines)) l ≡ cell_raised (versions_before lines k l) (seen_as_cell r)

-- a front of it finds all reads of a footprint of era k, and has all of these entries of that era
pub record FrontFinds (z : StoreView) (lines : List Line) (k : ℕ) (before : List Entry) (f : Footprint) : Type 0 where
  pub front : ℕ
  pub finds : Finds (footprint_raised (versions_before lines k) f) (left_by z (take front (flat_history lines)))
  pub no_older : IsWithin (map (entry_raised (versions_before lines k)) before) (take front (flat_history lines))

-- d's era has ended, as e shows, whose eras began with this store
pub record EraIsOver (z : StoreView) (d e : HandleView) : Type 0 where
  pub begins : StandsAtFront (first_line z ∷ []) e.lines
  pub eras : AreEras e.lines
  pub at : store_at e.lines d.era ≡ Some d.caller.of
  pub over : GoesOver (ends_with d e) d.confirmed d.caller e.caller e.confirmed
