-- What a history tells.
use Rattle.std.specs.Prelude.{ℕ, List, []}
use Rattle.kc_locked.specs.declared.history.Told.{Told}
use Rattle.kc_model.specs.declared.footprint.Entry.{Entry}

abbrev pub told : List ℕ → List Entry → Told
told opening entries = record { opening = opening; entries = entries }

abbrev pub nothing_told : Told
nothing_told = told [] []
