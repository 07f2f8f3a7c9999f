-- Footprints and their lines.
use Rattle.std.specs.Prelude.{ℕ, List, [], Option, Some, None, slice_get}
use Rattle.kc_model.specs.declared.footprint.Footprint.{Footprint}
use Rattle.kc_model.specs.declared.footprint.Put.{Put}
use Rattle.kc_model.specs.declared.footprint.Seen.{Seen}

-- the footprint of these lines
abbrev pub print : List Seen → List Put → Footprint
print rs ps = record { reads = record { items = rs }; puts = record { items = ps } }

abbrev pub reads_in : Option Footprint → List Seen
reads_in None = []
reads_in (Some f) = f.reads.items

abbrev pub puts_in : Option Footprint → List Put
puts_in None = []
puts_in (Some f) = f.puts.items

-- what the footprint at an index read
abbrev pub reads_kept : List Footprint → ℕ → List Seen
reads_kept fs i = reads_in (slice_get fs i)

-- what it put
abbrev pub puts_kept : List Footprint → ℕ → List Put
puts_kept fs i = puts_in (slice_get fs i)
