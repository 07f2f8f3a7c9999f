-- Records, and their lists by thread.
use Rattle.std.specs.Prelude.{ℕ, List, [], Option, map, slice_get, slice_index_or, Contains, IsSome}
use Rattle.std.specs.Option.{option_map}
use Rattle.kc_history.specs.RecordsValue.{RecordsValue}
use Rattle.kc_history.specs.Kept.{print, puts_in, reads_in}
use Rattle.kc_history.specs.declared.record.Head.{Head}
use Rattle.kc_history.specs.declared.record.Place.{Place}
use Rattle.kc_history.specs.declared.record.Record.{Record}
use Rattle.kc_model.specs.declared.footprint.Footprint.{Footprint}
use Rattle.kc_model.specs.declared.footprint.Put.{Put}
use Rattle.kc_model.specs.declared.footprint.Seen.{Seen}

-- what a record says but for its footprint
abbrev pub head_in : Record → Head
head_in r = record { thread = r.thread; mark = r.mark; answer = r.answer }

-- what the record at an index read
abbrev pub reads_of : List Record → ℕ → List Seen
reads_of rs i = reads_in (option_map (λ r. r.footprint) (slice_get rs i))

-- what it put
abbrev pub puts_of : List Record → ℕ → List Put
puts_of rs i = puts_in (option_map (λ r. r.footprint) (slice_get rs i))

-- its footprint
abbrev pub record_print : List Record → ℕ → Footprint
record_print rs i = print (reads_of rs i) (puts_of rs i)

-- the lists of threads
abbrev pub lists_of : List RecordsValue → List (List Record)
lists_of records = map (λ list. list.items) records

-- the record at a place
abbrev pub record_at : List (List Record) → ℕ → ℕ → Option Record
record_at records thread index = slice_get (slice_index_or records thread []) index

-- the footprint at a place
abbrev pub footprint_at : List (List Record) → ℕ → ℕ → Option Footprint
footprint_at records thread index = option_map (λ r. r.footprint) (record_at records thread index)

-- each place has a record
abbrev pub NamesRecords : List (List Record) → List Place → Type 0
NamesRecords records places = (p : Place) → Contains places p → IsSome (record_at records p.thread p.index)
