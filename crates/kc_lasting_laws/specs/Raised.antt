-- Entries whose versions are raised.
use Rattle.std.specs.Prelude.{◌≡◌, ℕ, ◌+◌, ◌<◌, List, map, All}
use Rattle.kc_model.specs.Footprint.{IsBelow}
use Rattle.kc_model.specs.Store.{Store}
use Rattle.kc_model.specs.declared.footprint.Entry.{Entry}
use Rattle.kc_model.specs.declared.footprint.Footprint.{Footprint}
use Rattle.kc_model.specs.declared.footprint.Put.{Put}
use Rattle.kc_model.specs.declared.footprint.Seen.{Seen}
use Rattle.kc_model.specs.declared.plain_store.Cell.{Cell}

-- each location has so many versions more
abbrev pub read_raised : (ℕ → ℕ) → Seen → Seen
read_raised b r = record { loc = r.loc; version = b r.loc.0 + r.version; value = r.value }

abbrev pub put_raised : (ℕ → ℕ) → Put → Put
put_raised b p = record { loc = p.loc; version = b p.loc.0 + p.version; after = p.after }

abbrev pub footprint_raised : (ℕ → ℕ) → Footprint → Footprint
footprint_raised b f = record { reads = record { items = map (read_raised b) f.reads.items }; puts = record { items = map (put_raised b) f.puts.items } }

abbrev pub entry_raised : (ℕ → ℕ) → Entry → Entry
entry_raised b e = record { caller = e.caller; number = e.number; footprint = footprint_raised b e.footprint }

abbrev pub cell_raised : ℕ → Cell → Cell
cell_raised v c = record { version = v + c.version; value = c.value }

-- below location n the one store is the other, with its versions raised
abbrev pub AgreesRaised : ℕ → (ℕ → ℕ) → Store → Store → Type 0
AgreesRaised n b s t = (l : ℕ) → l < n → s l ≡ cell_raised (b l) (t l)

-- all read below location n
abbrev pub AllLieBelow : ℕ → List Entry → Type 0
AllLieBelow n es = All (λ (e : Entry). IsBelow n e.footprint) es
