-- What C is told of reads.
use Rattle.std.specs.Prelude.{◌≡◌, ℕ, Result, Ok, Err}
use Rattle.kc_c.specs.declared.answers.TheConstants.{DONE, BUSY}
use Rattle.kc_c.specs.declared.client.Client.{Client}
use Rattle.kc_c.specs.declared.reading.KcasSeen.{KcasSeen}
use Rattle.kc_c.specs.declared.standing.Standing.TheVariants as standing
use Rattle.kc_model.specs.declared.footprint.Seen.{Seen}
use Rattle.kc_store.specs.Knows.{OnlyLearns}
use Rattle.kc_store.specs.Reads as store
use Rattle.kc_store.specs.Views.{CallerView}
use Rattle.kc_store.specs.declared.reading.ReadBusy.{ReadBusy}

abbrev pub read_told : Seen → KcasSeen
read_told r = record { location = r.loc.0; version = r.version; value = r.value }

-- the number, and the value and the version that were written, or as they were where it was given up
abbrev pub ReadTold : Result Seen ReadBusy → ℕ → (before_value before_version value version : ℕ) → Type 0
ReadTold (Ok r) n v₀ w₀ v w = (n ≡ DONE) × (v ≡ r.value) × (w ≡ r.version)
ReadTold (Err e) n v₀ w₀ v w = (n ≡ BUSY) × (v ≡ v₀) × (w ≡ w₀)

-- one read of the location was made, and this is told of it
pub record IsReadByCaller (l : ℕ) (c : Client) (n : ℕ) (d : Client) (before_value before_version value version : ℕ) : Type 0 where
  pub caller : CallerView
  pub rested : c.standing ≡ standing.Rests caller
  pub then_caller : CallerView
  pub rests : d.standing ≡ standing.Rests then_caller
  pub got : Result Seen ReadBusy
  pub reads : store.IsReadOrBusy l got caller then_caller
  pub learns : OnlyLearns caller then_caller
  pub tells : ReadTold got n before_value before_version value version
  pub kept : d.footprint ≡ c.footprint
