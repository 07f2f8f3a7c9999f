-- On which side of a cut an entry stands.
use Rattle.std.specs.Prelude.{◌≡◌, ℕ, List, Some, Contains}
use Rattle.kc_model.specs.Footprint.{PutsWhatItReads, put_at}
use Rattle.kc_model.specs.Legal.{IsLegal}
use Rattle.kc_model.specs.Store.{Store}
use Rattle.kc_model.specs.declared.footprint.Entry.{Entry}
use Rattle.kc_model.specs.declared.footprint.Put.{Put}
use Rattle.kc_model.specs.declared.footprint.Seen.{Seen}
use Rattle.kc_store.specs.Knows.{IsWithin}
use Rattle.kc_store.specs.Views.{StoreView, store_opening}
use Rattle.kc_lasting.specs.Cuts.{IsCut}

-- all entries put what they read
abbrev pub PutWhatTheyRead : List Entry → Type 0
PutWhatTheyRead es = (e : Entry) → Contains es e → PutsWhatItReads e.footprint

-- what is cut off is a part of this history, which is legal as a whole
pub record IsCutOff (z : StoreView) (part whole : List Entry) (cells : List Seen) (end : Store) : Type 0 where
  pub cut : IsCut z part cells
  pub legal : IsLegal (store_opening z) whole end
  pub within : IsWithin part whole
  pub made : PutWhatTheyRead whole

-- it puts location l, and this is the put
abbrev pub PutsThere : Entry → ℕ → Put → Type 0
PutsThere e l p = put_at e.footprint.puts.items l ≡ Some p
