-- Lists of records that differ by exchanges alone; lists of records that come from entries.
use Rattle.std.specs.Prelude.{◌≡◌, ◌≢◌, ℕ, List, [], ◌∷◌, map, Some}
use Rattle.kc_history.specs.Callers.{of_caller}
use Rattle.kc_history.specs.Order.{Footprints, one_record_more}
use Rattle.kc_history.specs.declared.record.Place.{Place}
use Rattle.kc_model.specs.Footprint.{Reads, Puts}
use Rattle.kc_model.specs.declared.footprint.Entry.{Entry}
use Rattle.kc_model.specs.declared.footprint.Footprint.{Footprint}
use Rattle.kc_model.specs.declared.footprint.Put.{Put}
use Rattle.kc_model.specs.declared.footprint.Seen.{Seen}

-- the first puts nothing that the second reads
abbrev pub PutsNothingOf : Footprint → Footprint → Type 0
PutsNothingOf f g = (q : Put) → Puts f q → (r : Seen) → Reads g r → r.loc.0 ≢ q.loc.0

-- commits of different threads that share no location that one of them puts
pub record Apart (a : Footprints) (p q : Place) : Type 0 where
  pub threads : p.thread ≢ q.thread
  pub first : Footprint
  pub second : Footprint
  pub is_first : a p.thread p.index ≡ Some first
  pub is_second : a q.thread q.index ≡ Some second
  pub free : PutsNothingOf first second
  pub quiet : PutsNothingOf second first

-- two neighbours that are apart have changed places
pub data Exchanged (a : Footprints) : List Place → List Place → Type 0 where
  here : {p q : Place} {ps : List Place} → Apart a p q → Exchanged a (q ∷ p ∷ ps) (p ∷ q ∷ ps)
  there : {p : Place} {ps qs : List Place} → Exchanged a ps qs → Exchanged a (p ∷ ps) (p ∷ qs)

pub data PlacesExchanged (a : Footprints) : List Place → List Place → Type 0 where
  none : {ps : List Place} → PlacesExchanged a ps ps
  one : {ps qs rs : List Place} → Exchanged a ps qs → PlacesExchanged a qs rs → PlacesExchanged a ps rs

-- ---- entries, where callers are the threads

-- a caller's footprints, in order
abbrev pub footprints_by : ℕ → List Entry → List Footprint
footprints_by u h = map (λ (x : Entry). x.footprint) (of_caller u h)

-- where the entries stand in lists by thread, when so many of each stand before
abbrev pub placed_from : (ℕ → ℕ) → List Entry → List Place
placed_from n [] = []
placed_from n (x ∷ xs) = record { thread = x.caller; index = n x.caller } ∷ placed_from (one_record_more x.caller n) xs

-- the second list is the first without some entries that only read
pub data LeavesLooks : List Entry → List Entry → Type 0 where
  end : LeavesLooks [] []
  keep : (x : Entry) {xs ys : List Entry} → LeavesLooks xs ys → LeavesLooks (x ∷ xs) (x ∷ ys)
  leave : (x : Entry) {xs ys : List Entry} → x.footprint.puts.items ≡ [] → LeavesLooks xs ys → LeavesLooks (x ∷ xs) ys
