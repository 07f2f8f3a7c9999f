-- What laying out a structure answers.
use Rattle.std.specs.Prelude.{◌≡◌, ◌⊎◌, ◌+◌, ◌<◌, ◌≤◌, ℕ, true, false, List, Option, Some, length, take, drop, get_or}
use Rattle.kc_c.specs.declared.answers.TheConstants.{DONE, BAD_SIZE}
use Rattle.kc_calls.specs.Structures as structure
use Rattle.kc_calls.specs.declared.object.KcasObject.{KcasObject}
use Rattle.kc_lay.specs.Placed.{LaysBehind, StaysLaid}
use Rattle.kc_model.specs.declared.plain_store.TheConstants.{MOST_LOCATIONS}
use Rattle.kc_script_bundle.specs.Script.{cells}
use Rattle.kc_script_bundle.specs.State.{opening_value}
use Rattle.kc_script_bundle.specs.declared.object.Object.{Object}

-- a structure's cells were laid out, or not, and then the values are as they were
abbrev pub LaysOut : Option Object → List ℕ → ℕ → List ℕ → Type 0
LaysOut o before n after = ((n ≡ DONE) × structure.OpensStructure o before true after) ⊎ ((n ≡ BAD_SIZE) × structure.OpensStructure o before false after)

-- the same, from this location on
abbrev pub placed_at : ℕ → KcasObject → KcasObject
placed_at base o = record o { base = base }

-- it lies right behind the first `end` values, which stay as they were; so do those behind it
pub record LiesNext (o : KcasObject) (before : List ℕ) (end : ℕ) (placed : KcasObject) (after : List ℕ) (next : ℕ) : Type 0 where
  pub placed_there : placed ≡ placed_at end o
  pub laid : Object
  pub is : structure.structure_of placed ≡ Some laid
  pub lays : LaysBehind end (cells laid) (opening_value laid) (take end before) (take next after)
  pub stays : StaysLaid (take end before) (take next after)
  pub rest : drop next after ≡ drop next before

-- there is no such structure there, or no room for it
abbrev pub HasNoRoom : KcasObject → List ℕ → ℕ → Type 0
HasNoRoom o before end = (MOST_LOCATIONS < length before) ⊎ (length before < end) ⊎ structure.OpensStructure (structure.structure_of (placed_at end o)) (drop end before) false (drop end before)

-- a structure was laid behind others, or nothing changed
abbrev pub LaysNext : KcasObject → List ℕ → ℕ → ℕ → KcasObject → List ℕ → ℕ → Type 0
LaysNext o before end n placed after next = ((n ≡ DONE) × LiesNext o before end placed after next) ⊎ ((n ≡ BAD_SIZE) × HasNoRoom o before end × (placed ≡ o) × (after ≡ before) × (next ≡ end))
