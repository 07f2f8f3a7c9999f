-- A list that grows, and what was seen of it.
use Rattle.std.specs.Prelude.{◌≡◌, ◌≢◌, ℕ, List, [], ◌∷◌, ◌++◌, length, slice_index}
use mathlib.Core.Option.{some}
use lib.ListN.{get_elem?}
use Rattle.atomic_table.specs.Seated.{TableId}
use Rattle.atomic_table.specs.Table as table
use Rattle.atomic_table.specs.Table.{Me}
use Rattle.kc_roll.specs.declared.rule.View.{View}

-- the one stands at the front of the other
abbrev pub StandsAtFront : {A : Type 0} → List A → List A → Type 0
StandsAtFront {A} xs ys = (rest : List A) × (ys ≡ xs ++ rest)

-- the list that it is of, and what was seen of it
pub record PageView (E : Type 0) : Type 0 where
  pub of : TableId
  pub seen : List E

-- the second, where it is the longer one
abbrev pub longer : {A : Type 0} → List A → List A → List A
longer [] ys = ys
longer (x ∷ xs) [] = x ∷ xs
longer (x ∷ xs) (y ∷ ys) = x ∷ longer xs ys

abbrev pub nothing_seen : {E : Type 0} → View E
nothing_seen = record { seen = []; left = []; right = [] }

abbrev pub both_seen : {E : Type 0} → View E → View E → View E
both_seen v w = record { seen = longer v.seen w.seen; left = v.seen; right = w.seen }

-- what was seen begins the list, and what it was joined of begins that
pub record KnowsAFront {E : Type 0} (all : List E) (v : View E) : Type 0 where
  pub seen : StandsAtFront v.seen all
  pub left : StandsAtFront v.left v.seen
  pub right : StandsAtFront v.right v.seen

pub record FrontsKept {E : Type 0} (s : table.State (Unit {0}) (View E)) : Type 0 where
  pub all : List E
  pub one_word : length s.words ≡ 1
  pub count : slice_index s.words 0 ≡ length all
  pub views : (i : ℕ) (v : View E) → get_elem? s.views i ≡ some v → KnowsAFront all v

-- one more was written where so many stood, and else nothing
abbrev pub HasGrown : {E : Type 0} → ℕ → E → Me (Unit {0}) (View E) → ℕ → Me (Unit {0}) (View E) → Type 0
HasGrown n next me found after = (found ≡ n → (after.0.seen ≡ me.0.seen ++ next ∷ []) × (after.1 ≡ me.1)) × (found ≢ n → after ≡ me)

abbrev pub HasShown : {E : Type 0} → Me (Unit {0}) (View E) → Me (Unit {0}) (View E) → Type 0
HasShown me after = (after ≡ me) × StandsAtFront me.0.left me.0.seen × StandsAtFront me.0.right me.0.seen
