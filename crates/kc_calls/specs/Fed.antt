-- Numbers that are replies of operations before.
use Rattle.std.specs.Prelude.{◌≡◌, ℕ, suc, ◌<◌, ◌==◌, Bool, true, ◌||◌, not, if◌then◌else◌, List, [], ◌∷◌, Option, Some, None, slice_get}
use Rattle.std.specs.Option.{option_and_then, option_map}
use Rattle.kc_calls.specs.declared.operation.KcasOp.{KcasOp}
use Rattle.kc_calls.specs.declared.verbs.TheConstants.{OR, FED_A, FED_B, FED_BOTH, SWAP, UPDATE, MODIFY, CHECK}
use Rattle.kc_model.specs.declared.reply.Item.{Item}
use Rattle.kc_model.specs.declared.reply.Item.TheVariants as item

-- whether the first number names an operation, and whether the second does
abbrev pub feeds_a : ℕ → Bool
feeds_a mark = (mark == FED_A) || (mark == FED_BOTH)

abbrev pub feeds_b : ℕ → Bool
feeds_b mark = (mark == FED_B) || (mark == FED_BOTH)

abbrev pub number_of_item : Item → Option ℕ
number_of_item (item.Value v) = Some v
number_of_item x = None

-- the number that the operation of this place replied, if that was a number
abbrev pub number_replied : List Item → ℕ → Option ℕ
number_replied items i = option_and_then number_of_item (slice_get items i)

-- ---- an operation behind those that replied these items

abbrev pub with_a_fed : List Item → KcasOp → Option KcasOp
with_a_fed items o = if feeds_a o.mark then option_map (λ n. record o { a = n }) (number_replied items o.a) else Some o

abbrev pub with_b_fed : List Item → KcasOp → Option KcasOp
with_b_fed items o = if feeds_b o.mark then option_map (λ n. record o { b = n }) (number_replied items o.b) else Some o

-- with their replies for the numbers that name them; none where one of these replied no number
abbrev pub fed : List Item → KcasOp → Option KcasOp
fed items o = option_and_then (with_b_fed items) (with_a_fed items o)

-- ---- which may be fed

-- whether its first number is a value or a key, and no location, function or relation
abbrev pub takes_number : ℕ → Bool
takes_number verb = not ((verb == SWAP) || ((verb == UPDATE) || ((verb == MODIFY) || (verb == CHECK))))

abbrev pub MayBeFed : KcasOp → Type 0
MayBeFed o = feeds_a o.mark ≡ true → takes_number o.verb ≡ true

-- it names operations before it, of which there are so many
abbrev pub IsFed : ℕ → KcasOp → Type 0
IsFed before o = (feeds_a o.mark ≡ true → o.a < before) × (feeds_b o.mark ≡ true → o.b < before)

-- how many operations of its alternative stand before one, where so many did if it begins none
abbrev pub place_in_row : ℕ → KcasOp → ℕ
place_in_row before o = if o.mark == OR then 0 else before

-- each names operations before it in its alternative
abbrev pub AreFed : ℕ → List KcasOp → Type 0
AreFed before [] = Unit {0}
AreFed before (o ∷ os) = IsFed (place_in_row before o) o × AreFed (suc (place_in_row before o)) os
