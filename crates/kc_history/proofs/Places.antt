-- The record at a place.
use Rattle.std.proofs.Common.{◌≡◌, ℕ, zero, suc, ◌<◌, List, [], ◌∷◌, ◌++◌, Option, Some, None, get_or, slice_index_or, length, sym, ap, ◌∙◌, subst, arith}
use Rattle.std.specs.Prelude.{IsSome, codes, slice_get}
use Rattle.std.specs.Option.{option_map}
use Rattle.kc_history.proofs.Choice.{some_is}
use Rattle.kc_history.proofs.Kept.{print_in}
use Rattle.kc_history.specs.Text.{bare_record, label_text, order_line}
use Rattle.kc_history.specs.declared.record.Head.{Head}
use Rattle.kc_history.specs.declared.record.Record.{Record}
use Rattle.kc_history.specs.RecordsValue.{RecordsValue}
use Rattle.kc_history.specs.Records.{footprint_at, head_in, lists_of, record_print, record_at}

-- where the place has a record, the thread's list is this one's
thread_list : (vs : List RecordsValue) (t k : ℕ) (v : RecordsValue) → v ≡ get_or vs t v → IsSome (record_at (lists_of vs) t k) → slice_index_or (lists_of vs) t [] ≡ v.items
thread_list [] t k v e some = absurd (cc)
thread_list (w ∷ vs) zero k v e some = ap (λ (x : RecordsValue). x.items) (sym e)
thread_list (w ∷ vs) (suc t) k v e some = thread_list vs t k v e some

-- where an element can be read the index is within the list
within : {X : Type 0} (xs : List X) (k : ℕ) → IsSome (slice_get xs k) → k < length xs
within [] k some = absurd (cc)
within (x ∷ xs) zero some = omega arith
within (x ∷ xs) (suc k) some = let h = within xs k some in omega arith

-- the place's index is within its thread's list
pub index_within : (vs : List RecordsValue) (t k : ℕ) (v : RecordsValue) → v ≡ get_or vs t v → IsSome (record_at (lists_of vs) t k) → k < length v.items
index_within vs t k v e some = within v.items k (subst (λ (xs : List Record). IsSome (slice_get xs k)) (thread_list vs t k v e some) some)

-- the footprint at the place is that of its lines
pub footprint_read : (vs : List RecordsValue) (t k : ℕ) (v : RecordsValue) → v ≡ get_or vs t v → IsSome (record_at (lists_of vs) t k) → footprint_at (lists_of vs) t k ≡ Some (record_print v.items k)
footprint_read vs t k v e some = ap (λ (xs : List Record). option_map (λ (r : Record). r.footprint) (slice_get xs k)) (thread_list vs t k v e some) ∙ print_in v.items k (index_within vs t k v e some)

-- the line of the record at the place is that of its head
pub head_line : (vs : List RecordsValue) (t k : ℕ) (v : RecordsValue) (h : Head) → v ≡ get_or vs t v → IsSome (record_at (lists_of vs) t k) → option_map head_in (slice_get v.items k) ≡ Some h → label_text (bare_record h) ++ codes "\n" ≡ order_line (record_at (lists_of vs) t k)
head_line vs t k v h e some is = sym (ap (λ (xs : List Record). order_line (slice_get xs k)) (thread_list vs t k v e some) ∙ by (slice_get v.items k) is)
  where
    by : (o : Option Record) → option_map head_in o ≡ Some h → order_line o ≡ label_text (bare_record h) ++ codes "\n"
    by None is = absurd (cc)
    by (Some r) is = ap (λ (g : Head). label_text (bare_record g) ++ codes "\n") (some_is (head_in r) h is)
