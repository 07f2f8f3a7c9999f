-- Counts over lists of records, list by list.
use Rattle.std.proofs.Common.{◌≡◌, ℕ, zero, suc, ◌+◌, ◌<◌, ◌≤◌, true, false, List, [], ◌∷◌, Some, length, get_or, take, drop, cond, refl, sym, ap, ◌∙◌, arith}
use Rattle.std.specs.Prelude.{count_by, sum_by, slice_get}
use Rattle.std.specs.List.{list_all}
use Rattle.std.specs.Option.{option_map}
use Rattle.std.proofs.lemmas.List.{drop_more, drop_all}
use Rattle.std.proofs.lemmas.Option.{get_or_from_slice_get}
use Rattle.std.proofs.lemmas.List.Sums.{sum_by-cons, sum_by_more, count_by-le-length}
use Rattle.kc_history.proofs.Choice.{some_is}
use Rattle.kc_history.proofs.Kept.{blank}
use Rattle.kc_history.specs.Records.{head_in, lists_of}
use Rattle.kc_history.specs.RecordsValue.{RecordsValue}
use Rattle.kc_history.specs.Text.{bare_record}
use Rattle.kc_history.specs.declared.record.Head.{Head}
use Rattle.kc_history.specs.declared.record.Record.{Record}
use Rattle.kc_model.specs.declared.reply.Item.{Item}
use Rattle.kc_script_storm.specs.Summary.{is_ok_item, is_ok_command, commits, ok_commands}

-- one more list was counted
pub counted_next : (f : List Record → ℕ) (vs : List RecordsValue) (i count total : ℕ) (v : RecordsValue) → i < length vs → v ≡ get_or vs i v → count + sum_by f (lists_of (drop i vs)) ≡ total → count + f v.items + sum_by f (lists_of (drop (i + 1) vs)) ≡ total
counted_next f vs i count total v lt is so_far =
    let rest = ap (λ (ws : List RecordsValue). sum_by f (lists_of ws)) (drop_more vs i v lt ∙ ap (λ (w : RecordsValue). w ∷ drop (i + 1) vs) (sym is)) in
    let cons = sum_by-cons f v.items (lists_of (drop (i + 1) vs)) in
    omega (arith, rest, cons, so_far)

-- all were counted
pub counted_all : (f : List Record → ℕ) (vs : List RecordsValue) (i count total : ℕ) → length vs ≤ i → count + sum_by f (lists_of (drop i vs)) ≡ total → count ≡ total
counted_all f vs i count total le so_far =
    let rest : sum_by f (lists_of (drop i vs)) ≡ 0 = ap (λ (ws : List RecordsValue). sum_by f (lists_of ws)) (drop_all i vs le) in
    omega (arith, rest, so_far)

-- a list has no more than all of them
pub list_le-commits : (vs : List RecordsValue) (i : ℕ) (v : RecordsValue) → i < length vs → v ≡ get_or vs i v → length v.items ≤ commits (lists_of vs)
list_le-commits [] i v lt is = absurd (omega arith)
list_le-commits (w ∷ vs) zero v lt is = let cons = sum_by-cons (λ (xs : List Record). length xs) w.items (lists_of vs) in let e : length v.items ≡ length w.items = ap (λ (x : RecordsValue). length x.items) is in omega (arith, cons, e)
list_le-commits (w ∷ vs) (suc i) v lt is = let cons = sum_by-cons (λ (xs : List Record). length xs) w.items (lists_of vs) in let h = list_le-commits vs i v (omega arith) is in omega (arith, cons, h)

pub oks_le-commits : (records : List (List Record)) → ok_commands records ≤ commits records
oks_le-commits [] = omega arith
oks_le-commits (rs ∷ records) =
    let a = sum_by-cons (count_by is_ok_command) rs records in
    let b = sum_by-cons (λ (xs : List Record). length xs) rs records in
    let one = count_by-le-length is_ok_command rs in
    let rest = oks_le-commits records in
    omega (arith, a, b, one, rest)

-- one more record is looked at, by its head
pub ok_more : (rs : List Record) (i : ℕ) (h : Head) → i < length rs → option_map head_in (slice_get rs i) ≡ Some h → count_by is_ok_command (take (i + 1) rs) ≡ count_by is_ok_command (take i rs) + cond (is_ok_command (bare_record h)) 1 0
ok_more rs i h lt at = sum_by_more (λ (r : Record). cond (is_ok_command r) 1 0) rs i blank lt ∙ ap (λ b. count_by is_ok_command (take i rs) + cond b 1 0) (by_head rs i lt at)
  where
    by_head : (rs : List Record) (i : ℕ) → i < length rs → option_map head_in (slice_get rs i) ≡ Some h → is_ok_command (get_or rs i blank) ≡ is_ok_command (bare_record h)
    by_head [] i lt at = absurd (omega arith)
    by_head (r ∷ rs) zero lt at = ap (λ (g : Head). is_ok_command (bare_record g)) (some_is (head_in r) h at)
    by_head (r ∷ rs) (suc i) lt at = by_head rs i (omega arith) at

-- ---- items

first_left : (items : List Item) (i : ℕ) (x : Item) → i < length items → slice_get items i ≡ Some x → drop i items ≡ x ∷ drop (i + 1) items
first_left items i x lt at = drop_more items i x lt ∙ ap (λ (y : Item). y ∷ drop (i + 1) items) (get_or_from_slice_get items i x x at)

-- the first that is left is not `ok`
pub items_stop : (items : List Item) (i : ℕ) (x : Item) → i < length items → slice_get items i ≡ Some x → is_ok_item x ≡ false → list_all is_ok_item (drop i items) ≡ list_all is_ok_item items → false ≡ list_all is_ok_item items
items_stop items i x lt at not_ok so_far = sym (ap (list_all is_ok_item) (first_left items i x lt at) ∙ rw not_ok refl) ∙ so_far

-- it is, and all is what is left
pub items_next : (items : List Item) (i : ℕ) (x : Item) → i < length items → slice_get items i ≡ Some x → is_ok_item x ≡ true → list_all is_ok_item (drop i items) ≡ list_all is_ok_item items → list_all is_ok_item (drop (i + 1) items) ≡ list_all is_ok_item items
items_next items i x lt at ok so_far = sym (ap (list_all is_ok_item) (first_left items i x lt at) ∙ rw ok refl) ∙ so_far
