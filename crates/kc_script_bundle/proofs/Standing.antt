-- What the cells of one object stand for.
use Rattle.std.proofs.Common.{◌≡◌, ℕ, ◌+◌, ◌-◌, ◌≤◌, ◌<◌, cond, List, [], ◌∷◌, ◌++◌, length, Option, Some, refl, sym, ap, ap₂, ◌∙◌, arith, eq-eqb, ne_eqb, lt-ltb}
use Rattle.std.specs.Prelude.{reverse, map, None}
use Rattle.std.proofs.lemmas.List.{ext_get_or, length-reverse, get_or-reverse}
use Rattle.kc_cache.proofs.Cells.{cache_same, cache_shows, cache_opens}
use Rattle.kc_cells.proofs.AccLaw.{acc_own, acc_opens}
use Rattle.kc_cells.proofs.OnePlaces.{place_own, place_opens}
use Rattle.kc_cells.specs.OnePlace.{value_held, PlaceHolds}
use Rattle.kc_grow.proofs.Opened.{grow_opens, grow_same, grow_shows}
use Rattle.kc_hash.proofs.Chained.{same_cells, shows as table_shows}
use Rattle.kc_hash.proofs.Opened.{hash_opens}
use Rattle.kc_queue.proofs.Standing.{queue_own, queue_opens}
use Rattle.kc_queue.specs.Meaning.{queue_head_cell, queue_count_cell, ring_cell, queue_head_in, back_of, queue_counted, QueueStandsFor as QueueStands}
use Rattle.kc_queue.specs.declared.queue.Queue.{Queue}
use Rattle.kc_script_bundle.specs.declared.object.Object.{Object}
use Rattle.kc_stack.proofs.Standing.{stack_own, stack_opens}
use Rattle.kc_stack.specs.Content.{StackStandsFor as StackStands}
use Rattle.kc_stack.specs.Meaning.{stack_counted}
use Rattle.kc_stack.specs.declared.stack.Stack.{Stack}
use Rattle.kc_script_bundle.specs.declared.object.Object.TheVariants as object
use Rattle.kc_script_bundle.proofs.Places.{value_at, length-values_from}
use Rattle.kc_script_bundle.specs.Script.{Names, base, cells}
use Rattle.kc_script_bundle.specs.State.{Content, number, items, pairs, place, Stands, AllStand, opening_value, opening_content, from_top, stack_shown, from_front, queue_shown, shown, state_line, state_lines, state_text}

-- ---- it depends on the object's cells alone

-- two maps have the same in an object's cells
abbrev pub SameAt : Object → (ℕ → ℕ) → (ℕ → ℕ) → Type 0
SameAt o m w = (l : ℕ) → base o ≤ l → l < base o + cells o → m l ≡ w l

pub stands_same : (o : Object) (m w : ℕ → ℕ) (c : Content) → SameAt o m w → Stands o m c → Stands o w c
stands_same (object.Loc at value) m w c same h = h ∙ ap number (same at.0 (omega arith) (omega arith))
stands_same (object.Stack s) m w c same (xs, h, e) = (xs, stack_own s m w xs (λ l lo hi. same l lo (omega (arith, hi))) h, e)
stands_same (object.Queue q) m w c same (xs, h, e) = (xs, queue_own q m w xs (λ l lo hi. same l lo (omega (arith, hi))) h, e)
stands_same (object.Mvar x) m w c same (v, h, e) = (v, place_own x.base.0 m w v same h, e)
stands_same (object.Promise p) m w c same (v, h, e) = (v, place_own p.base.0 m w v same h, e)
stands_same (object.Acc a) m w c same (t, h, e) = (t, acc_own a m w t same h, e)
stands_same (object.Hash x) m w c same (ps, h, e) = (ps, same_cells x m ps h w (λ l lo hi. same l lo (omega (arith, hi))), e)
stands_same (object.Grow x) m w c same (ps, h, e) = (ps, grow_same x m w ps (λ l lo hi. same l lo (omega (arith, hi))) h, e)
stands_same (object.Cache x) m w c same (ps, h, e) = (ps, cache_same x m w ps (λ l lo hi. same l lo (omega (arith, hi))) h, e)

-- ---- it is shown, so it is one

stack_shows : (s : Stack) (m : ℕ → ℕ) (xs : List ℕ) → StackStands s m xs → stack_shown s m ≡ reverse xs
stack_shows s m xs h =
    let count : stack_counted s (m s.base.0) ≡ length xs = omega (arith, h.count, h.within) in
    let turned = length-reverse xs in
    ext_get_or 0 (stack_shown s m) (reverse xs) (length-values_from (from_top s m) 0 _ ∙ count ∙ sym turned) (λ i lt.
    let lt' : i < stack_counted s (m s.base.0) = omega (arith, lt, length-values_from (from_top s m) 0 (stack_counted s (m s.base.0))) in
    let below : i < length xs = omega (arith, lt', count) in
    let at : s.base.0 + stack_counted s (m s.base.0) - (0 + i) ≡ s.base.0 + 1 + (length xs - 1 - i) = omega (arith, count, below) in
    value_at (from_top s m) 0 _ i lt' ∙ ap m at ∙ h.cells (length xs - 1 - i) (omega (arith, below)) ∙ sym (get_or-reverse xs i 0 below))

queue_shows : (q : Queue) (m : ℕ → ℕ) (xs : List ℕ) → QueueStands q m xs → queue_shown q m ≡ xs
queue_shows q m xs h =
    let count : queue_counted q (m (queue_count_cell q)) ≡ length xs = omega (arith, h.count, h.within) in
    let head : queue_head_in q (m (queue_head_cell q)) ≡ m (queue_head_cell q) = ap (λ t. cond t (m (queue_head_cell q)) 0) (lt-ltb _ _ h.head) in
    ext_get_or 0 (queue_shown q m) xs (length-values_from (from_front q m) 0 _ ∙ count) (λ i lt.
    let lt' : i < queue_counted q (m (queue_count_cell q)) = omega (arith, lt, length-values_from (from_front q m) 0 (queue_counted q (m (queue_count_cell q)))) in
    let start : 0 + i ≡ i = omega arith in
    value_at (from_front q m) 0 _ i lt' ∙ ap (from_front q m) start ∙ ap (λ n. m (ring_cell q (back_of q n i))) head ∙ h.ring i (omega (arith, lt', count)))

place_shows : (base : ℕ) (m : ℕ → ℕ) (v : Option ℕ) → PlaceHolds base m v → value_held base m ≡ v
place_shows base m None h = ap (λ t. cond t None (Some (m (base + 1)))) (eq-eqb _ _ h)
place_shows base m (Some v) h = ap (λ t. cond t None (Some (m (base + 1)))) (ne_eqb _ _ (λ z. omega (arith, h.0, z))) ∙ ap Some h.1

pub shows : (o : Object) (m : ℕ → ℕ) (c : Content) → Stands o m c → shown o m ≡ c
shows (object.Loc at value) m c h = sym h
shows (object.Stack s) m c (xs, h, e) = ap items (stack_shows s m xs h) ∙ sym e
shows (object.Queue q) m c (xs, h, e) = ap items (queue_shows q m xs h) ∙ sym e
shows (object.Mvar x) m c (v, h, e) = ap place (place_shows x.base.0 m v h) ∙ sym e
shows (object.Promise p) m c (v, h, e) = ap place (place_shows p.base.0 m v h) ∙ sym e
shows (object.Acc a) m c (t, h, e) = ap number (sym h) ∙ sym e
shows (object.Hash x) m c (ps, h, e) = ap pairs (table_shows x m ps h) ∙ sym e
shows (object.Grow x) m c (ps, h, e) = ap pairs (grow_shows x m ps h) ∙ sym e
shows (object.Cache x) m c (ps, h, e) = ap pairs (cache_shows x m ps h) ∙ sym e

pub all_show : (names : Names) (m : ℕ → ℕ) (cs : List Content) → AllStand names m cs → state_text names m ≡ state_lines names cs
all_show [] m [] h = refl
all_show [] m (c ∷ cs) h = absurd h
all_show (entry ∷ names) m [] h = absurd h
all_show (entry ∷ names) m (c ∷ cs) (h, hs) = ap (λ c. state_line entry.0 c ++ state_text names m) (shows entry.1 m c h) ∙ ap (λ text. state_line entry.0 c ++ text) (all_show names m cs hs)

pub all_one : (names : Names) (m : ℕ → ℕ) (cs ds : List Content) → AllStand names m cs → AllStand names m ds → cs ≡ ds
all_one names m cs ds h g = sym (all_shown names m cs h) ∙ all_shown names m ds g
  where
    all_shown : (names : Names) (m : ℕ → ℕ) (cs : List Content) → AllStand names m cs → map (λ entry. shown entry.1 m) names ≡ cs
    all_shown [] m [] h = refl
    all_shown [] m (c ∷ cs) h = absurd h
    all_shown (entry ∷ names) m [] h = absurd h
    all_shown (entry ∷ names) m (c ∷ cs) (h, hs) = ap₂ (λ c cs. c ∷ cs) (shows entry.1 m c h) (all_shown names m cs hs)

-- ---- at the opening

-- cells with their opening values stand for the opening content
pub stands_opened : (o : Object) (m : ℕ → ℕ) → ((i : ℕ) → i < cells o → m (base o + i) ≡ opening_value o i) → Stands o m (opening_content o)
stands_opened (object.Loc at value) m h =
    let e : at.0 + 0 ≡ at.0 = omega arith in
    ap number (sym (h 0 (omega arith)) ∙ ap m e)
stands_opened (object.Stack s) m h = ([], stack_opens s m h, refl)
stands_opened (object.Queue q) m h = ([], queue_opens q m h, refl)
stands_opened (object.Mvar x) m h = (None, place_opens x.base.0 m h, refl)
stands_opened (object.Promise p) m h = (None, place_opens p.base.0 m h, refl)
stands_opened (object.Acc a) m h = (0, acc_opens a m h, refl)
stands_opened (object.Hash x) m h = ([], hash_opens x m h x.some_buckets x.some, refl)
stands_opened (object.Grow x) m h = ([], grow_opens x m h, refl)
stands_opened (object.Cache x) m h = ([], cache_opens x m x.some_buckets x.some h, refl)
