-- Looks at all locations, and the cut that they show.
use Rattle.std.proofs.Common.{◌≡◌, ◌<◌, Bool, ℕ, zero, suc, ◌+◌, List, [], ◌∷◌, take, set, get_or, length, length-set, sym, ap, ◌∙◌, arith, subst}
use Rattle.std.proofs.lemmas.List.{take_all}
use Rattle.std.proofs.lemmas.List.Elements.{All-map}
use Rattle.std.specs.Prelude.{All}
use Rattle.kc_lasting.proofs.Made.{front_entries, front_is_all}
use Rattle.kc_lasting.specs.Cuts.{AllFrom, IsCut, IsKnownAt, IsLastAt, LooksOnceAt, standing_at}
use Rattle.kc_model.specs.Footprint.{IsBelow}
use Rattle.kc_model.specs.Legal.{IsLegal}
use Rattle.kc_model.specs.declared.footprint.Seen.{Seen}
use Rattle.kc_hang.proofs.kc_table_views.Knowing.{whole}
use Rattle.kc_hang.specs.kc_table_moves.Origins.{opening_of}
use Rattle.kc_hang.specs.kc_table_moves.Views.{Joined, TableNoteView, TableView}
use Rattle.kc_hang.specs.kc_table_views.Known.{IsMeant}
use Rattle.kc_model.specs.declared.footprint.Entry.{Entry}
use Rattle.kc_store.proofs.Remembering.{learns_on, learns_same}
use Rattle.kc_hang.proofs.kc_table_laws.Keeping.{keeps_same, keeps_then}
use Rattle.kc_store.proofs.Within.{known_lie}
use Rattle.kc_store.specs.Knows.{OnlyLearns}
use Rattle.kc_store.specs.Reads.{Stood}
use Rattle.kc_store.specs.Views.{CallerView, StoreView, caller_view, store_view}
use Rattle.kc_store.specs.kc_machine_traces.Histories.{Placed, ending_store, entries, made, seen_as_cell}
use Rattle.kc_store.specs.kc_machine_traces.Traces.{first_store}
use Rattle.kc_store.specs.kc_table_laws.Tasks.{KeepsKnown}
use Rattle.kc_store.specs.kc_table_moves.Views.{SeatView, knows, opening_at_seat}

-- ---- lists with numbers

pub all_more : (p : ℕ → Seen → Type 0) (k i : ℕ) (r : Seen) (rs : List Seen) → i < length rs → AllFrom p k (take i rs) → p (k + i) r → AllFrom p k (take (i + 1) (set rs i r))
all_more p k i r [] lt all one = absurd (omega (arith, lt))
all_more p k zero r (x ∷ rs) lt all one = (subst (λ n. p n r) (omega arith) one, tt)
all_more p k (suc i) r (x ∷ rs) lt all one =
    let later : suc i + 1 ≡ suc (i + 1) = omega arith in
    rw later (all.0, all_more p (suc k) i r rs (omega (arith, lt)) all.1 (subst (λ n. p n r) (omega arith) one))

pub all_then : (p q : ℕ → Seen → Type 0) → ((l : ℕ) (r : Seen) → p l r → q l r) → (k : ℕ) (rs : List Seen) → AllFrom p k rs → AllFrom q k rs
all_then p q f k [] all = tt
all_then p q f k (r ∷ rs) all = (f k r all.0, all_then p q f (suc k) rs all.1)

pub all_both : (p q s : ℕ → Seen → Type 0) → ((l : ℕ) (r : Seen) → p l r → q l r → s l r) → (k : ℕ) (rs : List Seen) → AllFrom p k rs → AllFrom q k rs → AllFrom s k rs
all_both p q s f k [] a b = tt
all_both p q s f k (r ∷ rs) a b = (f k r a.0 b.0, all_both p q s f (suc k) rs a.1 b.1)

-- ---- looks

pub known_on : (v w : SeatView) → KeepsKnown v w → (l : ℕ) (r : Seen) → IsKnownAt v l r → IsKnownAt w l r
known_on v w k l r (at, known) = (at, k.reads r known)

pub last_on : (v w : SeatView) (l : ℕ) (r : Seen) → KeepsKnown v w → IsLastAt w l r → IsLastAt v l r
last_on v w l r k last = let a = k.versions l in omega (arith, a, last)

-- a read, whose caller shows what it knows
pub looks : (l : ℕ) (r : Seen) (b e : Bool) (v w : SeatView) → Stood l (caller_view b v) r (caller_view e w) → KeepsKnown v w → LooksOnceAt l v r w
looks l r b e v w s k =
    let front : made (first_store (opening_at_seat w)) (entries (take s.front (knows w))) l ≡ seen_as_cell r = ap (λ es. made (first_store (opening_at_seat w)) es l) (sym (front_entries s.front (knows w))) ∙ s.makes in
    record {
      keeps = k;
      known = (s.at, (s.front, subst (λ (n : ℕ). ending_store (first_store (opening_at_seat w)) (take s.front (knows w)) n ≡ seen_as_cell r) (sym s.at) front));
      last = s.no_older;
    }

-- ---- the cut

-- known, and the last one: so it stands
pub stands_at : (v : SeatView) (l : ℕ) (r : Seen) → IsKnownAt v l r → IsLastAt v l r → (r.loc.0 ≡ l) × (standing_at v l ≡ seen_as_cell r)
stands_at v l r (at, (n, makes)) last =
    let front : made (first_store (opening_at_seat v)) (take n (entries (knows v))) l ≡ seen_as_cell r =
    ap (λ es. made (first_store (opening_at_seat v)) es l) (front_entries n (knows v)) ∙ subst (λ (k : ℕ). ending_store (first_store (opening_at_seat v)) (take n (knows v)) k ≡ seen_as_cell r) at makes in
    (at, front_is_all n (entries (knows v)) (first_store (opening_at_seat v)) l (seen_as_cell r) front last)

pub legal_behind : (v w : SeatView) (n : TableNoteView) → Joined v n w → IsLegal (first_store (opening_at_seat w)) (entries (knows w)) (ending_store (first_store (opening_at_seat w)) (knows w))
legal_behind v w n j =
    let meant : IsMeant (opening_at_seat w) w.past = subst (λ (z : TableView). IsMeant (opening_of z.origin) w.past) (sym j.learns.of) j.learns.meant in
    (whole (opening_at_seat w) w.past meant).legal

-- a seat that has learned knows of entries of its store alone
pub lies_behind : (v w : SeatView) (n : TableNoteView) → Joined v n w → All (λ (e : Entry). IsBelow (opening_at_seat w).locations e.footprint) (entries (knows w))
lies_behind v w n j =
    let meant : IsMeant (opening_at_seat w) w.past = subst (λ (z : TableView). IsMeant (opening_of z.origin) w.past) (sym j.learns.of) j.learns.meant in
    All-map (λ (e : Entry). IsBelow (opening_at_seat w).locations e.footprint) (λ (x : Placed). x.entry) (knows w) (λ k d lt. (known_lie (opening_at_seat w) w.past meant.0 k d lt).reads)

-- and of its callers alone
pub callers_behind : (v w : SeatView) (n : TableNoteView) → Joined v n w → All (λ (e : Entry). e.caller < (opening_at_seat w).callers) (entries (knows w))
callers_behind v w n j =
    let meant : IsMeant (opening_at_seat w) w.past = subst (λ (z : TableView). IsMeant (opening_of z.origin) w.past) (sym j.learns.of) j.learns.meant in
    All-map (λ (e : Entry). e.caller < (opening_at_seat w).callers) (λ (x : Placed). x.entry) (knows w) (whole (opening_at_seat w) w.past meant).of_callers

pub is_cut : (w : SeatView) (z : StoreView) (es : List Entry) (cells : List Seen) → z ≡ store_view w.of → es ≡ entries (knows w) → length cells ≡ z.locations
    → IsLegal (first_store (opening_at_seat w)) (entries (knows w)) (ending_store (first_store (opening_at_seat w)) (knows w)) → All (λ (e : Entry). IsBelow (opening_at_seat w).locations e.footprint) (entries (knows w)) → All (λ (e : Entry). e.caller < (opening_at_seat w).callers) (entries (knows w)) → AllFrom (IsKnownAt w) 0 cells → AllFrom (IsLastAt w) 0 cells → IsCut z es cells
is_cut w z es cells of is all legal lies callers known last =
    let at : IsCut (store_view w.of) (entries (knows w)) cells = record { legal = legal; lies = lies; nobody_else = callers; all = all ∙ ap (λ (z : StoreView). z.locations) of; stands = all_both (IsKnownAt w) (IsLastAt w) _ (stands_at w) 0 cells known last } in
    subst (λ (z : StoreView). IsCut z es cells) (sym of) (subst (λ (es : List Entry). IsCut (store_view w.of) es cells) (sym is) at)

-- ---- while one looks

-- the caller has learned, and forgotten nothing
pub record StillLooks (c d : CallerView) : Type 0 where
  pub learns : OnlyLearns c d
  pub keeps : KeepsKnown c.seat d.seat

pub still_first : (c : CallerView) → StillLooks c c
still_first c = record { learns = learns_same c; keeps = keeps_same c.seat }

pub still_on : (c d e : CallerView) → StillLooks c d → OnlyLearns d e → KeepsKnown d.seat e.seat → StillLooks c e
still_on c d e s l k = record { learns = learns_on c d e s.learns l; keeps = keeps_then c.seat d.seat e.seat s.keeps k }

pub looks_since : (l : ℕ) (r : Seen) (u v w : SeatView) → KeepsKnown u v → LooksOnceAt l v r w → LooksOnceAt l u r w
looks_since l r u v w k s = record { keeps = keeps_then u v w k s.keeps; known = s.known; last = last_on u v l r k s.last }

-- a read by a caller that shows what it knows, before and behind it
pub looked : (l : ℕ) (c d : CallerView) (r : Seen) (b e : Bool) → c ≡ caller_view b c.seat → d ≡ caller_view e d.seat → Stood l c r d → KeepsKnown c.seat d.seat → LooksOnceAt l c.seat r d.seat
looked l c d r b e is is' s k = looks l r b e c.seat d.seat (subst (λ (x : CallerView). Stood l x r (caller_view e d.seat)) is (subst (λ (y : CallerView). Stood l c r y) is' s)) k

-- ---- loops over all locations

pub record HaveRead (c d : CallerView) (at : ℕ) (old cells : List Seen) : Type 0 where
  pub still : StillLooks c d
  pub size : length cells ≡ length old
  pub known : AllFrom (IsKnownAt d.seat) 0 (take at cells)

pub record StandSoFar (c d : CallerView) (at : ℕ) (cells : List Seen) : Type 0 where
  pub still : StillLooks c d
  pub last : AllFrom (IsLastAt c.seat) 0 (take at cells)

pub next_one : (p : ℕ → Seen → Type 0) (k i : ℕ) (rs : List Seen) (d : Seen) → i < length rs → AllFrom p k (take i rs) → p (k + i) (get_or rs i d) → AllFrom p k (take (i + 1) rs)
next_one p k i [] d lt all one = absurd (omega (arith, lt))
next_one p k zero (x ∷ rs) d lt all one = (subst (λ n. p n x) (omega arith) one, tt)
next_one p k (suc i) (x ∷ rs) d lt all one =
    let later : suc i + 1 ≡ suc (i + 1) = omega arith in
    rw later (all.0, next_one p (suc k) i rs d (omega (arith, lt)) all.1 (subst (λ n. p n (get_or rs i d)) (omega arith) one))

pub read_one : (c d e : CallerView) (at : ℕ) (r : Seen) (old cells : List Seen) → at < length cells → HaveRead c d at old cells → OnlyLearns d e → LooksOnceAt at d.seat r e.seat → HaveRead c e (at + 1) old (set cells at r)
read_one c d e at r old cells lt h l s = record {
  still = still_on c d e h.still l s.keeps;
  size = length-set cells at r ∙ h.size;
  known = all_more (IsKnownAt e.seat) 0 at r cells lt (all_then (IsKnownAt d.seat) (IsKnownAt e.seat) (known_on d.seat e.seat s.keeps) 0 (take at cells) h.known) (subst (λ (n : ℕ). IsKnownAt e.seat n r) (omega arith) s.known);
}

pub stands_one : (c d e : CallerView) (at : ℕ) (r : Seen) (cells : List Seen) (x : Seen) → at < length cells → StandSoFar c d at cells → OnlyLearns d e → LooksOnceAt at d.seat r e.seat → r.version ≡ (get_or cells at x).version → StandSoFar c e (at + 1) cells
stands_one c d e at r cells x lt h l s same = record {
  still = still_on c d e h.still l s.keeps;
  last = next_one (IsLastAt c.seat) 0 at cells x lt h.last (subst (λ (n : ℕ). IsLastAt c.seat n (get_or cells at x)) (omega arith) (last_on c.seat d.seat at (get_or cells at x) h.still.keeps (let a = s.last in omega (arith, a, same))));
}

pub all_of : (p : ℕ → Seen → Type 0) (n : ℕ) (rs : List Seen) → n ≡ length rs → AllFrom p 0 (take n rs) → AllFrom p 0 rs
all_of p n rs is all = subst (AllFrom p 0) (ap (λ k. take k rs) is ∙ take_all (length rs) rs (omega arith)) all

pub record CutsOn (c d : CallerView) (old cells : List Seen) : Type 0 where
  pub learns : OnlyLearns c d
  pub size : length cells ≡ length old
