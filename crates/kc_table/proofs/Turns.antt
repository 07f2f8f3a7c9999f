-- Looks one after another.
use Rattle.std.proofs.lemmas.List.Elements.{All-get_or}
use Rattle.std.proofs.Common.{◌≡◌, ◌<◌, ◌++◌, ℕ, Bool, true, false, All, List, [], ◌∷◌, length, Some, get_or, refl, sym, ap, ◌∙◌}
use Rattle.atomic_table.specs.Seated.{TableId}
use Rattle.atomic_table.specs.Table.{Me}
use Rattle.kc_machine.specs.Machine.{run}
use Rattle.kc_machine.specs.Points.{seat_told}
use Rattle.kc_machine.specs.Seats.{begun, is_idle, seat_answered}
use Rattle.kc_machine.specs.declared.seat.Seat.{Seat}
use Rattle.kc_machine_steps.specs.Lines.{one_more}
use Rattle.kc_machine_steps.specs.declared.task.Task.TheVariants.{Look}
use Rattle.kc_machine_steps.specs.declared.task.Told.TheVariants as told
use Rattle.kc_machine_words.specs.declared.access.Found.TheVariants as found
use Rattle.kc_model.specs.Word.{IsPackable, packed, unpacked}
use Rattle.kc_model.specs.declared.footprint.Loc.{Loc}
use Rattle.kc_model.specs.declared.footprint.Seen.{Seen}
use Rattle.kc_model.specs.declared.word.Word.{Word}
use Rattle.kc_model.specs.declared.word.Word.TheVariants.{Plain, Ref}
use Rattle.kc_table.proofs.Begins.{ready_begun}
use Rattle.kc_table.proofs.Wholes.{look_busy, look_ran, look_ready, look_stands, look_steps}
use Rattle.kc_table.specs.Turns.{LooksAgain, seat_behind, is_read_below, one}
use Rattle.kc_table_moves.specs.Atoms.{Here}
use Rattle.kc_table_moves.specs.Origins.{Origin, opening_of}
use Rattle.kc_table_moves.specs.Rule.{MovedWithin, ReadySeat, number_of, past_of}
use Rattle.kc_table_moves.specs.Views.{RanQuietly, SeatView, Stepped, TableView, begun_at, seat_seen_as}
use Rattle.kc_table_moves.specs.declared.view.TheConstants.{MOST_LOADS}
use Rattle.kc_table_moves.specs.declared.view.View.{View}

-- ---- a seat behind looks

pub behind_last : (s : Seat) (m : ℕ) (xs : List Seen) (r : Seen) → seat_behind s m (xs ++ r ∷ []) ≡ seat_told s m s.calls (told.Seen r)
behind_last s m [] r = refl
behind_last s m (x ∷ []) r = refl
behind_last s m (x ∷ y ∷ xs) r = behind_last s m (y ∷ xs) r

pub behind_idle : (s : Seat) (m : ℕ) (xs : List Seen) → is_idle s.work ≡ true → is_idle (seat_behind s m xs).work ≡ true
behind_idle s m [] idle = idle
behind_idle s m (x ∷ []) idle = refl
behind_idle s m (x ∷ y ∷ xs) idle = behind_idle s m (y ∷ xs) idle

behind_told : (s : Seat) (m : ℕ) (xs : List Seen) (r : Seen) → is_idle s.work ≡ true → (seat_behind s m xs).made ≡ m → seat_answered (begun (seat_behind s m xs) (Look r.loc)) (found.Word (Plain r.version r.value)) ≡ seat_behind s (one_more m) (xs ++ r ∷ [])
behind_told s m [] r idle e = rw (idle, e) refl
behind_told s m (x ∷ []) r idle e = refl
behind_told s m (x ∷ y ∷ xs) r idle e = behind_told s m (y ∷ xs) r idle e

pub behind_made : (s : Seat) (m : ℕ) (xs : List Seen) (r : Seen) → (seat_behind s m (xs ++ r ∷ [])).made ≡ m
behind_made s m xs r = ap (λ (x : Seat). x.made) (behind_last s m xs r)

-- a look of one step that was told this found its plain word
pub look_found : (s w : Seat) (r : Seen) (x : Word) → is_idle s.work ≡ true → w ≡ seat_answered (begun s (Look r.loc)) (found.Word x) → is_idle w.work ≡ true → w.told ≡ Some (told.Seen r) → x ≡ Plain r.version r.value
look_found s w r (Plain version value) idle is ended says =
    let here : (seat_answered (begun s (Look r.loc)) (found.Word (Plain version value))).told ≡ Some (told.Seen (record { loc = r.loc; version = version; value = value })) = rw idle refl in
    let e : Some (told.Seen (record { loc = r.loc; version = version; value = value })) ≡ Some (told.Seen r) = sym here ∙ sym (ap (λ (z : Seat). z.told) is) ∙ says in
    let q : record { loc = r.loc; version = version; value = value } ≡ r = cc in
    ap (λ (z : Seen). Plain z.version z.value) q
look_found s w r (Ref generation descriptor entry) idle is ended says =
    let here : is_idle (seat_answered (begun s (Look r.loc)) (found.Word (Ref generation descriptor entry))).work ≡ false = rw idle refl in
    let e : true ≡ false = sym ended ∙ ap (λ (z : Seat). is_idle z.work) is ∙ here in
    absurd (cc)

-- ---- one more look

module _ (z y : TableId) (me later : Me Unit View) (began : Bool) (u w : Seat) (l : Loc) (n : ℕ) (idle : is_idle u.work ≡ true) (ready : ReadySeat me began u) (within : l.0 < me.0.origin.locations) (same : y ≡ z)
    (moved : MovedWithin MOST_LOADS (begun u (Look l)) true me n later) (back : (x : Word) → IsPackable x → packed x ≡ n → unpacked n ≡ x) (is : w ≡ seat_answered (begun u (Look l)) (found.Word (unpacked n)))
  where
    abbrev v : SeatView
    v = seat_seen_as z me began u

    stands : w ≡ (run (opening_of me.0.origin) (past_of later.0.parts)).seats (number_of me.0.parts)
    stands = look_stands u w me later l n (unpacked n) idle moved back is

    begins : ReadySeat me true (begun u (Look l))
    begins = ready_begun me began u z v (Look l) ready refl (idle, look_busy u l idle) within tt

    pub looks_ready : ReadySeat later false w
    looks_ready = look_ready me later u w l n begins moved stands

    pub looks_quietly : RanQuietly v (Look l) (seat_seen_as y later false w)
    looks_quietly = look_ran z y me later began u w v l n idle refl same moved stands

    pub looks_once : Stepped (begun_at v (Look l)) (seat_seen_as y later false w)
    looks_once = look_steps z y me later began u w v l n refl same moved stands

    pub looks_here : (q : Origin) (x : TableId) (base : ℕ) → Here q x base z me → Here q x base y later
    looks_here q x base h = record { table = same ∙ h.table; origin = ap (λ (t : TableView). t.origin) looks_once.of ∙ h.origin; from = h.from; few = h.few; size = h.size }

-- a row that goes on
module _ (z y : TableId) (me later : Me Unit View) (began : Bool) (s : Seat) (m : ℕ) (xs : List Seen) (r : Seen) (n : ℕ) (start : SeatView) (idle : is_idle s.work ≡ true) (made : (seat_behind s m xs).made ≡ m)
    (ready : ReadySeat me began (seat_behind s m xs)) (within : r.loc.0 < me.0.origin.locations) (same : y ≡ z) (moved : MovedWithin MOST_LOADS (begun (seat_behind s m xs) (Look r.loc)) true me n later)
    (back : (x : Word) → IsPackable x → packed x ≡ n → unpacked n ≡ x) (says : unpacked n ≡ Plain r.version r.value)
  where
    is : seat_behind s (one_more m) (xs ++ r ∷ []) ≡ seat_answered (begun (seat_behind s m xs) (Look r.loc)) (found.Word (unpacked n))
    is = sym (behind_told s m xs r idle made) ∙ ap (λ w. seat_answered (begun (seat_behind s m xs) (Look r.loc)) (found.Word w)) (sym says)

    abbrev w : Seat
    w = seat_behind s (one_more m) (xs ++ r ∷ [])

    at_rest : is_idle (seat_behind s m xs).work ≡ true
    at_rest = behind_idle s m xs idle

    pub row_ready : ReadySeat later false w
    row_ready = looks_ready z y me later began (seat_behind s m xs) w r.loc n at_rest ready within same moved back is

    pub row_here : (q : Origin) (x : TableId) (base : ℕ) → Here q x base z me → Here q x base y later
    row_here = looks_here z y me later began (seat_behind s m xs) w r.loc n at_rest ready within same moved back is

    pub row_looks : LooksAgain start xs (seat_seen_as z me began (seat_behind s m xs)) → LooksAgain start (xs ++ r ∷ []) (seat_seen_as y later false w)
    row_looks a = one xs (seat_seen_as z me began (seat_behind s m xs)) r (seat_seen_as y later false w) a (record {
      quiet = looks_quietly z y me later began (seat_behind s m xs) w r.loc n at_rest ready within same moved back is;
      once = looks_once z y me later began (seat_behind s m xs) w r.loc n at_rest ready within same moved back is;
      idle = behind_idle s (one_more m) (xs ++ r ∷ []) idle;
      told = ap (λ (x : Seat). x.told) (behind_last s (one_more m) xs r);
    })

pub reads_within : (k : ℕ) (rs : List Seen) (i : ℕ) (d : Seen) → i < length rs → All (is_read_below k) rs → (get_or rs i d).loc.0 < k
reads_within k rs i d lt a = All-get_or (is_read_below k) rs i d lt a
