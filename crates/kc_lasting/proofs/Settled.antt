-- On which side of a cut the last entry of a caller stands that has learned the cut; and that all before stands there.
use Rattle.std.proofs.Common.{◌≡◌, ◌<◌, ◌≤◌, ◌==◌, ◌⊎◌, inl, inr, Bool, true, false, cond, take, ℕ, zero, suc, ◌++◌, List, [], ◌∷◌, map, get_or, length, refl, sym, ap, ◌∙◌, arith, subst}
use Rattle.std.proofs.lemmas.List.{append_assoc}
use Rattle.std.specs.Prelude.{Contains}
use Rattle.kc_hang.proofs.kc_table_laws.Confirming.{front_later}
use Rattle.kc_hang.proofs.kc_table_views.Knowing.{grows_on, known_on, legal_known}
use Rattle.kc_hang.specs.kc_machine.Machine.{Opening}
use Rattle.kc_hang.specs.kc_table_moves.Origins.{opening_of}
use Rattle.kc_hang.specs.kc_table_moves.Views.{Joined, TableView}
use Rattle.kc_hang.specs.kc_table_views.Known.{IsMeant, IsPrefix, known}
use Rattle.kc_hang.proofs.kc_table_laws.Keeping.{keeps_then}
use Rattle.kc_model.specs.Legal.{IsLegal}
use Rattle.kc_lasting.proofs.Early.{is_shorter, meant_front}
use Rattle.kc_lasting.proofs.Made.{front_entries}
use Rattle.kc_lasting.proofs.Putting.{all_put}
use Rattle.kc_lasting.proofs.Sides.{all_at, is_in_part, stands_before, within_contains}
use Rattle.kc_lasting.specs.Cuts.{IsKnownAt, left_by, standing_at}
use Rattle.kc_lasting.specs.Ends.{HasSeen, IsCutAt, IsEraEnd}
use Rattle.kc_lasting.specs.Settled.{StandsBefore, entries_known}
use Rattle.kc_lasting.specs.Sides.{IsCutOff, PutWhatTheyRead, PutsThere}
use Rattle.kc_machine_steps.specs.declared.task.Event.{Event}
use Rattle.kc_model.proofs.Stores.{Contains-first, Contains-later}
use Rattle.kc_model.specs.Footprint.{PutsWhatItReads}
use Rattle.kc_model.specs.declared.footprint.Entry.{Entry}
use Rattle.kc_model.specs.Store.{Store}
use Rattle.kc_model.specs.declared.footprint.Footprint.{Footprint}
use Rattle.kc_model.specs.declared.footprint.Put.{Put}
use Rattle.kc_model.specs.declared.footprint.Seen.{Seen}
use Rattle.kc_model.specs.declared.plain_store.Cell.{Cell}
use Rattle.kc_store.proofs.Among.{first_or_later, nothing_in}
use Rattle.kc_store.proofs.Glancing.{front_of_entries}
use Rattle.kc_store.proofs.Remembering.{entries_by, entries_within, within_on}
use Rattle.kc_store.specs.Knows.{IsWithin, OnlyLearns, entries_of, none, here, later}
use Rattle.kc_store.specs.Viewing.{FrontMakes, StandsAtOnce}
use Rattle.kc_store.specs.Views.{CallerView, NoteView, StoreView, caller_view, store_opening, store_view}
use Rattle.kc_store.specs.kc_machine_traces.Histories.{Grows, History, IsKnown, Placed, ending_store, entries, made, seen_as_cell}
use Rattle.kc_store.specs.kc_machine_traces.Traces.{first_store}
use Rattle.kc_store.specs.kc_table_laws.Tasks.{KeepsKnown}
use Rattle.kc_store.specs.kc_table_moves.Views.{knows, opening_at_seat}
use Rattle.kc_store.specs.kc_machine_history.Confirmed.{HasFront}

-- ---- lists

either_within : (b : Bool) (e : Entry) (fs es : List Entry) → IsWithin fs es → IsWithin (cond b (e ∷ fs) fs) (e ∷ es)
either_within true e fs es w = here w
either_within false e fs es w = later w

pub own_within : (k : ℕ) (es : List Entry) → IsWithin (entries_of k es) es
own_within k [] = none
own_within k (e ∷ es) = either_within (e.caller == k) e (entries_of k es) es (own_within k es)

both_within : (b : Bool) (e : Entry) (fs gs : List Entry) → IsWithin fs gs → IsWithin (cond b (e ∷ fs) fs) (cond b (e ∷ gs) gs)
both_within true e fs gs w = here w
both_within false e fs gs w = w

later_within : (b : Bool) (e : Entry) (fs gs : List Entry) → IsWithin fs gs → IsWithin fs (cond b (e ∷ gs) gs)
later_within true e fs gs w = later w
later_within false e fs gs w = w

-- what stands within stands so of each caller
pub own_grows : (k : ℕ) {a b : List Entry} → IsWithin a b → IsWithin (entries_of k a) (entries_of k b)
own_grows k none = none
own_grows k (here {e} {a} {b} w) = both_within (e.caller == k) e (entries_of k a) (entries_of k b) (own_grows k w)
own_grows k (later {e} {a} {b} w) = later_within (e.caller == k) e (entries_of k a) (entries_of k b) (own_grows k w)

put_what_they_read : (h : History) → ((x : Placed) → Contains h x → PutsWhatItReads x.entry.footprint) → PutWhatTheyRead (entries h)
put_what_they_read [] all e c = nothing_in e c
put_what_they_read (x ∷ h) all e c = go (first_or_later x.entry (entries h) e c) (put_what_they_read h (λ y i. all y (Contains-later x h y i)) e)
  where
    go : (x.entry ≡ e) ⊎ Contains (entries h) e → (Contains (entries h) e → PutsWhatItReads e.footprint) → PutsWhatItReads e.footprint
    go (inl is) ih = subst (λ (y : Entry). PutsWhatItReads y.footprint) is (all x (Contains-first x h))
    go (inr i) ih = ih i

mapped_at : (rs : List Seen) (i k : ℕ) (d : Seen) → i < length rs → get_or (map (λ (r : Seen). r.version) rs) i k ≡ (get_or rs i d).version
mapped_at [] i k d lt = absurd (omega (arith, lt))
mapped_at (r ∷ rs) zero k d lt = refl
mapped_at (r ∷ rs) (suc i) k d lt = mapped_at rs i k d (omega (arith, lt))

-- ---- the cut

version_cut : (z : StoreView) (part : List Entry) (versions : List ℕ) (l : ℕ) (k : ℕ) → (c : IsCutAt z part versions) → l < length c.cells → (left_by z part l).version ≡ get_or versions l k
version_cut z part versions l k c lt =
    let d : Seen = record { loc = record { 0 = 0 }; version = 0; value = 0 } in
    let at = all_at (λ (l : ℕ) (r : Seen). (r.loc.0 ≡ l) × (left_by z part l ≡ seen_as_cell r)) 0 l c.cells d lt c.cut.stands in
    let there : (left_by z part l).version ≡ (get_or c.cells l d).version = subst (λ (n : ℕ). (left_by z part n).version ≡ (get_or c.cells l d).version) (omega arith) (ap (λ (c : Cell). c.version) at.1) in
    there ∙ sym (mapped_at c.cells l k d lt) ∙ ap (λ (vs : List ℕ). get_or vs l k) (sym c.versions_are)

-- ---- a caller that has learned the cut

pub record Learned (z : StoreView) (c w : CallerView) (n : NoteView) (hist : List Entry) (versions : List ℕ) : Type 0 where
  pub of : c.of ≡ z
  pub before : c ≡ caller_view c.worn c.seat
  pub behind : w ≡ caller_view w.worn w.seat
  pub own : c.own ≡ entries_of c.number c.known
  pub own_behind : w.own ≡ entries_of w.number w.known
  pub note : IsEraEnd z n hist versions
  pub joined : Joined c.seat n.note w.seat
  pub learns : OnlyLearns c w

prefix_then : (a b c : List Event) → IsPrefix a b → IsPrefix b c → IsPrefix a c
prefix_then a b c (r, p) (s, q) = (r ++ s, q ∙ ap (λ (x : List Event). x ++ s) p ∙ append_assoc a r s)

module _ (z : StoreView) (c w : CallerView) (n : NoteView) (hist : List Entry) (versions : List ℕ) (lr : Learned z c w n hist versions) where
  abbrev o : Opening
  o = opening_at_seat c.seat

  same : z ≡ store_view c.seat.of
  same = sym lr.of ∙ ap (λ (x : CallerView). x.of) lr.before

  meant : IsMeant o w.seat.past
  meant = lr.joined.learns.meant

  -- the history that was cut off
  abbrev pub part : List Entry
  part = entries (known (opening_of z.table.origin) lr.note.past)

  part_is : part ≡ entries (known o lr.note.past)
  part_is = ap (λ (y : StoreView). entries (known (opening_of y.table.origin) lr.note.past)) same

  pub cut_goes_on : IsPrefix lr.note.past w.seat.past
  cut_goes_on = prefix_then lr.note.past n.note.past w.seat.past lr.note.within lr.joined.told

  whole_is : w.known ≡ entries (known o w.seat.past)
  whole_is = ap (λ (x : CallerView). x.known) lr.behind ∙ ap (λ (t : TableView). entries (known (opening_of t.origin) w.seat.past)) lr.joined.learns.of

  abbrev IsLegalFrom : StoreView → List Entry → Type 0
  IsLegalFrom y es = IsLegal (store_opening y) es (made (store_opening y) es)

  grown : IsWithin (entries (known o lr.note.past)) (entries (known o w.seat.past))
  grown =
      let (rest, is) = cut_goes_on in
      entries_within (subst (λ (x : List Event). Grows (known o lr.note.past) (known o x)) (sym is) (grows_on o lr.note.past rest (subst (IsMeant o) is meant))).0

  cut_off : IsCutOff z part w.known lr.note.cut.cells (made (store_opening z) w.known)
  cut_off = record {
    cut = lr.note.cut.cut;
    legal = subst (IsLegalFrom z) (sym whole_is) (subst (λ (y : StoreView). IsLegalFrom y (entries (known o w.seat.past))) (sym same) (legal_known o w.seat.past meant));
    within = subst (λ (es : List Entry). IsWithin es w.known) (sym part_is) (subst (λ (es : List Entry). IsWithin (entries (known o lr.note.past)) es) (sym whole_is) grown);
    made = subst PutWhatTheyRead (sym whole_is) (put_what_they_read (known o w.seat.past) (all_put o w.seat.past meant.0));
  }

  no_other : IsWithin (entries_of c.number part) c.own
  no_other =
      let w_own : entries_of c.number w.known ≡ c.own = ap (λ (j : ℕ). entries_of j w.known) (sym lr.learns.remembers.number) ∙ sym lr.own_behind ∙ lr.learns.own in
      subst (IsWithin (entries_of c.number part)) w_own (own_grows c.number cut_off.within)

  -- what was known where location g stood lower than at the cut
  module _ (s : CallerView) (g flag k : ℕ) (has : HasSeen g flag s c) (lt : g < length lr.note.cut.cells) (high : flag < get_or versions g k) where
    at_s : (standing_at s.seat g).version ≡ (ending_store (first_store o) (known o s.seat.past) g).version
    at_s = ap (λ (t : TableView). (ending_store (first_store (opening_of t.origin)) (known (opening_of t.origin) s.seat.past) g).version) (sym has.keeps.of)

    at_cut : (ending_store (first_store o) (known o lr.note.past) g).version ≡ get_or versions g k
    at_cut = sym (ap (λ (y : StoreView). (made (store_opening y) part g).version) same ∙ ap (λ (es : List Entry). (made (first_store o) es g).version) part_is) ∙ version_cut z part versions g k lr.note.cut lt

    goes_on : IsPrefix s.seat.past w.seat.past
    goes_on = (keeps_then s.seat c.seat w.seat has.keeps lr.learns.remembers.keeps).past

    shorter : IsPrefix s.seat.past lr.note.past
    shorter = go has.early
      where
        go : (s.seat.past ≡ []) ⊎ ((standing_at s.seat g).version ≤ flag) → IsPrefix s.seat.past lr.note.past
        go (inl nothing) = subst (λ (es : List Event). IsPrefix es lr.note.past) (sym nothing) (lr.note.past, refl)
        go (inr low) = let a = at_s in let b = at_cut in is_shorter o s.seat.past lr.note.past w.seat.past g meant goes_on cut_goes_on (omega (arith, low, high, a, b))

    meant_cut : IsMeant o lr.note.past
    meant_cut = let (rest, is) = cut_goes_on in meant_front o lr.note.past rest (subst (IsMeant o) is meant)

    -- what holds of what was known at the cut holds of the history
    at_part : (q : Store → List Entry → Type 0) → q (first_store o) (entries (known o lr.note.past)) → q (store_opening z) part
    at_part q x = subst (λ (y : StoreView). q (store_opening y) (entries (known (opening_of y.table.origin) lr.note.past))) (sym same) x

    known_s : entries_known s.seat ≡ entries (known o s.seat.past)
    known_s = ap (λ (t : TableView). entries (known (opening_of t.origin) s.seat.past)) (sym has.keeps.of)

    known_there : IsWithin (entries_known s.seat) part
    known_there =
        let (more, e) = shorter in
        at_part (λ (i : Store) (es : List Entry). IsWithin (entries_known s.seat) es) (subst (λ (es : List Entry). IsWithin es (entries (known o lr.note.past))) (sym known_s) (entries_within (subst (λ (x : List Event). Grows (known o s.seat.past) (known o x)) (sym e) (grows_on o s.seat.past more (subst (IsMeant o) e meant_cut))).0))

    own_there : IsWithin s.own (entries_of c.number part)
    own_there =
        let own_s : s.own ≡ entries_of s.seat.number (entries_known s.seat) = ap (λ (x : CallerView). x.own) has.shows ∙ sym (entries_by s.seat.number (knows s.seat)) in
        let number : s.seat.number ≡ c.number = sym (ap (λ (x : CallerView). x.number) lr.before ∙ has.keeps.number) in
        subst (λ (es : List Entry). IsWithin es (entries_of c.number part)) (sym (own_s ∙ ap (λ (j : ℕ). entries_of j (entries_known s.seat)) number)) (own_grows c.number known_there)

    reads_there : (l : ℕ) (r : Seen) → IsKnownAt s.seat l r → (n : ℕ) × (left_by z (take n part) l ≡ seen_as_cell r)
    reads_there l r (at, kn) =
        let (more, e) = shorter in
        let kn_o : IsKnown (first_store o) (known o s.seat.past) r = subst (λ (t : TableView). IsKnown (first_store (opening_of t.origin)) (known (opening_of t.origin) s.seat.past) r) (sym has.keeps.of) kn in
        let kn_cut : IsKnown (first_store o) (known o lr.note.past) r = subst (λ (x : List Event). IsKnown (first_store o) (known o x) r) (sym e) (known_on o s.seat.past more (subst (IsMeant o) e meant_cut) r kn_o) in
        let front : made (first_store o) (take kn_cut.0 (entries (known o lr.note.past))) l ≡ seen_as_cell r = ap (λ (es : List Entry). made (first_store o) es l) (front_entries kn_cut.0 (known o lr.note.past)) ∙ subst (λ (j : ℕ). ending_store (first_store o) (take kn_cut.0 (known o lr.note.past)) j ≡ seen_as_cell r) at kn_cut.1 in
        (kn_cut.0, at_part (λ (i : Store) (es : List Entry). made i (take kn_cut.0 es) l ≡ seen_as_cell r) front)

    views_there : (x u : CallerView) (f : Footprint) → StandsAtOnce f x u → KeepsKnown u.seat s.seat → FrontMakes (store_opening z) part (entries_known x.seat) f
    views_there x u f (front, stood) keeps =
        let all : KeepsKnown u.seat c.seat = keeps_then u.seat s.seat c.seat keeps has.keeps in
        let meant_u : IsMeant (opening_at_seat u.seat) lr.note.past = subst (λ (t : TableView). IsMeant (opening_of t.origin) lr.note.past) all.of meant_cut in
        let there : HasFront (first_store (opening_at_seat u.seat)) (known (opening_at_seat u.seat) lr.note.past) (knows x.seat) f = front_later x.seat u.seat f lr.note.past stood (prefix_then u.seat.past s.seat.past lr.note.past keeps.past shorter) meant_u in
        at_part (λ (i : Store) (es : List Entry). FrontMakes i es (entries_known x.seat) f) (subst (λ (t : TableView). FrontMakes (first_store (opening_of t.origin)) (entries (known (opening_of t.origin) lr.note.past)) (entries_known x.seat) f) (sym all.of) (front_of_entries (first_store (opening_at_seat u.seat)) (known (opening_at_seat u.seat) lr.note.past) (knows x.seat) f there))

    pub stands_behind : StandsBefore z c.number c.own s part
    stands_behind = record { cells = lr.note.cut.cells; cut = lr.note.cut.cut; known = known_there; own = own_there; no_other = no_other; reads = reads_there; views = views_there }

  among : (x : Entry) → Contains c.own x → Contains w.known x
  among x i = within_contains c.own w.known x (within_on (subst (λ (es : List Entry). IsWithin es c.known) (sym lr.own) (own_within c.number c.known)) lr.learns.remembers.known) i

  version_at : (l k : ℕ) (d : Seen) → l < length lr.note.cut.cells → get_or versions l k ≡ (get_or lr.note.cut.cells l d).version
  version_at l k d lt = ap (λ (vs : List ℕ). get_or vs l k) lr.note.cut.versions_are ∙ mapped_at lr.note.cut.cells l k d lt

  abbrev nowhere : Seen
  nowhere = record { loc = record { 0 = 0 }; version = 0; value = 0 }

  pub is_before : (x : Entry) (l k : ℕ) (q : Put) → Contains c.own x → PutsThere x l q → l < length lr.note.cut.cells → q.version < get_or versions l k → Contains part x
  is_before x l k q i at lt low =
      let v = version_at l k nowhere lt in
      is_in_part z part w.known lr.note.cut.cells (made (store_opening z) w.known) cut_off x l q nowhere lt at (among x i) (omega (arith, low, v))

  pub is_behind : (x : Entry) (l k : ℕ) (q : Put) → PutsThere x l q → l < length lr.note.cut.cells → get_or versions l k ≤ q.version → ¬ Contains part x
  is_behind x l k q at lt high inside =
      let v = version_at l k nowhere lt in
      let low = stands_before z part w.known lr.note.cut.cells (made (store_opening z) w.known) cut_off x l q nowhere lt at inside in
      absurd (omega (arith, low, high, v))
