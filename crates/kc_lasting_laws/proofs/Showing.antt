-- What stood at a moment of an era stood at a moment of the one history.
use Rattle.std.proofs.Common.{◌≡◌, ◌<◌, ℕ, zero, suc, List, [], ◌∷◌, ◌++◌, Option, Some, map, take, refl, sym, ap, ◌∙◌, subst}
use Rattle.std.proofs.Math.Logic.{∥∥₁_map}
use Rattle.std.proofs.lemmas.List.{append_assoc}
use Rattle.kc_model.specs.Footprint.{IsBelow}
use Rattle.kc_model.specs.Store.{Store}
use Rattle.kc_model.specs.declared.footprint.Entry.{Entry}
use Rattle.kc_model.specs.declared.footprint.Footprint.{Footprint}
use Rattle.kc_model.specs.declared.footprint.Seen.{Seen}
use Rattle.kc_lasting.specs.Cuts.{IsKnownAt, left_by}
use Rattle.kc_lasting.specs.Eras.{AreEras, Follow, IsEnded, ended_at, first_line, store_at}
use Rattle.kc_lasting.specs.Settled.{StandsBefore, entries_known}
use Rattle.kc_lasting.specs.Told.{HandleView, LooksSo}
use Rattle.kc_lasting.specs.declared.line.Line.{Line}
use Rattle.kc_lasting_laws.proofs.Flattening.{agrees_next, as_one, within_behind, within_raised}
use Rattle.kc_lasting_laws.proofs.Raising.{agrees_raised, finds_raised, made_join}
use Rattle.kc_lasting_laws.proofs.Whole.{agrees_first}
use Rattle.kc_lasting_laws.specs.Flat.{flat_from, flat_history, history_raised, no_versions, versions_before, versions_from, versions_with}
use Rattle.kc_lasting_laws.specs.Raised.{AgreesRaised, cell_raised, entry_raised}
use Rattle.kc_lasting_laws.specs.Shown.{EraIsOver, FrontFinds, FrontShows}
use Rattle.kc_roll.specs.Fronts.{StandsAtFront}
use Rattle.kc_store.proofs.Remembering.{learns_same}
use Rattle.kc_store.specs.Knows.{IsWithin}
use Rattle.kc_store.specs.Viewing.{StandsAtOnce}
use Rattle.kc_store.specs.Views.{CallerView, NoteView, StoreView, store_opening}
use Rattle.kc_store.specs.kc_machine_traces.Histories.{made}
use Rattle.kc_store.specs.kc_table_laws.Tasks.{KeepsKnown}

-- ---- where an era stands

-- the history of an era, raised so, stands between what came before and what comes behind
pub record StandsIn (es : List Entry) (v : ℕ → ℕ) (n : NoteView) (s : Store) : Type 0 where
  pub before : List Entry
  pub behind : List Entry
  pub is : es ≡ before ++ (map (entry_raised v) n.known ++ behind)
  pub agrees : AgreesRaised n.of.locations v (made s before) (store_opening n.of)

first_stands : (b : ℕ → ℕ) (ms : List Line) (n : NoteView) (s : Store) (o : Option NoteView) → o ≡ Some n → AgreesRaised n.of.locations b s (store_opening n.of) → StandsIn (history_raised b o ++ flat_from (versions_with b o) ms) b n s
first_stands b ms n s o ended agrees = subst (λ (o : Option NoteView). StandsIn (history_raised b o ++ flat_from (versions_with b o) ms) b n s) (sym ended) (record {
  before = [];
  behind = flat_from (versions_with b (Some n)) ms;
  is = refl;
  agrees = agrees;
})

later_stands : (b : ℕ → ℕ) (ms : List Line) (k : ℕ) (p n : NoteView) (s : Store) (o : Option NoteView) → o ≡ Some p → StandsIn (flat_from (versions_with b (Some p)) ms) (versions_from (versions_with b (Some p)) ms k) n (made s (map (entry_raised b) p.known))
    → StandsIn (history_raised b o ++ flat_from (versions_with b o) ms) (versions_from (versions_with b o) ms k) n s
later_stands b ms k p n s o ended x = subst (λ (o : Option NoteView). StandsIn (history_raised b o ++ flat_from (versions_with b o) ms) (versions_from (versions_with b o) ms k) n s) (sym ended) (record {
  before = map (entry_raised b) p.known ++ x.before;
  behind = x.behind;
  is =
      let v = versions_from (versions_with b (Some p)) ms k in
      ap (λ (es : List Entry). map (entry_raised b) p.known ++ es) x.is ∙ sym (append_assoc (map (entry_raised b) p.known) x.before (map (entry_raised v) n.known ++ x.behind));
  agrees = subst (λ (t : Store). AgreesRaised n.of.locations (versions_from (versions_with b (Some p)) ms k) t (store_opening n.of)) (sym (made_join s (map (entry_raised b) p.known) x.before)) x.agrees;
})

pub era_stands : (b : ℕ → ℕ) (l : Line) (ls : List Line) (z : StoreView) (s : Store) (k : ℕ) (n : NoteView) → l.store ≡ Some z → Follow l ls → AgreesRaised z.locations b s (store_opening z) → ended_at ls k ≡ Some n → StandsIn (flat_from b ls) (versions_from b ls k) n s × (store_at (l ∷ ls) k ≡ Some n.of)
era_stands b l [] z s k n at follow agrees ended = absurd (cc)
era_stands b l (m ∷ ms) z s zero n at follow agrees ended =
    let e = follow.0 in
    let note : m.ended ≡ Some e.note = ap (λ (x : Line). x.ended) e.line in
    let is : n ≡ e.note = let q : Some n ≡ Some e.note = sym ended ∙ note in cc in
    let of : l.store ≡ Some n.of = subst (λ (x : NoteView). l.store ≡ Some x.of) (sym is) e.of in
    (first_stands b ms n s m.ended ended (subst (λ (w : StoreView). AgreesRaised w.locations b s (store_opening w)) (as_one z n.of l.store at of) agrees), of)
era_stands b l (m ∷ ms) z s (suc k) n at follow agrees ended =
    let e = follow.0 in
    let of = as_one z e.note.of l.store at e.of in
    let store : m.store ≡ Some e.store = ap (λ (x : Line). x.store) e.line in
    let note : m.ended ≡ Some e.note = ap (λ (x : Line). x.ended) e.line in
    let there : AgreesRaised e.note.of.locations b s (store_opening e.note.of) = subst (λ (w : StoreView). AgreesRaised w.locations b s (store_opening w)) of agrees in
    let next = agrees_next b e.note e.left e.store (made s (map (entry_raised b) e.note.known)) e.leaves e.opens (agrees_raised e.note.of.locations b s (store_opening e.note.of) e.note.known there) in
    let ih = era_stands (versions_with b (Some e.note)) m ms e.store (made s (map (entry_raised b) e.note.known)) k n store follow.1 next ended in
    (later_stands b ms k e.note n s m.ended note ih.0, ih.1)

-- ---- fronts

-- a front of a raised list is one of whatever it stands in
front_raised : (f : Entry → Entry) (n : ℕ) (part behind : List Entry) → (i : ℕ) × (take i (map f part ++ behind) ≡ map f (take n part))
front_raised f zero part behind = (0, refl)
front_raised f (suc n) [] behind = (0, refl)
front_raised f (suc n) (x ∷ part) behind = let (i, e) = front_raised f n part behind in (suc i, ap (λ (es : List Entry). f x ∷ es) e)

front_behind : (before es : List Entry) (i : ℕ) → (j : ℕ) × (take j (before ++ es) ≡ before ++ take i es)
front_behind [] es i = (i, refl)
front_behind (x ∷ before) es i = let (j, e) = front_behind before es i in (suc j, ap (λ (ys : List Entry). x ∷ ys) e)

-- ---- what was shown

module _ (z y : StoreView) (lines : List Line) (k : ℕ) (part : List Entry) (front : StandsAtFront (first_line z ∷ []) lines) (eras : AreEras lines) (at : store_at lines k ≡ Some y) (ended : IsEnded lines k part) where
  abbrev v : ℕ → ℕ
  v = versions_before lines k

  stood : StandsIn (flat_history lines) v ended.note (store_opening z) × (y ≡ ended.note.of)
  stood = go lines front eras at ended.ended
    where
      go : (ls : List Line) → StandsAtFront (first_line z ∷ []) ls → AreEras ls → store_at ls k ≡ Some y → ended_at ls (suc k) ≡ Some ended.note → StandsIn (flat_history ls) (versions_before ls k) ended.note (store_opening z) × (y ≡ ended.note.of)
      go ls (rest, is) follow here note =
          let x = era_stands no_versions (first_line z) rest z (store_opening z) k ended.note refl (subst AreEras is follow) (agrees_first z.locations (store_opening z)) (subst (λ (l : List Line). ended_at l (suc k) ≡ Some ended.note) is note) in (
            subst (λ (l : List Line). StandsIn (flat_history l) (versions_before l k) ended.note (store_opening z)) (sym is) x.0,
            as_one y ended.note.of (store_at (first_line z ∷ rest) k) (subst (λ (l : List Line). store_at l k ≡ Some y) is here) x.1,
          )

  -- each front of the era's history has one of the one history, which leaves the same, raised
  fronts : (n : ℕ) → (j : ℕ) × ((before : List Entry) × ((take j (flat_history lines) ≡ before ++ map (entry_raised v) (take n part)) × AgreesRaised y.locations v (left_by z (take j (flat_history lines))) (left_by y (take n part))))
  fronts n =
      let x = stood.0 in
      let of = stood.1 in
      let (i, inner) = front_raised (entry_raised v) n ended.note.known x.behind in
      let (j, outer) = front_behind x.before (map (entry_raised v) ended.note.known ++ x.behind) i in
      let is : take j (flat_history lines) ≡ x.before ++ map (entry_raised v) (take n ended.note.known) = ap (take j) x.is ∙ outer ∙ ap (λ (es : List Entry). x.before ++ es) inner in
      let made_is : left_by z (take j (flat_history lines)) ≡ made (made (store_opening z) x.before) (map (entry_raised v) (take n ended.note.known)) = ap (made (store_opening z)) is ∙ made_join (store_opening z) x.before (map (entry_raised v) (take n ended.note.known)) in
      let agrees = agrees_raised ended.note.of.locations v (made (store_opening z) x.before) (store_opening ended.note.of) (take n ended.note.known) x.agrees in
      let there : AgreesRaised ended.note.of.locations v (left_by z (take j (flat_history lines))) (left_by ended.note.of (take n ended.note.known)) = subst (λ (t : Store). AgreesRaised ended.note.of.locations v t (left_by ended.note.of (take n ended.note.known))) (sym made_is) agrees in (
        j,
        (
          x.before,
          (
            subst (λ (es : List Entry). take j (flat_history lines) ≡ x.before ++ map (entry_raised v) (take n es)) ended.known is,
            subst (λ (w : StoreView). AgreesRaised w.locations v (left_by z (take j (flat_history lines))) (left_by w (take n part))) (sym of) (subst (λ (es : List Entry). AgreesRaised ended.note.of.locations v (left_by z (take j (flat_history lines))) (left_by ended.note.of (take n es))) ended.known there),
          ),
        ),
      )

  module _ (number : ℕ) (had : List Entry) (s : CallerView) (stands : StandsBefore y number had s part) where
    pub read_shows : (l : ℕ) (r : Seen) → l < y.locations → IsKnownAt s.seat l r → FrontShows z lines k l r
    read_shows l r lt known =
        let (n, at_n) = stands.reads l r known in
        let (j, (before, (is, agrees))) = fronts n in
        record { front = j; shows = agrees l lt ∙ ap (cell_raised (v l)) at_n }

    pub view_finds : (x u : CallerView) (f : Footprint) → IsBelow y.locations f → StandsAtOnce f x u → KeepsKnown u.seat s.seat → FrontFinds z lines k (entries_known x.seat) f
    view_finds x u f below once keeps =
        let m = stands.views x u f once keeps in
        let (j, (before, (is, agrees))) = fronts m.front in
        record {
          front = j;
          finds = finds_raised y.locations v (left_by z (take j (flat_history lines))) (left_by y (take m.front part)) f below agrees m.makes;
          no_older = subst (IsWithin (map (entry_raised v) (entries_known x.seat))) (sym is) (within_behind (map (entry_raised v) (entries_known x.seat)) before (map (entry_raised v) (take m.front part)) (within_raised (entry_raised v) (entries_known x.seat) (take m.front part) m.no_older));
        }

module _ (z : StoreView) (d e : HandleView) (x : EraIsOver z d e) where
  pub read_over : (l : ℕ) (r : Seen) → l < d.caller.of.locations → IsKnownAt d.confirmed.seat l r → ∥ FrontShows z e.lines d.era l r ∥₁
  read_over l r lt known = ∥∥₁_map x.over.stands (λ s. read_shows z d.caller.of e.lines d.era x.over.part x.begins x.eras x.at x.over.there d.caller.number d.caller.own d.confirmed s l r lt known)

  pub view_over : (c : CallerView) (f : Footprint) → IsBelow d.caller.of.locations f → StandsAtOnce f c d.confirmed → ∥ FrontFinds z e.lines d.era (entries_known c.seat) f ∥₁
  view_over c f below once = ∥∥₁_map x.over.stands (λ s. view_finds z d.caller.of e.lines d.era x.over.part x.begins x.eras x.at x.over.there d.caller.number d.caller.own d.confirmed s c d.confirmed f below once (learns_same d.confirmed).remembers.keeps)

pub looks_over : (z : StoreView) (l : ℕ) (r : Seen) (h d e : HandleView) → LooksSo l r h d → l < d.caller.of.locations → EraIsOver z d e → ∥ FrontShows z e.lines d.era l r ∥₁
looks_over z l r h d e looks lt x = read_over z d e x l r lt looks.looks.known
