-- The eras as one legal history.
use Rattle.std.proofs.Common.{◌≡◌, ◌<◌, ℕ, zero, suc, ◌+◌, List, [], ◌∷◌, ◌++◌, Option, None, Some, get_or, length, map, replicate, refl, sym, ap, ◌∙◌, subst, arith}
use Rattle.kc_model.specs.Legal.{IsLegal}
use Rattle.kc_model.specs.Store.{Store}
use Rattle.kc_model.specs.declared.footprint.Entry.{Entry}
use Rattle.kc_model.specs.declared.footprint.Seen.{Seen}
use Rattle.kc_model.specs.declared.plain_store.Cell.{Cell}
use Rattle.kc_lasting_laws.proofs.Raising.{agrees_raised, legal_join, legal_raised, made_join}
use Rattle.kc_lasting.specs.Cuts.{AllFrom, left_by}
use Rattle.kc_lasting.specs.Eras.{Follow, LeavesValues, OpensOn, ended_at, line_after, store_at}
use Rattle.kc_lasting.specs.declared.line.Line.{Line}
use Rattle.kc_store.specs.Knows.{IsWithin, here, later, none}
use Rattle.kc_store.specs.Views.{NoteView, StoreView, store_opening}
use Rattle.kc_store.specs.kc_machine_traces.Histories.{made, seen_as_cell}
use Rattle.kc_lasting_laws.specs.Flat.{flat_from, history_raised, versions_from, versions_with}
use Rattle.kc_lasting_laws.specs.Raised.{AgreesRaised, cell_raised, entry_raised}

-- ---- what an era left is what the next one opened with

as_many_values : (rs : List Seen) → length (map (λ (r : Seen). r.value) rs) ≡ length rs
as_many_values [] = refl
as_many_values (r ∷ rs) = ap suc (as_many_values rs)

all_same : (n l v : ℕ) → get_or (replicate n v) l v ≡ v
all_same zero l v = refl
all_same (suc n) zero v = refl
all_same (suc n) (suc l) v = all_same n l v

-- the value of a cell is that of what stands there
value_there : (s : Store) (k l : ℕ) (rs : List Seen) → l < length rs → AllFrom (λ (i : ℕ) (r : Seen). (r.loc.0 ≡ i) × (s i ≡ seen_as_cell r)) k rs → get_or (map (λ (r : Seen). r.value) rs) l 0 ≡ (s (k + l)).value
value_there s k l [] lt all = absurd (omega (arith, lt))
value_there s k zero (r ∷ rs) lt all =
    let at : k + 0 ≡ k = omega arith in
    ap (λ (c : Cell). c.value) (sym all.0.1) ∙ ap (λ (i : ℕ). (s i).value) (sym at)
value_there s k (suc l) (r ∷ rs) lt all =
    let at : suc k + l ≡ k + suc l = omega arith in
    value_there s (suc k) l rs (omega (arith, lt)) all.1 ∙ ap (λ (i : ℕ). (s i).value) at

pub cell_same : (c : Cell) (v w : ℕ) → c.version ≡ v → c.value ≡ w → c ≡ record { version = v; value = w }
cell_same c v w a b = rw (← a, ← b) refl

pub agrees_next : (b : ℕ → ℕ) (n : NoteView) (left : List ℕ) (y : StoreView) (s : Store) → LeavesValues n left → OpensOn left y → AgreesRaised n.of.locations b s (left_by n.of n.known) → AgreesRaised y.locations (versions_with b (Some n)) s (store_opening y)
agrees_next b n left y s leaves opens agrees l lt =
    let a = opens.opens.locations in
    let c = ap length leaves.values_are in
    let d = as_many_values leaves.cells in
    let e = leaves.cut.all in
    let here : s l ≡ cell_raised (b l) (left_by n.of n.known l) = agrees l (omega (arith, lt, a, c, d, e)) in
    let opened = opens.opens.cells l (omega (arith, lt, a)) in
    let zeros = all_same (length left) l 0 in
    let first : 0 + l ≡ l = omega arith in
    let value : get_or left l 0 ≡ (left_by n.of n.known l).value = ap (λ (vs : List ℕ). get_or vs l 0) leaves.values_are ∙ value_there (left_by n.of n.known) 0 l leaves.cells (omega (arith, lt, a, c, d)) leaves.cut.stands ∙ ap (λ (i : ℕ). (left_by n.of n.known i).value) first in
    let version : (b l + (left_by n.of n.known l).version) + get_or (replicate (length left) 0) l 0 ≡ b l + (left_by n.of n.known l).version = omega (arith, zeros) in
    here ∙ sym (cell_same _ _ _ (ap (λ (x : Cell). (b l + (left_by n.of n.known l).version) + x.version) opened ∙ version) (ap (λ (x : Cell). x.value) opened ∙ value))

-- ---- one era behind another

pub as_one : (x y : StoreView) (o : Option StoreView) → o ≡ Some x → o ≡ Some y → x ≡ y
as_one x y o a b = let e : Some x ≡ Some y = sym a ∙ b in cc

legal_one : (b : ℕ → ℕ) (n : NoteView) (left : List ℕ) (y : StoreView) (ms : List Line) (s : Store) → LeavesValues n left → OpensOn left y → AgreesRaised n.of.locations b s (store_opening n.of)
    → ((t : Store) → AgreesRaised y.locations (versions_with b (Some n)) t (store_opening y) → IsLegal t (flat_from (versions_with b (Some n)) ms) (made t (flat_from (versions_with b (Some n)) ms))) → IsLegal s (flat_from b (line_after n y ∷ ms)) (made s (flat_from b (line_after n y ∷ ms)))
legal_one b n left y ms s leaves opens agrees rest =
    legal_join s (map (entry_raised b) n.known) (flat_from (versions_with b (Some n)) ms) (legal_raised n.of.locations b s (store_opening n.of) (left_by n.of n.known) n.known leaves.cut.legal leaves.cut.lies agrees)
    (rest (made s (map (entry_raised b) n.known)) (agrees_next b n left y (made s (map (entry_raised b) n.known)) leaves opens (agrees_raised n.of.locations b s (store_opening n.of) n.known agrees)))

pub flat_legal : (b : ℕ → ℕ) (l : Line) (ls : List Line) (z : StoreView) (s : Store) → l.store ≡ Some z → Follow l ls → AgreesRaised z.locations b s (store_opening z) → IsLegal s (flat_from b ls) (made s (flat_from b ls))
flat_legal b l [] z s at follow agrees = refl
flat_legal b l (m ∷ ms) z s at follow agrees =
    let e = follow.0 in
    let of = as_one z e.note.of l.store at e.of in
    let store : m.store ≡ Some e.store = ap (λ (x : Line). x.store) e.line in
    let ended : m.ended ≡ Some e.note = ap (λ (x : Line). x.ended) e.line in
    subst (λ (o : Option NoteView). IsLegal s (history_raised b o ++ flat_from (versions_with b o) ms) (made s (history_raised b o ++ flat_from (versions_with b o) ms))) (sym ended)
    (legal_one b e.note e.left e.store ms s e.leaves e.opens (subst (λ (w : StoreView). AgreesRaised w.locations b s (store_opening w)) of agrees) (λ t agrees. flat_legal (versions_with b (Some e.note)) m ms e.store t store follow.1 agrees))

agrees_one : (b : ℕ → ℕ) (n : NoteView) (left : List ℕ) (y x : StoreView) (ms : List Line) (k : ℕ) (s : Store) → LeavesValues n left → OpensOn left y → AgreesRaised n.of.locations b s (store_opening n.of)
    → ((t : Store) → AgreesRaised y.locations (versions_with b (Some n)) t (store_opening y) → AgreesRaised x.locations (versions_from (versions_with b (Some n)) ms k) (made t (flat_from (versions_with b (Some n)) ms)) (store_opening x)) → AgreesRaised x.locations (versions_from (versions_with b (Some n)) ms k) (made s (flat_from b (line_after n y ∷ ms))) (store_opening x)
agrees_one b n left y x ms k s leaves opens agrees rest i lt =
    ap (λ (t : Store). t i) (made_join s (map (entry_raised b) n.known) (flat_from (versions_with b (Some n)) ms)) ∙ rest (made s (map (entry_raised b) n.known)) (agrees_next b n left y (made s (map (entry_raised b) n.known)) leaves opens (agrees_raised n.of.locations b s (store_opening n.of) n.known agrees)) i lt

-- what all that has ended made is what stood as the last one opened
pub flat_agrees : (b : ℕ → ℕ) (l : Line) (ls : List Line) (z x : StoreView) (s : Store) (k : ℕ) → l.store ≡ Some z → Follow l ls → AgreesRaised z.locations b s (store_opening z) → length ls ≡ k → store_at (l ∷ ls) k ≡ Some x → AgreesRaised x.locations (versions_from b ls k) (made s (flat_from b ls)) (store_opening x)
flat_agrees b l [] z x s zero at follow agrees long there = subst (λ (w : StoreView). AgreesRaised w.locations b s (store_opening w)) (as_one z x l.store at there) agrees
flat_agrees b l [] z x s (suc k) at follow agrees long there = absurd (omega (arith, long))
flat_agrees b l (m ∷ ms) z x s zero at follow agrees long there = absurd (omega (arith, long))
flat_agrees b l (m ∷ ms) z x s (suc k) at follow agrees long there =
    let e = follow.0 in
    let of = as_one z e.note.of l.store at e.of in
    let store : m.store ≡ Some e.store = ap (λ (x : Line). x.store) e.line in
    let ended : m.ended ≡ Some e.note = ap (λ (x : Line). x.ended) e.line in
    subst (λ (o : Option NoteView). AgreesRaised x.locations (versions_from (versions_with b o) ms k) (made s (history_raised b o ++ flat_from (versions_with b o) ms)) (store_opening x)) (sym ended)
    (agrees_one b e.note e.left e.store x ms k s e.leaves e.opens (subst (λ (w : StoreView). AgreesRaised w.locations b s (store_opening w)) of agrees) (λ t agrees. flat_agrees (versions_with b (Some e.note)) m ms e.store x t k store follow.1 agrees (omega (arith, long)) there))

-- ---- what stands in an era's history stands in it

pub within_raised : (f : Entry → Entry) (a c : List Entry) → IsWithin a c → IsWithin (map f a) (map f c)
within_raised f a c none = none
within_raised f a c (here w) = here (within_raised f _ _ w)
within_raised f a c (later w) = later (within_raised f _ _ w)

within_first : (a c d : List Entry) → IsWithin a c → IsWithin a (c ++ d)
within_first a c d none = none
within_first a c d (here w) = here (within_first _ _ d w)
within_first a c d (later w) = later (within_first _ _ d w)

pub within_behind : (a c d : List Entry) → IsWithin a d → IsWithin a (c ++ d)
within_behind a [] d w = w
within_behind a (x ∷ c) d w = later (within_behind a c d w)

pub flat_within : (b : ℕ → ℕ) (ls : List Line) (k : ℕ) (n : NoteView) (own : List Entry) → ended_at ls k ≡ Some n → IsWithin own n.known → IsWithin (map (entry_raised (versions_from b ls k)) own) (flat_from b ls)
flat_within b [] k n own ended w = absurd (cc)
flat_within b (m ∷ ms) zero n own ended w = go m.ended ended
  where
    go : (o : Option NoteView) → o ≡ Some n → IsWithin (map (entry_raised b) own) (history_raised b o ++ flat_from (versions_with b o) ms)
    go None e = absurd (cc)
    go (Some p) e =
        let is : n ≡ p = cc in
        within_first _ (map (entry_raised b) p.known) (flat_from (versions_with b (Some p)) ms) (subst (λ (q : NoteView). IsWithin (map (entry_raised b) own) (map (entry_raised b) q.known)) is (within_raised (entry_raised b) own n.known w))
flat_within b (m ∷ ms) (suc k) n own ended w = within_behind _ (history_raised b m.ended) (flat_from (versions_with b m.ended) ms) (flat_within (versions_with b m.ended) ms k n own ended w)
