-- The canonical order leaves no choice.
use Rattle.std.proofs.Common.{◌≡◌, ℕ, zero, suc, ◌+◌, ◌<◌, ◌≤◌, List, [], ◌∷◌, Some, refl, sym, ap, ap₂, ◌∙◌, subst, subst₂, arith}
use Rattle.kc_history.specs.Ends.{IsFirstLeft, IsStuck}
use Rattle.kc_history.specs.Order.{Footprints, one_record_more, raised, IsNext, NoneLeft, NoneReady, Ready, Chooses, IsCanonical}
use Rattle.kc_history.specs.declared.arranging.Cycle.{Cycle}
use Rattle.kc_history.specs.declared.record.Place.{Place}
use Rattle.kc_model.specs.declared.footprint.Footprint.{Footprint}

-- what two equal options hold is equal
pub some_is : {A : Type 0} (x y : A) → Some x ≡ Some y → x ≡ y
some_is x y e = cc

-- each thread has one next record
pub one_next : (a : Footprints) (n : ℕ → ℕ) (p q : Place) (f g : Footprint) → IsNext a n p f → IsNext a n q g → q.thread ≡ p.thread → q ≡ p
one_next a n p q f g i j e = let h : q.index ≡ p.index = j.0 ∙ ap n e ∙ sym i.0 in ap₂ (λ t k. let x : Place = record { thread = t; index = k } in x) e h

-- where none is left, none is ready
pub none_ready : (a : Footprints) (n v : ℕ → ℕ) → NoneLeft a n → NoneReady a n v
none_ready a n v left p f ready =
    let below = left p.thread p.index f ready.next.1 in
    let is = ready.next.0 in
    omega arith

-- from the same numbers and versions, two choices that come to an end are one, and leave the same numbers
pub one_order : (a : Footprints) (ps qs : List Place) (n v m w m' w' : ℕ → ℕ) → Chooses a n v ps m w → NoneReady a m w → Chooses a n v qs m' w' → NoneReady a m' w' → (ps ≡ qs) × (m ≡ m')
one_order a [] [] n v m w m' w' c h d i = (refl, c.0 ∙ sym d.0)
one_order a [] (q ∷ qs) n v m w m' w' c h d i = absurd (h q d.0 (subst₂ (λ n v. Ready a n v q d.0) (sym c.0) (sym c.1) d.1.ready))
one_order a (p ∷ ps) [] n v m w m' w' c h d i = absurd (i p c.0 (subst₂ (λ n v. Ready a n v p c.0) (sym d.0) (sym d.1) c.1.ready))
one_order a (p ∷ ps) (q ∷ qs) n v m w m' w' (f, x, c) h (g, y, d) i =
    let t : q.thread ≡ p.thread = (let k = x.lowest q g y.ready in let l = y.lowest p f x.ready in omega arith) in
    let e : q ≡ p = one_next a n p q f g x.ready.next y.ready.next t in
    let fg : g ≡ f = some_is g f (sym y.ready.next.1 ∙ ap (λ (r : Place). a r.thread r.index) e ∙ x.ready.next.1) in
    let d' : Chooses a (one_record_more p.thread n) (raised f v) qs m' w' = subst₂ (λ (r : Place) (f : Footprint). Chooses a (one_record_more r.thread n) (raised f v) qs m' w') e fg d in
    let on = one_order a ps qs (one_record_more p.thread n) (raised f v) m w m' w' c h d' i in
    (ap₂ (λ (p : Place) ps. p ∷ ps) (sym e) on.0, on.1)

-- a record is left where the choice is stuck
stuck_left : (a : Footprints) (c : Cycle) (x : IsStuck a c) → NoneLeft a x.stand → ⊥
stuck_left a c x left = let h = left x.thread (x.stand x.thread) x.first.left.0 x.first.left.1 in omega arith

pub stuck_or_all : (a : Footprints) (ps : List Place) (c : Cycle) → IsCanonical a ps → IsStuck a c → ⊥
stuck_or_all a ps c x y =
    let on = one_order a ps y.places (λ _. 0) (λ _. 0) x.stand x.versions y.stand y.versions x.chooses (none_ready a x.stand x.versions x.all) y.chooses y.none in
    stuck_left a c y (subst (NoneLeft a) on.1 x.all)

-- the lowest thread with a record left is one
first_is : (a : Footprints) (n : ℕ → ℕ) (t u : ℕ) → IsFirstLeft a n t → IsFirstLeft a n u → u ≤ t
first_is a n t u x y = not_above u t (λ lt. (let h = y.before t (n t) x.left.0 lt x.left.1 in omega arith))
  where
    not_above : (u t : ℕ) → (t < u → ⊥) → u ≤ t
    not_above zero t h = omega arith
    not_above (suc u) zero h = absurd (h (omega arith))
    not_above (suc u) (suc t) h = let k = not_above u t (λ l. h (omega arith)) in omega arith

pub one_stuck : (a : Footprints) (c d : Cycle) → IsStuck a c → IsStuck a d → c ≡ d
one_stuck a c d x y =
    let on = one_order a x.places y.places (λ _. 0) (λ _. 0) x.stand x.versions y.stand y.versions x.chooses x.none y.chooses y.none in
    let second : IsFirstLeft a x.stand y.thread = subst (λ n. IsFirstLeft a n y.thread) (sym on.1) y.first in
    let same : x.thread ≡ y.thread = (let h = first_is a x.stand x.thread y.thread x.first second in let k = first_is a x.stand y.thread x.thread second x.first in omega arith) in
    let threads : c.thread ≡ d.thread = x.is_thread ∙ ap (λ t. t + 1) same ∙ sym y.is_thread in
    let numbers : c.number ≡ d.number = x.is_number ∙ ap₂ (λ (n : ℕ → ℕ) (t : ℕ). n t + 1) on.1 same ∙ sym y.is_number in
    ap₂ (λ t k. let z : Cycle = record { thread = t; number = k } in z) threads numbers
