-- A handle's place, as it goes on.
use Rattle.std.proofs.Common.{◌≡◌, ◌≤◌, suc, ℕ, List, [], ◌∷◌, ◌++◌, Some, length, refl, sym, ap, ◌∙◌, arith, subst, append-nil, append_assoc}
use Rattle.std.proofs.Math.Logic.{∥∥₁_map}
use mathlib.Core.Logic.{∥∥₁_elim}
use native.Mathlib.Nat.{ℕ_set}
use Rattle.atomic_table.specs.Seated.{TableId}
use Rattle.kc_lasting.proofs.Chains.{as_many_callers, ended_on, store_on}
use Rattle.kc_lasting.proofs.GoingOver.{crosses_back, crosses_before, crosses_behind, stays_first, stays_on}
use Rattle.kc_lasting.specs.Eras.{AreEras, IsEnded, store_at}
use Rattle.kc_lasting.specs.Kept.{HasItsPlace, MovesOn}
use Rattle.kc_lasting.proofs.Settled.{own_within}
use Rattle.kc_lasting.specs.Settled.{CountsIn, IsSettled, StandsBefore, StaysAsSeen}
use Rattle.kc_lasting.specs.Told.{Crosses, CrossesOnce, CutAway, EndsIn, GoesOver, Moves, HandleView, ends_with}
use Rattle.kc_lasting.specs.declared.settling.Side.TheVariants as side
use Rattle.kc_lasting.specs.declared.crossing.Crossing.{Crossing}
use Rattle.kc_lasting.specs.declared.line.Line.{Line}
use Rattle.kc_lasting.specs.declared.shared.Place.{Place}
use Rattle.kc_model.specs.declared.footprint.Entry.{Entry}
use Rattle.kc_model.specs.declared.footprint.Footprint.{Footprint}
use Rattle.kc_roll.specs.Fronts.{StandsAtFront, PageView}
use Rattle.kc_store.proofs.Remembering.{within_on}
use Rattle.kc_store.specs.Knows.{IsWithin, entries_of, here, later, none}
use Rattle.kc_store.specs.Views.{CallerView, StoreView}

pub begins_first : {A : Type 0} (xs : List A) → StandsAtFront xs xs
begins_first xs = ([], sym (append-nil xs))

pub begins_on : {A : Type 0} (xs ys zs : List A) → StandsAtFront xs ys → StandsAtFront ys zs → StandsAtFront xs zs
begins_on {A} xs ys zs (r, e) (s, q) = (r ++ s, q ∙ ap (λ (l : List A). l ++ s) e ∙ append_assoc xs r s)

pub moves_first : (c : HandleView) → Moves c c
moves_first c = record { roll = refl; lines = begins_first c.lines; era = omega arith }

pub moves_on : (c d e : HandleView) → Moves c d → Moves d e → Moves c e
moves_on c d e m n = record { roll = n.roll ∙ m.roll; lines = begins_on c.lines d.lines e.lines m.lines n.lines; era = (let a = m.era in let b = n.era in omega (arith, a, b)) }

pub places_first : (p : Place) → MovesOn p p
places_first p = record { lines = begins_first p.page.seen; era = omega arith }

pub places_on : (p q r : Place) → MovesOn p q → MovesOn q r → MovesOn p r
places_on p q r m n = record { lines = begins_on p.page.seen q.page.seen r.page.seen m.lines n.lines; era = (let a = m.era in let b = n.era in omega (arith, a, b)) }

-- it looked up the roll
pub looked_up : (roll : TableId) (z : StoreView) (p q r : Place) → HasItsPlace roll z p → q.page ≡ p.page → q.era ≡ p.era → r.page.of ≡ q.page.of → ∥ AreEras r.page.seen ∥₁ → StandsAtFront q.page.seen r.page.seen → r.era ≡ q.era → HasItsPlace roll z r
looked_up roll z p q r placed page era of chain sees era' = record {
  of = of ∙ ap (λ (x : PageView Line). x.of) page ∙ placed.of;
  at = subst (λ (k : ℕ). store_at r.page.seen k ≡ Some z) (sym (era' ∙ era)) (store_on p.page.seen r.page.seen (subst (λ (x : PageView Line). StandsAtFront x.seen r.page.seen) page sees) p.era z placed.at);
  chain = chain;
}

-- it is of the same era, or went over
pub placed_so : (roll : TableId) (z y : StoreView) (p q : Place) → HasItsPlace roll z p → q.page ≡ p.page → q.era ≡ p.era → y ≡ z → HasItsPlace roll y q
placed_so roll z y p q placed page era is = record {
  of = ap (λ (x : PageView Line). x.of) page ∙ placed.of;
  at = subst (λ (w : StoreView). store_at q.page.seen q.era ≡ Some w) (sym is) (subst (λ (k : ℕ). store_at q.page.seen k ≡ Some z) (sym era) (subst (λ (x : PageView Line). store_at x.seen p.era ≡ Some z) (sym page) placed.at));
  chain = subst (λ (x : PageView Line). ∥ AreEras x.seen ∥₁) (sym page) placed.chain;
}

pub placed_over : (roll : TableId) (z y : StoreView) (p q : Place) → HasItsPlace roll z p → q.page ≡ p.page → store_at q.page.seen q.era ≡ Some y → HasItsPlace roll y q
placed_over roll z y p q placed page at = record {
  of = ap (λ (x : PageView Line). x.of) page ∙ placed.of;
  at = at;
  chain = subst (λ (x : PageView Line). ∥ AreEras x.seen ∥₁) (sym page) placed.chain;
}

-- it went over to another era, whose store has as many callers
pub as_many_there : (roll : TableId) (z y : StoreView) (p q : Place) → HasItsPlace roll z p → q.page ≡ p.page → store_at q.page.seen q.era ≡ Some y → y.callers ≡ z.callers
as_many_there roll z y p q placed page at = ∥∥₁_elim placed.chain (ℕ_set y.callers z.callers) (λ eras. as_many_callers p.page.seen p.era q.era z y eras placed.at (subst (λ (x : PageView Line). store_at x.seen q.era ≡ Some y) page at))

pub stays_same : (c s d t e u : CallerView) → StaysAsSeen c s d t → e ≡ d → u ≡ t → StaysAsSeen c s e u
stays_same c s d t e u a x y = subst (λ (v : CallerView). StaysAsSeen c s e v) (sym y) (subst (λ (v : CallerView). StaysAsSeen c s v t) (sym x) a)

pub ended_there : (a b : PageView Line) (j k : ℕ) (part : List Entry) → b ≡ a → j ≡ k → IsEnded a.seen j part → IsEnded b.seen k part
ended_there a b j k part page era x = subst (λ (p : PageView Line). IsEnded p.seen k part) (sym page) (subst (λ (i : ℕ). IsEnded a.seen i part) era x)

-- ---- lists

not_longer : {a b : List Entry} → IsWithin a b → length a ≤ length b
not_longer (none {es}) = omega arith
not_longer (here {e} {a} {b} w) = let l = not_longer w in omega (arith, l)
not_longer (later {e} {a} {b} w) = let l = not_longer w in omega (arith, l)

nothing_more : (es : List Entry) → length es ≤ 0 → [] ≡ es
nothing_more [] le = refl
nothing_more (e ∷ es) le = absurd (omega (arith, le))

as_long : {a b : List Entry} → IsWithin a b → length b ≤ length a → a ≡ b
as_long (none {es}) le = nothing_more es le
as_long (here {e} {a} {b} w) le = ap (λ (es : List Entry). e ∷ es) (as_long w (omega (arith, le)))
as_long (later {e} {a} {b} w) le = let l = not_longer w in absurd (omega (arith, le, l))

within_both : {a b : List Entry} → IsWithin a b → IsWithin b a → a ≡ b
within_both w v = as_long w (not_longer v)

-- ---- turn after turn

pub record StillThere (roll : TableId) (c s : CallerView) (p : Place) (d t : CallerView) (q : Place) : Type 0 where
  pub stays : StaysAsSeen c s d t
  pub placed : HasItsPlace roll d.of q
  pub moves : MovesOn p q
  pub era : q.era ≡ p.era

pub still_first : (roll : TableId) (c s : CallerView) (p : Place) → HasItsPlace roll c.of p → StillThere roll c s p c s p
still_first roll c s p placed = record { stays = stays_first c s; placed = placed; moves = places_first p; era = refl }

pub still_on : (roll : TableId) (c s : CallerView) (p : Place) (d t : CallerView) (q : Place) (e u : CallerView) (r : Place) → StillThere roll c s p d t q → StaysAsSeen d t e u → HasItsPlace roll e.of r → MovesOn q r → r.era ≡ q.era → StillThere roll c s p e u r
still_on roll c s p d t q e u r i stays placed moves era = record { stays = stays_on c s d t e u i.stays stays; placed = placed; moves = places_on p q r i.moves moves; era = era ∙ i.era }

pub crosses_from : (roll : TableId) (c s : CallerView) (p : Place) (d t : CallerView) (q : Place) (x : Crossing) (f : Footprint) (e u : CallerView) (r : Place) → StillThere roll c s p d t q → CrossesOnce (IsEnded r.page.seen q.era) (Some x) d t f e u → Crosses (IsEnded r.page.seen p.era) x s c f e u × (u.own ≡ e.own)
crosses_from roll c s p d t q x f e u r i once = (crosses_back (IsEnded r.page.seen p.era) s t c d e u f i.stays.learns i.stays.seen x (subst (λ (k : ℕ). Crosses (IsEnded r.page.seen k) x t d f e u) i.era once.0), once.1)

pub settled_before : (a b : PageView Line) (j k : ℕ) (c s w v d u : CallerView) (f : Footprint) → b ≡ a → j ≡ k → IsSettled (IsEnded a.seen j) side.Before c s f w v → d.of.callers ≡ c.of.callers → (d.own ≡ []) × (u ≡ d) → ((g : GoesOver (IsEnded b.seen k) s c d u) × CountsIn g.part s.own c f) × (u.own ≡ d.own)
settled_before a b j k c s w v d u f page era (part, known, l) many n = (crosses_before (IsEnded b.seen k) c s d u f many n.0 n.1 part (ended_there a b j k part page era known) l.1 l.2, ap (λ (x : CallerView). x.own) n.1)

pub settled_behind : (a b : PageView Line) (j k : ℕ) (c s w v d u : CallerView) (f : Footprint) → b ≡ a → j ≡ k → IsSettled (IsEnded a.seen j) side.Behind c s f w v → d.of.callers ≡ c.of.callers → (d.own ≡ []) × (u ≡ d) → CutAway (IsEnded b.seen k) s c f d u × (u.own ≡ d.own)
settled_behind a b j k c s w v d u f page era (part, known, l) many n = (crosses_behind (IsEnded b.seen k) c s d u f many n.0 n.1 part (ended_there a b j k part page era known) l.1 l.2, ap (λ (x : CallerView). x.own) n.1)

pub ends_in : (lines : List Line) (h d : HandleView) → h.confirmed.own ≡ h.caller.own → GoesOver (ends_with h d) h.confirmed h.caller d.caller d.confirmed → StandsAtFront d.lines lines → EndsIn lines h
ends_in lines h d all g sees = record {
  history = g.part;
  ended = record { note = g.there.note; ended = ended_on d.lines lines sees (suc h.era) g.there.note g.there.ended; known = g.there.known };
  all = ∥∥₁_map g.stands (λ x. within_on (there x) (own_within h.caller.number g.part));
  exactly = ∥∥₁_map g.stands (λ x. within_both x.no_other (there x));
}
  where
    there : StandsBefore h.caller.of h.caller.number h.caller.own h.confirmed g.part → IsWithin h.caller.own (entries_of h.caller.number g.part)
    there x = subst (λ (es : List Entry). IsWithin es (entries_of h.caller.number g.part)) all x.own
