-- A handle that goes over to another era, or stays.
use Rattle.std.proofs.Common.{◌≡◌, inl, inr, ◌++◌, Bool, true, false, not, ℕ, List, [], ◌∷◌, refl, sym, ap, ◌∙◌, subst}
use Rattle.std.proofs.Math.Logic.{∥∥₁_map, ∥∥₁_map₂}
use Rattle.std.specs.Prelude.{Contains}
use Rattle.kc_lasting.proofs.Learning.{last_in}
use Rattle.kc_lasting.proofs.Looked.{known_on}
use Rattle.kc_lasting.proofs.Settled.{own_grows, own_within}
use Rattle.kc_lasting.proofs.Sides.{within_contains}
use Rattle.kc_lasting.specs.Ends.{HasSeen}
use Rattle.kc_lasting.specs.Settled.{CountsIn, IsCutAway, StandsBefore, StaysAsSeen, entries_known}
use Rattle.kc_lasting.specs.Told.{AddsNoPuts, Counts, Crosses, CutAway, EraGoesOn, GoesOver, Judged, DoesNothingAs}
use Rattle.kc_lasting.specs.declared.crossing.Crossing.{Crossing}
use Rattle.kc_lasting.specs.declared.crossing.Crossing.TheVariants as crossing
use Rattle.kc_model.specs.declared.footprint.Entry.{Entry}
use Rattle.kc_model.specs.declared.footprint.Footprint.{Footprint}
use Rattle.kc_store.proofs.Remembering.{entries_by, entries_within, learns_on, learns_same, within_on}
use Rattle.kc_store.specs.Knows.{IsWithin, OnlyLearns, entries_of, entry_of}
use Rattle.kc_store.specs.Views.{CallerView, StoreView, caller_view}
use Rattle.kc_hang.proofs.kc_table_laws.Keeping.{keeps_then}
use Rattle.kc_store.specs.kc_table_moves.Views.{knows}

-- ---- as if the caller hadn't learned meanwhile

counts_back : (part own : List Entry) (f : Footprint) (b c : CallerView) → OnlyLearns b c → CountsIn part own c f → CountsIn part own b f
counts_back part own f b c l counts n is =
    let number = l.remembers.number in
    subst (λ (k : ℕ). ∥ Contains part (entry_of k n f) ∥₁) number (counts n (l.own ∙ is ∙ ap (λ (k : ℕ). own ++ entry_of k n f ∷ []) (sym number)))

away_back : (part own : List Entry) (f : Footprint) (b c : CallerView) → OnlyLearns b c → IsCutAway part own c f → IsCutAway part own b f
away_back part own f b c l away n is some =
    let number = l.remembers.number in
    subst (λ (k : ℕ). ¬ Contains part (entry_of k n f)) number (away n (l.own ∙ is ∙ ap (λ (k : ℕ). own ++ entry_of k n f ∷ []) (sym number)) some)

stands_back : (part : List Entry) (s b c : CallerView) → OnlyLearns b c → StandsBefore c.of c.number c.own s part → StandsBefore b.of b.number b.own s part
stands_back part s b c l x = subst (λ (z : StoreView). StandsBefore z b.number b.own s part) l.remembers.of (subst (λ (k : ℕ). StandsBefore c.of k b.own s part) l.remembers.number (subst (λ (es : List Entry). StandsBefore c.of c.number es s part) l.own x))

pub over_back : (p : List Entry → Type 0) (s b c d t : CallerView) → OnlyLearns b c → GoesOver p s c d t → GoesOver p s b d t
over_back p s b c d t l g = record { part = g.part; there = g.there; stands = ∥∥₁_map g.stands (stands_back g.part s b c l); many = g.many ∙ ap (λ (z : StoreView). z.callers) l.remembers.of; none = g.none; new = g.new }

-- ---- over a cut

-- of a caller that had been confirmed at s, and found its side
module _ (p : List Entry → Type 0) (c s d t : CallerView) (f : Footprint) (many : d.of.callers ≡ c.of.callers) (none : d.own ≡ []) (new : t ≡ d) (part : List Entry) (there : p part) (stands : ∥ StandsBefore c.of c.number c.own s part ∥₁) where
  abbrev goes_over : GoesOver p s c d t
  goes_over = record { part = part; there = there; stands = stands; many = many; none = none; new = new }

  pub crosses_before : CountsIn part s.own c f → (g : GoesOver p s c d t) × CountsIn g.part s.own c f
  crosses_before counts = (goes_over, counts)

  pub crosses_behind : IsCutAway part s.own c f → CutAway p s c f d t
  crosses_behind away = (goes_over, away)

-- ---- a handle whose era goes on as it looks, and that then begins a new one

module _ (g flag : ℕ) (s b : CallerView) (shows : b ≡ caller_view b.worn b.seat) (h : HasSeen g flag s b) where
  known_kept : IsWithin (entries_known s.seat) (entries_known b.seat)
  known_kept = entries_within h.keeps.grows.0

  -- what it had when it saw so, it has
  own_kept : IsWithin s.own b.own
  own_kept =
      let own_s : s.own ≡ entries_of s.seat.number (entries_known s.seat) = ap (λ (x : CallerView). x.own) h.shows ∙ sym (entries_by s.seat.number (knows s.seat)) in
      let own_b : b.own ≡ entries_of b.seat.number (entries_known b.seat) = ap (λ (x : CallerView). x.own) shows ∙ sym (entries_by b.seat.number (knows b.seat)) in
      let one : IsWithin (entries_of s.seat.number (entries_known s.seat)) (entries_of s.seat.number (entries_known b.seat)) = own_grows s.seat.number known_kept in
      let two : IsWithin (entries_of s.seat.number (entries_known s.seat)) (entries_of b.seat.number (entries_known b.seat)) = subst (λ (k : ℕ). IsWithin (entries_of s.seat.number (entries_known s.seat)) (entries_of k (entries_known b.seat))) (sym h.keeps.number) one in
      subst (λ (es : List Entry). IsWithin es b.own) (sym own_s) (subst (λ (es : List Entry). IsWithin (entries_of s.seat.number (entries_known s.seat)) es) (sym own_b) two)

  stands_all : (z : StoreView) (k : ℕ) (own part : List Entry) → StandsBefore z k own b part → StandsBefore z k own s part
  stands_all z k own part x = record {
    cells = x.cells;
    cut = x.cut;
    known = within_on known_kept x.known;
    own = within_on own_kept x.own;
    no_other = x.no_other;
    reads = λ l r known. x.reads l r (known_on s.seat b.seat h.keeps l r known);
    views = λ y u f stood keeps. x.views y u f stood (keeps_then u.seat s.seat b.seat keeps h.keeps);
  }

module _ (p : List Entry → Type 0) (g flag : ℕ) (s b c d t : CallerView) (f : Footprint) (shows : b ≡ caller_view b.worn b.seat) (has : ∥ HasSeen g flag s b ∥₁) (l : OnlyLearns b c) where
  abbrev over : GoesOver p b c d t → GoesOver p s b d t
  over o = record {
    part = o.part;
    there = o.there;
    stands = ∥∥₁_map₂ has o.stands (λ h x. stands_all g flag s b shows h b.of b.number b.own o.part (stands_back o.part b b c l x));
    many = o.many ∙ ap (λ (z : StoreView). z.callers) l.remembers.of;
    none = o.none;
    new = o.new;
  }

  pub counts_all : GoesOver p b c d t → Counts p s b f d t
  counts_all o = inr (
    over o,
    λ n is. ∥∥₁_map o.stands (λ x. within_contains b.own o.part (entry_of b.number n f) (within_on x.own (own_within c.number o.part)) (subst (λ (es : List Entry). Contains es (entry_of b.number n f)) (sym is) (last_in s.own (entry_of b.number n f)))),
  )

  pub judged_all : (worn : Bool) → (worn ≡ true → AddsNoPuts s.own b f) → GoesOver p b c d t → Judged p (not worn) s b f d t
  judged_all true nothing o = (over o, λ n is some. absurd (some (nothing refl n is)))
  judged_all false nothing o = counts_all o

-- ---- a handle that has looked, and found the flag put

pub on_back : (b c d t : CallerView) → OnlyLearns b c → EraGoesOn c d t → EraGoesOn b d t
on_back b c d t l s = (learns_on b c t l s.0, s.1)

pub on_all : (b d t : CallerView) → EraGoesOn b d t → OnlyLearns b d
on_all b d t s = learns_on b t d s.0 s.1

-- it stays, and what it knew is confirmed
pub stays_on_there : (c d t : CallerView) → t ≡ c → OnlyLearns c d → EraGoesOn c d t × (t.own ≡ d.own)
stays_on_there c d t is l = ((subst (OnlyLearns c) (sym is) (learns_same c), subst (λ (x : CallerView). OnlyLearns x d) (sym is) l), ap (λ (x : CallerView). x.own) is ∙ sym l.own)

module _ (p : List Entry → Type 0) (s before : CallerView) (b c d t : CallerView) (f : Footprint) (l : OnlyLearns b c) (same : before ≡ s) where
  abbrev goes_back : GoesOver p s c d t → GoesOver p s b d t
  goes_back g = over_back p s b c d t l g

  before_back : (g : GoesOver p before c d t) × CountsIn g.part before.own c f → (g : GoesOver p s b d t) × CountsIn g.part s.own b f
  unfolding over_back
  before_back x =
      let y : (g : GoesOver p s c d t) × CountsIn g.part s.own c f = subst (λ (v : CallerView). (g : GoesOver p v c d t) × CountsIn g.part v.own c f) same x in
      (goes_back y.0, counts_back y.0.part s.own f b c l y.1)

  pub before_there : (g : GoesOver p before c d t) × CountsIn g.part before.own c f → Counts p s b f d t
  before_there x = inr (before_back x)

  pub behind_there : CutAway p before c f d t → CutAway p s b f d t
  unfolding over_back
  behind_there x =
      let y : CutAway p s c f d t = subst (λ (v : CallerView). CutAway p v c f d t) same x in
      (goes_back y.0, away_back y.0.part s.own f b c l y.1)

  -- whatever came of it, where it had looked and nothing else
  pub passes_back : (x : Crossing) → Crosses p x before c f d t → DoesNothingAs p s b d t
  passes_back crossing.Stays x = inl (on_all b d t (on_back b c d t l x))
  passes_back crossing.Before x = inr (before_back x).0
  passes_back crossing.Behind x = inr (behind_there x).0

  pub crosses_back : (x : Crossing) → Crosses p x before c f d t → Crosses p x s b f d t
  crosses_back crossing.Stays x = on_back b c d t l x
  crosses_back crossing.Before x = before_back x
  crosses_back crossing.Behind x = behind_there x

-- ---- rounds in which nothing comes of it

pub stays_first : (c s : CallerView) → StaysAsSeen c s c s
stays_first c s = record { learns = learns_same c; seen = refl }

pub stays_on : (c s d t e u : CallerView) → StaysAsSeen c s d t → StaysAsSeen d t e u → StaysAsSeen c s e u
stays_on c s d t e u a b = record { learns = learns_on c d e a.learns b.learns; seen = b.seen ∙ a.seen }
