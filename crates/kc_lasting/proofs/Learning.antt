-- What a caller has learned of the end of its era.
use Rattle.std.proofs.Common.{◌≡◌, ◌≢◌, ◌<◌, ◌++◌, ℕ, suc, List, [], ◌∷◌, get_or, length, map, refl, sym, ap, ◌∙◌, arith, subst}
use Rattle.std.proofs.Math.Logic.{∥∥₁_map}
use Rattle.std.specs.Prelude.{Contains}
use Rattle.kc_hang.specs.kc_table_views.Known.{IsPrefix}
use Rattle.kc_lasting.proofs.Settled.{Learned, cut_goes_on, is_before, is_behind, part, stands_behind}
use Rattle.kc_lasting.specs.Ends.{HasSeen, IsEraEnd}
use Rattle.kc_lasting.specs.Settled.{CountsIn, IsCutAway, IsLearned, IsSettled, IsSideOf, PutsAbove, PutsBelow, StandsBefore, StaysAsSeen}
use Rattle.kc_lasting.specs.declared.settling.Side.{Side}
use Rattle.kc_lasting.specs.declared.settling.Side.TheVariants as side
use Rattle.kc_model.proofs.Stores.{Contains-first, Contains-later}
use Rattle.kc_model.specs.declared.footprint.Entry.{Entry}
use Rattle.kc_model.specs.declared.footprint.Footprint.{Footprint}
use Rattle.kc_model.specs.declared.footprint.Seen.{Seen}
use Rattle.kc_store.specs.Knows.{entry_of}
use Rattle.kc_store.specs.Views.{CallerView, NoteView, StoreView}

pub last_in : (xs : List Entry) (x : Entry) → Contains (xs ++ x ∷ []) x
last_in [] x = Contains-first x []
last_in (y ∷ xs) x = Contains-later y (xs ++ x ∷ []) x (last_in xs x)

as_many : (rs : List Seen) → length (map (λ (r : Seen). r.version) rs) ≡ length rs
as_many [] = refl
as_many (r ∷ rs) = ap suc (as_many rs)

module _ (z : StoreView) (c w : CallerView) (n : NoteView) (hist : List Entry) (versions : List ℕ) (lr : Learned z c w n hist versions) where
  len : length versions ≡ length lr.note.cut.cells
  len = ap length lr.note.cut.versions_are ∙ as_many lr.note.cut.cells

  -- a later note of the same store tells as much
  pub end_again : (m : NoteView) → m.of ≡ z → m.note.past ≡ w.seat.past → IsEraEnd z m hist versions
  end_again m of past = record {
    of = of;
    past = lr.note.past;
    history_is = lr.note.history_is;
    within = subst (IsPrefix lr.note.past) (sym past) (cut_goes_on z c w n hist versions lr);
    cut = lr.note.cut;
  }

  module _ (s : CallerView) (g flag k : ℕ) (f : Footprint) (has : ∥ HasSeen g flag s c ∥₁) (within : g < length versions) (high : flag < get_or versions g k) where
    stood : ∥ StandsBefore z c.number c.own s (part z c w n hist versions lr) ∥₁
    stood = ∥∥₁_map has (λ h. stands_behind z c w n hist versions lr s g flag k h (omega (arith, within, len)) high)

    counts : PutsBelow f versions → CountsIn (part z c w n hist versions lr) s.own c f
    counts p j own = ∣ is_before z c w n hist versions lr (entry_of c.number j f) p.at 0 p.put (subst (λ (es : List Entry). Contains es (entry_of c.number j f)) (sym own) (last_in s.own (entry_of c.number j f))) p.puts (let a = p.within in omega (arith, a, len)) p.below ∣₁

    away : (f.puts.items ≢ [] → PutsAbove f versions) → IsCutAway (part z c w n hist versions lr) s.own c f
    away p j own some = let a = p some in is_behind z c w n hist versions lr (entry_of c.number j f) a.at 0 a.put a.puts (let b = a.within in omega (arith, b, len)) a.above

    here : (q : List Entry → Type 0) → q (part z c w n hist versions lr) → q hist
    here q x = subst q (sym lr.note.history_is) x

    pub learned : (a : Side) (t : CallerView) → c.of ≡ z → IsSideOf a f versions → StaysAsSeen c s w t → IsLearned hist a c s f w t
    learned side.Open t of never stays = never
    learned side.Before t of p stays = (stays, here (λ (es : List Entry). ∥ StandsBefore c.of c.number c.own s es ∥₁) (subst (λ (y : StoreView). ∥ StandsBefore y c.number c.own s (part z c w n hist versions lr) ∥₁) (sym of) stood), here (λ (es : List Entry). CountsIn es s.own c f) (counts p))
    learned side.Behind t of p stays = (stays, here (λ (es : List Entry). ∥ StandsBefore c.of c.number c.own s es ∥₁) (subst (λ (y : StoreView). ∥ StandsBefore y c.number c.own s (part z c w n hist versions lr) ∥₁) (sym of) stood), here (λ (es : List Entry). IsCutAway es s.own c f) (away p))
    learned side.Unknown t of p stays = stays

pub never_open : (part : List Entry) (a : Side) (c s : CallerView) (f : Footprint) (d t : CallerView) → IsLearned part a c s f d t → a ≡ side.Open → ⊥
never_open part a c s f d t l is = subst (λ (x : Side). IsLearned part x c s f d t) is l

pub settled_so : (p : List Entry → Type 0) (history : List Entry) → p history → (a : Side) (c s : CallerView) (f : Footprint) (d t : CallerView) → IsLearned history a c s f d t → IsSettled p a c s f d t
settled_so p history known side.Open c s f d t never = absurd never
settled_so p history known side.Before c s f d t l = (history, known, l)
settled_so p history known side.Behind c s f d t l = (history, known, l)
settled_so p history known side.Unknown c s f d t l = l
