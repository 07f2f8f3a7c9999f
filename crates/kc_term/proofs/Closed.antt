-- What holds of a term because it holds of its operations.
use Rattle.std.proofs.Common.{◌≡◌, ◌≢◌, ℕ, ◌≤◌, max, List, [], ◌∷◌, ◌++◌, None, refl, sym, ap, ◌∙◌, subst, arith}
use Rattle.kc_model.specs.declared.reply.Item.{Item}
use Rattle.kc_model.specs.declared.reply.Reply.{Reply}
use Rattle.kc_model.specs.declared.reply.Reply.TheVariants as reply
use Rattle.kc_term.proofs.Parts.{each-left, each-right}
use Rattle.kc_term.specs.Fit.{Each}
use Rattle.kc_term.specs.Laws.{Preserves, LeavesAlone, StaysBelow}
use Rattle.kc_term.specs.Meaning.{items_of, term_meaning, parts_meaning, greatest_end}
use Rattle.kc_term.specs.Tree.{Tree, Trees, op, seq, first, none, more, operations, all_operations}
use Rattle.kc_xt.proofs.Spared.{spared-append, spared-first}
use Rattle.kc_xt.proofs.Touching.{map_after-given_up, below-append, below-wider, below-given_up}
use Rattle.kc_xt.specs.Meaning.{Outcome, replied, retried, too_large, Meaning, Touch, Run, AllBelow, map_with, map_after, last_written, then_run, then_meaning, given_up, else_run, first_meaning}
use Rattle.kc_xt.specs.Program.{replies, meaning}

-- a property of meanings that sequences and alternatives keep
pub record IsClosed (Q : Meaning → Type 0) : Type 0 where
  pub nothing : (items : List Item) → Q (meaning (replies (reply.Many items)))
  pub behind : (p : Meaning) (q : Reply → Meaning) → Q p → ((a : Reply) → Q (q a)) → Q (then_meaning p q)
  pub either : (p q : Meaning) → Q p → Q q → Q (first_meaning p q)

module _ {Q : Meaning → Type 0} (closed : IsClosed Q) {O : Type 0} (mean : O → Meaning) where
  mutual
    -- is one of each term, where it is one of its operations
    pub of_term : (t : Tree O) → Each (λ o. Q (mean o)) (operations t) → Q (term_meaning mean t)
    of_term (op o) h = h.0
    of_term (seq ts) h = of_parts ts [] h
    of_term (first a b) h = closed.either (term_meaning mean a) (term_meaning mean b) (of_term a (each-left _ (operations a) (operations b) h)) (of_term b (each-right _ (operations a) (operations b) h))

    pub of_parts : (ts : Trees O) (items : List Item) → Each (λ o. Q (mean o)) (all_operations ts) → Q (parts_meaning mean ts items)
    of_parts none items h = closed.nothing items
    of_parts (more t ts) items h = closed.behind (term_meaning mean t) (λ a. parts_meaning mean ts (items ++ items_of a)) (of_term t (each-left _ (operations t) (all_operations ts) h)) (λ a. of_parts ts (items ++ items_of a) (each-right _ (operations t) (all_operations ts) h))

-- ---- a property of maps

pub map_after-append : (m : ℕ → ℕ) (ts us : List Touch) → map_after m (ts ++ us) ≡ map_after (map_after m ts) us
map_after-append m [] us = refl
map_after-append m (t ∷ ts) us = map_after-append (map_with m t.cell t.wrote) ts us

replied≢too_large : (a : Reply) → replied a ≡ too_large → ⊥
replied≢too_large a e = cc

retried≢too_large : retried ≡ too_large → ⊥
retried≢too_large e = cc

module _ (P : (ℕ → ℕ) → Type 0) (m : ℕ → ℕ) where
  kept_behind : (o : Outcome) (ts : List Touch) (f : Reply → Run) → (o ≢ too_large → P (map_after m ts)) → ((a : Reply) → P (map_after m ts) → (f a).outcome ≢ too_large → P (map_after (map_after m ts) (f a).touches)) → (then_run o ts f).outcome ≢ too_large → P (map_after m (then_run o ts f).touches)
  kept_behind (replied a) ts f h g ne = subst P (sym (map_after-append m ts (f a).touches)) (g a (h (replied≢too_large a)) ne)
  kept_behind retried ts f h g ne = h retried≢too_large
  kept_behind too_large ts f h g ne = absurd (ne refl)

  kept_either : (o : Outcome) (ts : List Touch) (k : Run) → (o ≢ too_large → P (map_after m ts)) → (k.outcome ≢ too_large → P (map_after m k.touches)) → (else_run o ts k).outcome ≢ too_large → P (map_after m (else_run o ts k).touches)
  kept_either (replied a) ts k h g ne = h (replied≢too_large a)
  kept_either retried ts k h g ne = subst P (sym (map_after-append m (given_up ts) k.touches ∙ ap (λ w. map_after w k.touches) (map_after-given_up m ts))) (g ne)
  kept_either too_large ts k h g ne = absurd (ne refl)

preserves_closed : (P : (ℕ → ℕ) → Type 0) → IsClosed (Preserves P)
preserves_closed P = record {
  nothing = λ items n m ks h ne. h;
  behind = λ p q hp hq n m ks h ne. kept_behind P m (p n m ks).outcome (p n m ks).touches _ (hp n m ks h) (λ a h2 ne2. hq a n _ _ h2 ne2) ne;
  either = λ p q hp hq n m ks h ne. kept_either P m (p n m ks).outcome (p n m ks).touches _ (hp n m ks h) (hq n m _ h) ne;
}

-- ---- a location that nothing is written to

alone_behind : (l : ℕ) (o : Outcome) (ts : List Touch) (f : Reply → Run) → last_written ts l ≡ None → ((a : Reply) → last_written (f a).touches l ≡ None) → last_written (then_run o ts f).touches l ≡ None
alone_behind l (replied a) ts f h g = spared-append ts (f a).touches l h (g a)
alone_behind l retried ts f h g = h
alone_behind l too_large ts f h g = h

alone_closed : (l : ℕ) → IsClosed (LeavesAlone l)
alone_closed l = record {
  nothing = λ items n m ks. refl;
  behind = λ p q hp hq n m ks. alone_behind l (p n m ks).outcome (p n m ks).touches _ (hp n m ks) (λ a. hq a n _ _);
  either = λ p q hp hq n m ks. spared-first p q l n m ks (hp n m ks) (hq n m);
}

-- ---- locations below a number

module _ (b : ℕ) where
  below_behind : (o : Outcome) (ts : List Touch) (f : Reply → Run) → AllBelow b ts → ((a : Reply) → AllBelow b (f a).touches) → AllBelow b (then_run o ts f).touches
  below_behind (replied a) ts f h g = below-append b ts (f a).touches h (g a)
  below_behind retried ts f h g = h
  below_behind too_large ts f h g = h

  below_either : (o : Outcome) (ts : List Touch) (k : Run) → AllBelow b ts → AllBelow b k.touches → AllBelow b (else_run o ts k).touches
  below_either (replied a) ts k h g = h
  below_either retried ts k h g = below-append b (given_up ts) k.touches (below-given_up b ts h) g
  below_either too_large ts k h g = h

  below_closed : IsClosed (StaysBelow b)
  below_closed = record {
    nothing = λ items n m ks. tt;
    behind = λ p q hp hq n m ks. below_behind (p n m ks).outcome (p n m ks).touches _ (hp n m ks) (λ a. hq a n _ _);
    either = λ p q hp hq n m ks. below_either (p n m ks).outcome (p n m ks).touches _ (hp n m ks) (hq n m _);
  }

-- each below its own end is below the greatest
below_greatest : {O : Type 0} (mean : O → Meaning) (end : O → ℕ) (c : ℕ) (os : List O) → greatest_end end os ≤ c → Each (λ o. StaysBelow (end o) (mean o)) os → Each (λ o. StaysBelow c (mean o)) os
below_greatest mean end c [] le h = tt
below_greatest mean end c (o ∷ os) le (h, hs) = (λ n m ks. below-wider (end o) c _ (omega arith) (h n m ks), below_greatest mean end c os (omega arith) hs)

module _ {O : Type 0} (mean : O → Meaning) where
  -- a property of maps that each operation preserves
  pub term_preserves : (P : (ℕ → ℕ) → Type 0) (t : Tree O) → Each (λ o. Preserves P (mean o)) (operations t) → Preserves P (term_meaning mean t)
  term_preserves P = of_term (preserves_closed P) mean

  -- a location that no operation writes
  pub term_leaves_alone : (l : ℕ) (t : Tree O) → Each (λ o. LeavesAlone l (mean o)) (operations t) → LeavesAlone l (term_meaning mean t)
  term_leaves_alone l = of_term (alone_closed l) mean

  -- the locations that the operations touch, each below its operation's end
  pub term_stays_below : (end : O → ℕ) (t : Tree O) → Each (λ o. StaysBelow (end o) (mean o)) (operations t) → StaysBelow (greatest_end end (operations t)) (term_meaning mean t)
  term_stays_below end t h = of_term (below_closed (greatest_end end (operations t))) mean t (below_greatest mean end _ (operations t) (omega arith) h)

-- two alternatives
pub either_preserves : (P : (ℕ → ℕ) → Type 0) (p q : Meaning) → Preserves P p → Preserves P q → Preserves P (first_meaning p q)
either_preserves P = (preserves_closed P).either

pub either_leaves_alone : (l : ℕ) (p q : Meaning) → LeavesAlone l p → LeavesAlone l q → LeavesAlone l (first_meaning p q)
either_leaves_alone l = (alone_closed l).either

pub either_stays_below : (b c : ℕ) (p q : Meaning) → StaysBelow b p → StaysBelow c q → StaysBelow (max b c) (first_meaning p q)
either_stays_below b c p q h g = (below_closed (max b c)).either p q (λ n m ks. below-wider b (max b c) _ (omega arith) (h n m ks)) (λ n m ks. below-wider c (max b c) _ (omega arith) (g n m ks))
