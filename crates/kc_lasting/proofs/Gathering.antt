-- Handles that are taken in, one after another.
use Rattle.std.proofs.Common.{◌≡◌, ◌<◌, ◌⊎◌, inl, inr, ℕ, zero, suc, List, [], ◌∷◌, get_or, set, length, refl, sym, ap, ◌∙◌, arith, subst}
use Rattle.std.specs.Prelude.{All}
use mathlib.Core.Logic.{dite}
use native.Mathlib.Decide.{ℕ_discrete}
use Rattle.kc_lasting.proofs.Chains.{ended_on}
use Rattle.kc_lasting.proofs.Moving.{moves_first, moves_on}
use Rattle.kc_lasting.specs.Told.{AllPass, EndsIn, HandleView, Moves, DoesNothing, standing_of}
use Rattle.kc_lasting.specs.declared.handle.LastingCaller.{LastingCaller}
use Rattle.kc_lasting.specs.declared.line.Line.{Line}
use Rattle.kc_roll.specs.Fronts.{StandsAtFront}
use Rattle.kc_store.proofs.Remembering.{learns_same}

pub ends_on : (a b : List Line) → StandsAtFront a b → (h : HandleView) → EndsIn a h → EndsIn b h
ends_on a b front h e = record {
  history = e.history;
  ended = record { note = e.ended.note; ended = ended_on a b front (suc h.era) e.ended.note e.ended.ended; known = e.ended.known };
  all = e.all;
  exactly = e.exactly;
}

pub all_ends_on : (a b : List Line) → StandsAtFront a b → (hs : List LastingCaller) → All (λ (o : LastingCaller). EndsIn a (standing_of o)) hs → All (λ (o : LastingCaller). EndsIn b (standing_of o)) hs
all_ends_on a b front hs all = λ i d lt. ends_on a b front _ (all i d lt)

-- those before the k-th have passed on, and the others are as they were
abbrev pub PassedTo : ℕ → List LastingCaller → List LastingCaller → Type 0
PassedTo zero cs ds = ds ≡ cs
PassedTo (suc k) [] ds = ds ≡ []
PassedTo (suc k) (c ∷ cs) [] = ⊥
PassedTo (suc k) (c ∷ cs) (d ∷ ds) = DoesNothing (standing_of c) (standing_of d) × PassedTo k cs ds

pub all_same : (cs : List LastingCaller) → AllPass cs cs
all_same [] = tt
all_same (c ∷ cs) = (inl (learns_same c.client.caller), all_same cs)

pub all_pass : (k : ℕ) (cs ds : List LastingCaller) → PassedTo k cs ds → AllPass cs ds
all_pass zero cs ds e = subst (AllPass cs) (sym e) (all_same cs)
all_pass (suc k) [] ds e = subst (AllPass []) (sym e) tt
all_pass (suc k) (c ∷ cs) [] never = absurd never
all_pass (suc k) (c ∷ cs) (d ∷ ds) p = (p.0, all_pass k cs ds p.1)

pub here_as_it_was : (k : ℕ) (cs ds : List LastingCaller) (x : LastingCaller) → PassedTo k cs ds → get_or ds k x ≡ get_or cs k x
here_as_it_was zero cs ds x e = ap (λ (l : List LastingCaller). get_or l 0 x) e
here_as_it_was (suc k) [] ds x e = ap (λ (l : List LastingCaller). get_or l (suc k) x) e
here_as_it_was (suc k) (c ∷ cs) [] x never = absurd never
here_as_it_was (suc k) (c ∷ cs) (d ∷ ds) x p = here_as_it_was k cs ds x p.1

pub passed_one : (k : ℕ) (cs ds : List LastingCaller) (x e : LastingCaller) → k < length cs → PassedTo k cs ds → DoesNothing (standing_of (get_or cs k x)) (standing_of e) → PassedTo (suc k) cs (set ds k e)
passed_one k [] ds x e lt p one = absurd (omega (arith, lt))
passed_one zero (c ∷ cs) ds x e lt p one = subst (λ (l : List LastingCaller). PassedTo 1 (c ∷ cs) (set l 0 e)) (sym p) (one, refl)
passed_one (suc k) (c ∷ cs) [] x e lt p one = absurd p
passed_one (suc k) (c ∷ cs) (d ∷ ds) x e lt p one = (p.0, passed_one k cs ds x e (omega (arith, lt)) p.1 one)

get_same : (l : List LastingCaller) (j : ℕ) (u v : LastingCaller) → j < length l → get_or l j u ≡ get_or l j v
get_same [] j u v b = absurd (omega (arith, b))
get_same (a ∷ l) zero u v b = refl
get_same (a ∷ l) (suc j) u v b = get_same l j u v (omega (arith, b))

-- so many of them have been taken in
pub record HasTaken (c d : HandleView) (k : ℕ) (olds nows : List LastingCaller) : Type 0 where
  pub passed : PassedTo k olds nows
  pub ended : (i : ℕ) (x : LastingCaller) → i < k → EndsIn d.lines (standing_of (get_or olds i x))
  pub moves : Moves c d

pub taken_first : (c : HandleView) (olds : List LastingCaller) → HasTaken c c 0 olds olds
taken_first c olds = record { passed = refl; ended = λ i x lt. absurd (omega (arith, lt)); moves = moves_first c }

pub taken_more : (c d e : HandleView) (k : ℕ) (olds nows : List LastingCaller) (x o : LastingCaller) → k < length olds → HasTaken c d k olds nows → DoesNothing (standing_of (get_or nows k x)) (standing_of o) → EndsIn e.lines (standing_of (get_or nows k x)) → Moves d e → HasTaken c e (suc k) olds (set nows k o)
taken_more c d e k olds nows x o lt h one ends moves = record {
  passed = passed_one k olds nows x o lt h.passed (subst (λ (y : LastingCaller). DoesNothing (standing_of y) (standing_of o)) (here_as_it_was k olds nows x h.passed) one);
  ended = λ i y below. at i y (le_cases i below);
  moves = moves_on c d e h.moves moves;
}
  where
    le_cases : (i : ℕ) → i < suc k → (i < k) ⊎ (i ≡ k)
    le_cases i below = dite (ℕ_discrete i k) (λ is. inr is) (λ ne. inl (omega (arith, below, ne)))

    at : (i : ℕ) (y : LastingCaller) → (i < k) ⊎ (i ≡ k) → EndsIn e.lines (standing_of (get_or olds i y))
    at i y (inl before) = ends_on d.lines e.lines moves.lines (standing_of (get_or olds i y)) (h.ended i y before)
    at i y (inr is) = subst (λ (z : LastingCaller). EndsIn e.lines (standing_of z)) (here_as_it_was k olds nows x h.passed ∙ get_same olds k x y lt ∙ ap (λ (j : ℕ). get_or olds j y) (sym is)) ends
