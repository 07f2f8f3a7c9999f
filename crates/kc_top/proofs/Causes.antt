-- Why reading failed.
use Rattle.std.proofs.Common.{◌≡◌, ◌⊎◌, inl, inr, ℕ, zero, suc, true, Bool, List, [], ◌∷◌, Contains, slice_get, Option, Some, Result, subst, ◌∙◌, arith}
use Rattle.kc_model.specs.Outside.{CameFront, Rises}
use Rattle.kc_model.specs.Shelves.{FetchedUntil, FetchFails, FetchPasses, IsLonger, Lacks}
use Rattle.kc_model.specs.declared.outside.Failed.{Failed}
use Rattle.kc_model.specs.declared.outside.ShelfError.{ShelfError}
use Rattle.kc_script.specs.declared.parser.TheConstants.{MOST_BYTES}
use Rattle.kc_top.specs.Reading.{BothRefuse}
use Rattle.kc_top.specs.Words.{command_of}
use Rattle.kc_top.specs.declared.status.Status.TheVariants as status
use Rattle.kc_top.specs.declared.command_line.Command.{Command}

-- words ask for one command
pub one_command : (words : List (List ℕ)) {one other : Command} → command_of words ≡ Some one → command_of words ≡ Some other → one ≡ other
one_command words a b = cc (a, b)

-- what stands at a place is contained
got_contained : {X : Type 0} (xs : List X) (i : ℕ) (x : X) → slice_get xs i ≡ Some x → Contains xs x
got_contained [] i x e = absurd (cc e)
got_contained (y ∷ ys) zero x e = (0, omega arith, cc e)
got_contained (y ∷ ys) (suc i) x e = let (k, lt, is) = got_contained ys i x e in (suc k, omega (arith, lt), is)

module _ {S : Type 0} {left : S → Option (List ℕ)} {faults : S → ℕ} {gives : S → List ℕ → Result ℕ Failed → List ℕ → S → Type 0} where
  pub front_rises : {limit : ℕ} {s s' : S} → CameFront left faults gives limit s s' → Rises (faults s) (faults s')
  front_rises {limit} {s} {s'} c = subst (λ (n : ℕ). Rises n (faults s')) c.came.faultless c.fails.cause

module _ {F : Type 0} {told : F → Option (List (List ℕ × List ℕ))} {faults : F → ℕ} {sure : F → Bool} {gives : F → List ℕ → ℕ → Result (List ℕ) ShelfError → F → Type 0} {limit : ℕ} {f f' : F} {names : List (List ℕ)} where
  pub fails_rises : FetchedUntil told faults sure gives limit (FetchFails told faults sure gives limit) f names f' → Rises (faults f) (faults f')
  fails_rises u = subst (λ (n : ℕ). Rises n (faults f')) u.fetched.faultless u.ends.cause

  pub fails_lacking : FetchedUntil told faults sure gives limit (FetchFails told faults sure gives limit) f names f' → sure f ≡ true → (name : List ℕ) × Contains names name × Lacks (told f) name
  fails_lacking u is = (u.name, got_contained names u.count u.name u.next, subst (λ t. Lacks t u.name) u.fetched.kept (u.ends.lacks (u.fetched.same ∙ is)))

  pub passes_longer : FetchedUntil told faults sure gives limit (FetchPasses told faults sure gives limit) f names f' → (name : List ℕ) × Contains names name × IsLonger (told f) name limit
  passes_longer u = (u.name, got_contained names u.count u.name u.next, subst (λ t. IsLonger t u.name limit) u.fetched.kept u.ends.longer)

-- of two files that a command names
module _ {F : Type 0} {told : F → Option (List (List ℕ × List ℕ))} {faults : F → ℕ} {sure : F → Bool} {gives : F → List ℕ → ℕ → Result (List ℕ) ShelfError → F → Type 0} {limit : ℕ} {one other : List ℕ} {f f' : F} where
  pub both_rises : BothRefuse told faults sure gives limit one other f f' status.ReadFault → Rises (faults f) (faults f')
  both_rises (inl h) = h.cause
  both_rises (inr h) = let came = h.2 in subst (λ (n : ℕ). Rises n (faults f')) came.faultless h.3.cause

  pub both_lacking : BothRefuse told faults sure gives limit one other f f' status.ReadFault → sure f ≡ true → Lacks (told f) one ⊎ Lacks (told f) other
  both_lacking (inl h) is = inl (h.lacks is)
  both_lacking (inr h) is = let came = h.2 in inr (subst (λ t. Lacks t other) came.kept (h.3.lacks (came.same ∙ is)))

  pub both_longer : BothRefuse told faults sure gives limit one other f f' status.TooLong → IsLonger (told f) one MOST_BYTES ⊎ IsLonger (told f) other limit
  both_longer (inl h) = inl h.longer
  both_longer (inr h) = let came = h.2 in inr (subst (λ t. IsLonger t other limit) came.kept h.3.longer)
