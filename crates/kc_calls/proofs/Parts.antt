-- Alternatives as parts of a list of operations.
use Rattle.std.proofs.Common.{◌≡◌, ◌≢◌, ℕ, zero, suc, ◌≤◌, max, List, ◌++◌, length, take, drop, refl, sym, ap, ap₂, ◌∙◌, subst, arith, length-append}
use Rattle.std.specs.Prelude.{Result, if◌then◌else◌}
use Rattle.std.proofs.Common.{eq-eqb, ne_eqb}
use Rattle.std.proofs.lemmas.List.{take-append-drop}
use Rattle.kc_calls.specs.Cut.{cut}
use Rattle.kc_calls.specs.Meaning.{said_end, row_meaning, alternatives_meaning, calls_end, CallsAreFit}
use Rattle.kc_calls.specs.declared.operation.KcasOp.{KcasOp}
use Rattle.kc_model.specs.declared.reply.Reply.{Reply}
use Rattle.kc_term.proofs.Parts.{each-left, each-right, end-append}
use Rattle.kc_xt.proofs.Composed.{obeys_wider}
use Rattle.kc_xt.specs.Law.{Obeys}
use Rattle.kc_xt.specs.Log.{Log}
use Rattle.kc_xt.specs.Meaning.{Meaning, first_meaning}
use Rattle.kc_xt.specs.Peeks.{Gives}
use Rattle.kc_xt.specs.declared.stop.Stop.{Stop}

-- an operation list that is parted where its first alternative ends
pub record IsParted (os : List KcasOp) (one : ℕ) (first behind : List KcasOp) : Type 0 where
  pub at : one ≡ cut os
  pub more : one ≢ length os
  pub front : first ≡ take one os
  pub back : behind ≡ drop one os

pub is_parted : {os : List KcasOp} {one : ℕ} {first behind : List KcasOp} → one ≡ cut os → one ≢ length os → first ≡ take one os → behind ≡ drop one os → IsParted os one first behind
is_parted at more front back = record { at = at; more = more; front = front; back = back }

module _ (os : List KcasOp) (one : ℕ) (first behind : List KcasOp) (p : IsParted os one first behind) where
  whole : first ++ behind ≡ os
  whole = ap₂ (λ xs ys. xs ++ ys) p.front p.back ∙ take-append-drop one os

  pub first_fits : CallsAreFit os → CallsAreFit first
  first_fits h = let g = subst CallsAreFit (sym whole) h in record { few = omega (arith, g.few, length-append first behind); each = each-left _ first behind g.each }

  pub behind_fits : CallsAreFit os → CallsAreFit behind
  behind_fits h = let g = subst CallsAreFit (sym whole) h in record { few = omega (arith, g.few, length-append first behind); each = each-right _ first behind g.each }

  pub ends : calls_end os ≡ max (calls_end first) (calls_end behind)
  ends = ap calls_end (sym whole) ∙ end-append said_end first behind

  -- the first, and what those behind mean
  pub parted_meaning : (n : ℕ) (w : Meaning) → w ≡ alternatives_meaning n behind → first_meaning (row_meaning first) w ≡ alternatives_meaning (suc n) os
  unfolding alternatives_meaning
  parted_meaning n w e =
      ap₂ (λ xs v. first_meaning (row_meaning xs) v) (p.front ∙ ap (λ k. take k os) p.at) (e ∙ ap (λ ys. alternatives_meaning n ys) (p.back ∙ ap (λ k. drop k os) p.at))
      ∙ ap (λ t. if t then row_meaning os else first_meaning (row_meaning (take (cut os) os)) (alternatives_meaning n (drop (cut os) os))) (sym (ne_eqb _ _ (λ f. p.more (p.at ∙ f))))

-- it is one alternative
pub alone_meaning : (n : ℕ) (os : List KcasOp) (one : ℕ) → one ≡ cut os → one ≡ length os → row_meaning os ≡ alternatives_meaning n os
unfolding alternatives_meaning
alone_meaning zero os one e f = refl
alone_meaning (suc n) os one e f = ap (λ t. if t then row_meaning os else first_meaning (row_meaning (take (cut os) os)) (alternatives_meaning n (drop (cut os) os))) (sym (eq-eqb _ _ (sym e ∙ f)))

-- what obeys a meaning obeys another that is the same, below a greater end
pub obeys_as : {P : Type 0} {gives : Gives P} (m w : Meaning) (a b : ℕ) (x : Log P) (r : Result Reply Stop) (y : Log P) → m ≡ w → a ≤ b → Obeys gives m a x r y → Obeys gives w b x r y
obeys_as {P} {gives} m w a b x r y e le h = let Q : Meaning → Type 0 = λ v. Obeys gives v b x r y in subst Q e (obeys_wider a b le _ _ _ _ h)

-- where no more are told apart, what is left is one
pub last_meaning : (os : List KcasOp) → row_meaning os ≡ alternatives_meaning 0 os
unfolding alternatives_meaning
last_meaning os = refl
