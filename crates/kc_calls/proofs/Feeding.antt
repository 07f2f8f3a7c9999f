-- Operations that are fed: they are operations, with the same end.
use Rattle.std.proofs.Common.{◌≡◌, ℕ, ◌≤◌, ◌<◌, Bool, true, false, List, [], ◌∷◌, length, Option, Some, None, refl, ap, ◌∙◌, subst, arith, slice_get, get_or}
use Rattle.std.proofs.lemmas.Bool.Decides.{nat_tests}
use Rattle.std.specs.Prelude.{if◌then◌else◌, Result}
use Rattle.std.proofs.lemmas.List.{get_or_default}
use Rattle.std.specs.Option.{option_and_then, option_map}
use Rattle.kc_calls.proofs.Ends.{call_of_same, end_of_same, same_with_a, same_with_b}
use Rattle.kc_calls.proofs.Fits.{fits_below, one_said}
use Rattle.kc_calls.specs.Fed.{MayBeFed, fed, feeds_a, feeds_b, number_replied, with_a_fed, with_b_fed}
use Rattle.kc_calls.specs.Meaning.{IsOperation, SaidIsFit, call_end, meaning_fed, said_end, said_meaning}
use Rattle.kc_calls.specs.Said.{call_said}
use Rattle.kc_calls.specs.declared.operation.KcasOp.{KcasOp}
use Rattle.kc_model.specs.declared.plain_store.TheConstants.{MOST_LOCATIONS}
use Rattle.kc_model.specs.declared.reply.Item.{Item}
use Rattle.kc_model.specs.declared.reply.Reply.TheVariants as reply
use Rattle.kc_term.proofs.Ones.{means_one}
use Rattle.kc_model.specs.declared.reply.Reply.{Reply}
use Rattle.kc_xt.proofs.Composed.{obeys_wider}
use Rattle.kc_xt.specs.Law.{Obeys}
use Rattle.kc_xt.specs.Log.{Log}
use Rattle.kc_xt.specs.Peeks.{Gives}
use Rattle.kc_xt.specs.Program.{replies}
use Rattle.kc_xt.specs.declared.stop.Stop.{Stop}
use Rattle.kc_xt.specs.Structure.{RepliesOneItem}

abbrev SameEnd : KcasOp → KcasOp → Type 0
SameEnd p o = option_map call_end (call_said p) ≡ option_map call_end (call_said o)

module _ (items : List Item) where
  a_same : (o p : KcasOp) → MayBeFed o → with_a_fed items o ≡ Some p → SameEnd p o
  a_same o p may e = by (feeds_a o.mark) refl (number_replied items o.a) e
    where
      by : (t : Bool) → feeds_a o.mark ≡ t → (n : Option ℕ) → (if t then option_map (λ n. record o { a = n }) n else Some o) ≡ Some p → SameEnd p o
      by true f (Some n) g = let is : record o { a = n } ≡ p = cc in subst (λ q. SameEnd q o) is (same_with_a o n (may f))
      by true f None g = absurd (cc)
      by false f n g = let is : o ≡ p = cc in subst (λ q. SameEnd q o) is refl

  b_same : (o p : KcasOp) → with_b_fed items o ≡ Some p → SameEnd p o
  b_same o p e = by (feeds_b o.mark) (number_replied items o.b) e
    where
      by : (t : Bool) (n : Option ℕ) → (if t then option_map (λ n. record o { b = n }) n else Some o) ≡ Some p → SameEnd p o
      by true (Some n) g = let is : record o { b = n } ≡ p = cc in subst (λ q. SameEnd q o) is (same_with_b o n)
      by true None g = absurd (cc)
      by false n g = let is : o ≡ p = cc in subst (λ q. SameEnd q o) is refl

  fed_same : (o p : KcasOp) → MayBeFed o → fed items o ≡ Some p → SameEnd p o
  fed_same o p may e = by (with_a_fed items o) refl e
    where
      by : (q : Option KcasOp) → with_a_fed items o ≡ q → option_and_then (with_b_fed items) q ≡ Some p → SameEnd p o
      by (Some q) f g = b_same q p g ∙ a_same o q may f
      by None f g = absurd (cc)

  pub fed_end : (o p : KcasOp) → IsOperation MOST_LOCATIONS o → fed items o ≡ Some p → said_end p ≡ said_end o
  fed_end o p is e = end_of_same (call_said p) (call_said o) (fed_same o p is.1 e)

  pub fed_fits : (o p : KcasOp) → IsOperation MOST_LOCATIONS o → fed items o ≡ Some p → SaidIsFit p
  fed_fits o p (mark, may, c, said, below) e =
      let d = call_of_same (call_said p) (call_said o) (fed_same o p may e) c said in
      fits_below p d.0 d.1 (omega (arith, d.2, below))

  -- what is fed nothing is itself
  pub fed_nothing : (o : KcasOp) → o.mark ≤ 1 → fed items o ≡ Some o
  fed_nothing o le = by (feeds_a o.mark) (feeds_b o.mark) refl refl
    where
      no_a : feeds_a o.mark ≡ true → ⊥
      no_a e = grind (arith, nat_tests)

      no_b : feeds_b o.mark ≡ true → ⊥
      no_b e = grind (arith, nat_tests)

      by : (t u : Bool) → feeds_a o.mark ≡ t → feeds_b o.mark ≡ u → fed items o ≡ Some o
      by true u f g = absurd (no_a f)
      by false true f g = absurd (no_b g)
      by false false f g = ap (option_and_then (with_b_fed items)) (ap (λ t. if t then option_map (λ n. record o { a = n }) (number_replied items o.a) else Some o) f) ∙ ap (λ t. if t then option_map (λ n. record o { b = n }) (number_replied items o.b) else Some o) g

-- what was run is what it is fed
pub is_fed_so : {P : Type 0} {gives : Gives P} (items : List Item) (o p : KcasOp) (x : Log P) (r : Result Reply Stop) (z : Log P) → IsOperation MOST_LOCATIONS o → fed items o ≡ Some p → Obeys gives (said_meaning p) (said_end p) x r z → Obeys gives (meaning_fed (fed items o)) (said_end o) x r z
is_fed_so {P} {gives} items o p x r z is e h = rw e (obeys_wider (said_end p) (said_end o) (omega (arith, fed_end items o p is e)) _ _ _ _ h)

-- each replies one item, also where it does nothing
pub fed_one : (x : Option KcasOp) → RepliesOneItem (meaning_fed x)
fed_one (Some o) = one_said (call_said o)
fed_one None = means_one (replies reply.Empty) tt

-- the one item of a list
pub one_pushed : {X : Type 0} (xs : List X) (x : X) → length xs ≤ 1 → slice_get xs 0 ≡ Some x → xs ≡ x ∷ []
one_pushed [] x le e = absurd (cc)
one_pushed (y ∷ []) x le e = let is : y ≡ x = cc in ap (λ z. z ∷ []) is
one_pushed (y ∷ z ∷ ys) x le e = absurd (omega arith)

pub none_pushed : {X : Type 0} (xs : List X) → slice_get xs 0 ≡ None → xs ≡ []
none_pushed [] e = refl
none_pushed (y ∷ ys) e = absurd (cc)

-- the operation at a place
abbrev pub operation_at : List KcasOp → ℕ → KcasOp
operation_at os i = get_or os i (record { verb = 0; mark = 0; on = record { kind = 0; base = 0; capacity = 0; buckets = 0 }; a = 0; b = 0 })

pub operation_is : (os : List KcasOp) (i : ℕ) → i < length os → operation_at os i ≡ get_or os i (operation_at os i)
operation_is os i lt = get_or_default os i _ (operation_at os i) lt
