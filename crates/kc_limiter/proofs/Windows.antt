-- In the window of each number no client is given more than it may have.
use Rattle.std.proofs.Common.{◌≡◌, ◌⊎◌, ℕ, suc, ◌+◌, ◌<◌, ◌≤◌, Bool, true, false, cond, List, [], ◌∷◌, ◌++◌, inl, inr, refl, sym, ◌∙◌, arith}
use Rattle.std.specs.Prelude.{◌==◌, ◌&&◌, nat_lt}
use Rattle.std.proofs.lemmas.Bool.Decides.{nat_tests}
use Rattle.std.proofs.lemmas.List.{append_assoc}
use borrow.Author.Tests.{eqb-false}
use Rattle.kc_keep.proofs.Lasting.{lasting, one_more}
use Rattle.kc_keep.specs.Keeping.{HoldsThroughout}
use Rattle.kc_keep.specs.Steps.{LastsThroughout, StepsThroughout}
use Rattle.kc_limiter.specs.Limits.{CountsGo, HasCounts, permits_cell, given_in, given_now, gives_in, seen_cell}
use Rattle.kc_limiter.specs.declared.limiter.Limiter.{Limiter}
use Rattle.kc_limiter.specs.declared.limiter.TheConstants.{CLIENTS, PERMITS}
use Rattle.kc_model.specs.Legal.{IsLegal}
use Rattle.kc_model.specs.Store.{Store, after}
use Rattle.kc_model.specs.declared.footprint.Entry.{Entry}
use Rattle.kc_xt.specs.Meaning.{values}

-- one permit more is one more, and none is none
gives_at_most : (a b : ℕ) → (b ≡ a) ⊎ (b ≡ suc a) → cond (nat_lt a b) 1 0 + a ≤ b
gives_at_most a b (inl e) = let f : nat_lt a b ≡ false = grind (arith, nat_tests, e) in rw f (omega (arith, e))
gives_at_most a b (inr e) = let f : nat_lt a b ≡ true = grind (arith, nat_tests, e) in rw f (omega (arith, e))

at_most : (t : Bool) (k : ℕ) → k ≤ PERMITS → cond t k 0 ≤ PERMITS
at_most true k le = le
at_most false k le = omega arith

no_more : (t : Bool) (n b : ℕ) → n + cond t b 0 ≤ PERMITS → n ≤ PERMITS
no_more true n b le = omega (arith, le)
no_more false n b le = omega (arith, le)

-- one entry before others, by the number of the window before it and behind it: behind a window no permit is given in it
goes_on : (p q : Bool) (at next number n a b : ℕ) → (at == number) ≡ p → (next == number) ≡ q → (next ≡ at) ⊎ (next ≡ suc at) → (next ≡ at → (b ≡ a) ⊎ (b ≡ suc a)) → a ≤ PERMITS → (number < next → n ≡ 0) → n + cond q b 0 ≤ PERMITS → (number < at → cond (p && q && nat_lt a b) 1 0 + n ≡ 0) × ((cond (p && q && nat_lt a b) 1 0 + n) + cond p a 0 ≤ PERMITS)
goes_on true true at next number n a b is isnt turned given top over most =
    let here : at ≡ number = grind (arith, nat_tests, is) in
    let there : next ≡ number = grind (arith, nat_tests, isnt) in
    let more = gives_at_most a b (given (there ∙ sym here)) in
    (λ less. absurd (omega (arith, here, less)), omega (arith, more, most))
goes_on true false at next number n a b is isnt turned given top over most =
    let here : at ≡ number = grind (arith, nat_tests, is) in
    let none : n ≡ 0 = by_turn turned in
    (λ less. absurd (omega (arith, here, less)), omega (arith, none, top))
  where
    by_turn : (next ≡ at) ⊎ (next ≡ suc at) → n ≡ 0
    by_turn (inl same) = absurd (let here : at ≡ number = grind (arith, nat_tests, is) in eqb-false _ _ isnt (same ∙ here))
    by_turn (inr up) = let here : at ≡ number = grind (arith, nat_tests, is) in over (omega (arith, up, here))
goes_on false q at next number n a b is isnt turned given top over most =
    let all = no_more q n b most in
    (λ less. let none = over (by_turn turned less) in omega (arith, none), omega (arith, all))
  where
    by_turn : (next ≡ at) ⊎ (next ≡ suc at) → number < at → number < next
    by_turn (inl same) less = omega (arith, same, less)
    by_turn (inr up) less = omega (arith, up, less)

module _ (l : Limiter) (s e : Store) (es : List Entry) (counts : HoldsThroughout (HasCounts l) s es) (goes : StepsThroughout (CountsGo l) s es) where
  pub rises : LastsThroughout (λ m w. m l.window.0 ≤ w l.window.0) s es
  rises = lasting (CountsGo l) (λ m w. m l.window.0 ≤ w l.window.0) (λ m w go. by_turn (m l.window.0) (w l.window.0) go.turned) (λ m. omega arith) (λ m w x one two. omega (arith, one, two)) s es goes
    where
      by_turn : (at next : ℕ) → (next ≡ at) ⊎ (next ≡ suc at) → at ≤ next
      by_turn at next (inl same) = omega (arith, same)
      by_turn at next (inr up) = omega (arith, up)

  module _ (window client : ℕ) (lt : client < CLIENTS) where
    top : (before behind : List Entry) (t : Store) → es ≡ before ++ behind → IsLegal s before t → given_now l (values t) client ≤ PERMITS
    top before behind t is front = at_most (values t (seen_cell l client) == values t l.window.0) (values t (permits_cell l client)) ((counts before behind t is front).counts client lt)

    -- what was given before, in this window, and is given by these entries
    adds_up : (before rest : List Entry) (t : Store) → es ≡ before ++ rest → IsLegal s before t → IsLegal t rest e → (window < values t l.window.0 → given_in l window client t rest ≡ 0) × (given_in l window client t rest + cond (values t l.window.0 == window) (given_now l (values t) client) 0 ≤ PERMITS)
    adds_up before [] t is front rest = let most = at_most (values t l.window.0 == window) (given_now l (values t) client) (top before [] t is front) in (λ over. refl, omega (arith, most))
    adds_up before (x ∷ xs) t is front rest =
        let u : Store = after x.footprint t in
        let step = goes before xs x t is front in
        let more = adds_up (before ++ x ∷ []) xs (after x.footprint t) (is ∙ sym (append_assoc before (x ∷ []) xs)) (one_more before x s t front rest.0) rest.1 in
        goes_on _ _ (values t l.window.0) (values (after x.footprint t) l.window.0) window (given_in l window client (after x.footprint t) xs) (given_now l (values t) client) (given_now l (values (after x.footprint t)) client) refl refl step.turned (λ same. step.given same client lt) (top before (x ∷ xs) t is front) more.0 more.1

    pub limited : IsLegal s es e → given_in l window client s es ≤ PERMITS
    limited legal = no_more (values s l.window.0 == window) (given_in l window client s es) (given_now l (values s) client) (adds_up [] es s refl refl legal).1
