-- What a chain of tests that passed has given.
use Rattle.std.proofs.Common.{◌≡◌, ℕ, suc, Bool, true, false, cond, ltb, List, [], ◌∷◌, length, Option, Some, None, Result, Ok, Err, refl, ap, arith}
use Rattle.std.proofs.lemmas.Bool.Decides.{nat_tests}
use Rattle.kc_script_lines.specs.Tests.{◌>>=◌, wants, found, counted}
use Rattle.kc_script_lines.specs.declared.fault.Why.{Why}
use Rattle.kc_script_lines.specs.declared.fault.Why.TheVariants.{MissingWord, ExtraWord}

-- what a step gave, and what its continuation gave
pub bind_ok : {A B : Type 0} (r : Result A Why) (f : A → Result B Why) (y : B) → (r >>= f) ≡ Ok y → (x : A) × (r ≡ Ok x) × (f x ≡ Ok y)
bind_ok (Ok x) f y e = (x, refl, e)
bind_ok (Err why) f y e = absurd cc

-- a test that passed
pub wants_ok : (test : Bool) (why : Why) (x : Unit {0}) → wants test why ≡ Ok x → test ≡ true
wants_ok true why x e = refl
wants_ok false why x e = absurd cc

-- a value as the outcome of a test
abbrev pub given : {A : Type 0} → A → Result A Why
given x = Ok x

-- one value was given
pub ok_is : {A : Type 0} (x y : A) → given x ≡ given y → x ≡ y
ok_is x y e = cc

-- a value that was found
pub found_ok : {A : Type 0} (o : Option A) (why : Why) (x : A) → found o why ≡ Ok x → o ≡ Some x
found_ok None why x e = absurd cc
found_ok (Some y) why x e = let same : y ≡ x = cc in ap (λ z. Some z) same

-- a value under a test
pub when_some : {A : Type 0} (b : Bool) (r : Option A) (x : A) → cond b r None ≡ Some x → r ≡ Some x
when_some true r x e = e
when_some false r x e = absurd cc

-- no word, where none is wanted
pub none_counted : (args : List (List ℕ)) (x : Unit {0}) → counted 0 args ≡ Ok x → args ≡ []
none_counted [] x e = refl
none_counted (arg ∷ args) x e = absurd (one (length args) e) where
  one : (n : ℕ) → cond (ltb (suc n) 0) (Err MissingWord) (cond (ltb 0 (suc n)) (Err ExtraWord) (given tt)) ≡ Ok x → ⊥
  one n e = grind (arith, nat_tests)
