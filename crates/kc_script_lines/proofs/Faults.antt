-- The first test that fails, and the chain of tests that stops there.
use Rattle.std.proofs.Common.{◌≡◌, ℕ, ◌≤◌, Bool, true, false, ◌&&◌, cond, leb, ltb, List, [], ◌∷◌, ◌++◌, length, Some, None, Result, Ok, Err, refl, sym, ap, ◌∙◌, arith}
use Rattle.std.proofs.lemmas.Bool.{le-leb, leb-true}
use Rattle.std.proofs.lemmas.Bool.Decides.{nat_tests}
use Rattle.kc_script_lines.proofs.Given.{given, bind_ok, ok_is, wants_ok}
use Rattle.kc_script_lines.specs.Tests.{◌>>=◌, wants, found, counted, number_to, positive_to, first_failing, fault_of, count_tests, is_number}
use Rattle.kc_script_lines.specs.Words.{is_numeral, value_on, number}
use Rattle.kc_script_lines.specs.declared.fault.Why.{Why}
use Rattle.kc_script_lines.specs.declared.fault.Why.TheVariants.{BadNumber, MissingWord, ExtraWord}

-- tests that pass, before others
passing : (tests rest : List (Bool × Why)) → first_failing tests ≡ None → first_failing (tests ++ rest) ≡ first_failing rest
passing [] rest e = refl
passing ((true, why) ∷ tests) rest e = passing tests rest e
passing ((false, why) ∷ tests) rest e = absurd cc

-- a test that fails, before others
failing : (tests rest : List (Bool × Why)) (why : Why) → first_failing tests ≡ Some why → first_failing (tests ++ rest) ≡ Some why
failing [] rest why e = absurd cc
failing ((true, w) ∷ tests) rest why e = failing tests rest why e
failing ((false, w) ∷ tests) rest why e = e

-- what was wrong with something is the first of these tests that fails
pub record Tested {A : Type 0} (r : Result A Why) (tests : List (Bool × Why)) : Type 0 where
  pub same : fault_of r ≡ first_failing tests

-- a step with its tests, and what follows it
pub then_fault : {A B : Type 0} (r : Result A Why) (f : A → Result B Why) (tests rest : List (Bool × Why)) → Tested r tests → ((x : A) → r ≡ Ok x → Tested (f x) rest) → Tested (r >>= f) (tests ++ rest)
then_fault (Ok x) f tests rest e more = record { same = (more x refl).same ∙ sym (passing tests rest (sym e.same)) }
then_fault (Err why) f tests rest e more = record { same = sym (failing tests rest why (sym e.same)) }

-- what is made of a value has no test
pub made_fault : {A B : Type 0} (r : Result A Why) (make : A → B) (tests : List (Bool × Why)) → Tested r tests → Tested (r >>= λ x. Ok (make x)) tests
made_fault (Ok x) make tests e = record { same = e.same }
made_fault (Err why) make tests e = record { same = e.same }

pub wants_fault : (test : Bool) (why : Why) → Tested (wants test why) ((test, why) ∷ [])
wants_fault true why = record { same = refl }
wants_fault false why = record { same = refl }

-- the number of words
pub counted_fault : (count : ℕ) (args : List (List ℕ)) → Tested (counted count args) (count_tests count args)
counted_fault count args = record { same = by (length args) } where
  by : (n : ℕ) → fault_of (cond (ltb n count) (Err MissingWord) (cond (ltb count n) (Err ExtraWord) (given (tt {0})))) ≡ first_failing ((leb count n, MissingWord) ∷ (leb n count, ExtraWord) ∷ [])
  by n = grind (arith, nat_tests)

-- a number
pub number_fault : (most : ℕ) (word : List ℕ) → Tested (number_to most word) ((is_number 0 most word, BadNumber) ∷ [])
unfolding number_to number
number_fault most word = record { same = by (is_numeral word) (leb 0 (value_on 0 word)) (leb (value_on 0 word) most) (le-leb 0 (value_on 0 word) (omega arith)) } where
  by : (a some b : Bool) → some ≡ true → fault_of (found (cond (a && b) (Some (value_on 0 word)) None) BadNumber) ≡ first_failing ((a && some && b, BadNumber) ∷ [])
  by true true true h = refl
  by true true false h = refl
  by false some b h = refl
  by true false b h = absurd cc

-- a number from 1 on
pub positive_fault : (most : ℕ) (word : List ℕ) → Tested (positive_to most word) ((is_number 1 most word, BadNumber) ∷ [])
unfolding positive_to number_to number
positive_fault most word = record { same = by (is_numeral word) (leb 1 (value_on 0 word)) (leb (value_on 0 word) most) refl } where
  by : (a some b : Bool) → leb 1 (value_on 0 word) ≡ some → fault_of (found (cond (a && b) (Some (value_on 0 word)) None) BadNumber >>= λ n. wants (leb 1 n) BadNumber >>= λ some. given n) ≡ first_failing ((a && some && b, BadNumber) ∷ [])
  by true true true e = rw e refl
  by true false true e = rw e refl
  by true true false e = refl
  by true false false e = refl
  by false some b e = refl

pub counted_length : (count : ℕ) (args : List (List ℕ)) (x : Unit {0}) → counted count args ≡ Ok x → length args ≡ count
counted_length count args x = by (length args) where
  by : (n : ℕ) → cond (ltb n count) (Err MissingWord) (cond (ltb count n) (Err ExtraWord) (given (tt {0}))) ≡ Ok x → n ≡ count
  by n e = grind (arith, nat_tests)

-- a number is its word's
pub number_value : (most : ℕ) (word : List ℕ) (n : ℕ) → number_to most word ≡ Ok n → (n ≡ value_on 0 word) × (is_numeral word ≡ true) × (leb (value_on 0 word) most ≡ true)
unfolding number_to number
number_value most word n e = by (is_numeral word) (leb (value_on 0 word) most) e where
  by : (a b : Bool) → found (cond (a && b) (Some (value_on 0 word)) None) BadNumber ≡ Ok n → (n ≡ value_on 0 word) × (a ≡ true) × (b ≡ true)
  by true true e = (cc, refl, refl)
  by true false e = absurd cc
  by false b e = absurd cc

pub positive_value : (most : ℕ) (word : List ℕ) (n : ℕ) → positive_to most word ≡ Ok n → (n ≡ value_on 0 word) × (1 ≤ n) × (n ≤ most)
unfolding positive_to
positive_value most word n e =
    let last = λ (m : ℕ). wants (leb 1 m) BadNumber >>= λ some. given m in
    let a = bind_ok (number_to most word) last n e in
    let b = bind_ok (wants (leb 1 a.0) BadNumber) (λ some. given a.0) n a.2 in
    let same : a.0 ≡ n = ok_is _ _ b.2 in
    let v = number_value most word a.0 a.1 in
    (sym same ∙ v.0, omega (arith, same, leb-true 1 a.0 (wants_ok (leb 1 a.0) BadNumber b.0 b.1)), omega (arith, same, v.0, leb-true (value_on 0 word) most v.2))

passes : (test : Bool) (why : Why) → first_failing ((test, why) ∷ []) ≡ None → test ≡ true
passes true why e = refl
passes false why e = absurd cc

pub positive_passes : (most : ℕ) (word : List ℕ) (n : ℕ) → positive_to most word ≡ Ok n → is_number 1 most word ≡ true
positive_passes most word n e = passes (is_number 1 most word) BadNumber (sym (positive_fault most word).same ∙ ap fault_of e)
