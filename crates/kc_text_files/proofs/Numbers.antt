-- The number on a line, and the tests of the line.
use Rattle.std.proofs.Common.{◌≡◌, ℕ, ◌+◌, true, List, leb, ltb, Result, Ok, Err, None, Some, sym, ap, ◌∙◌, arith}
use Rattle.std.specs.Prelude.{IfOk, IfErr}
use Rattle.std.proofs.lemmas.Bool.Decides.{nat_tests}
use Rattle.kc_script_lines.proofs.Faults.{positive_fault, positive_value}
use Rattle.kc_script_lines.specs.Tests.{fault_of, first_failing, positive_to}
use Rattle.kc_script_lines.specs.Words.{value_on}
use Rattle.kc_script_lines.specs.declared.fault.Why.{Why}
use Rattle.kc_text_files.specs.Files.{pick_tests}
use Rattle.kc_text_files.specs.declared.TheConstants.{MOST_PICKS}

module _ (texts index : ℕ) (row : List ℕ) where
  pub value_is : (r : Result ℕ Why) → r ≡ positive_to texts row → IfOk r (λ k. k ≡ value_on 0 row)
  value_is (Ok k) e = (positive_value texts row k (sym e)).0
  value_is (Err w) e = tt

  fits : ltb index MOST_PICKS ≡ true → leb (index + 1) MOST_PICKS ≡ true
  fits h = grind (arith, nat_tests, h)

  -- of a line that isn't one too many, what is wrong is what is wrong with its number
  tested : (r : Result ℕ Why) → r ≡ positive_to texts row → ltb index MOST_PICKS ≡ true → first_failing (pick_tests texts (index + 1) row) ≡ fault_of r
  tested r e h = rw (fits h) (sym (positive_fault texts row).same ∙ ap fault_of (sym e))

  pub is_right : (r : Result ℕ Why) → r ≡ positive_to texts row → ltb index MOST_PICKS ≡ true → IfOk r (λ k. first_failing (pick_tests texts (index + 1) row) ≡ None)
  is_right (Ok k) e h = tested (Ok k) e h
  is_right (Err w) e h = tt

  pub is_wrong : (r : Result ℕ Why) → r ≡ positive_to texts row → ltb index MOST_PICKS ≡ true → IfErr r (λ w. first_failing (pick_tests texts (index + 1) row) ≡ Some w)
  is_wrong (Ok k) e h = tt
  is_wrong (Err w) e h = tested (Err w) e h
