-- Which loans come of which places.
use Rattle.std.specs.Prelude.{◌≡◌, ◌<◌, List, length, slice_index_or}
use Rattle.kc_callers.specs.declared.loan.Loan.{Loan}
use Rattle.kc_holder.specs.Lent.{HolderView}

-- the place of this number is the loan's, which alone fills it
abbrev pub IsLoanOf : {X T : Type 0} → List (HolderView T) → Loan X T → Type 0
IsLoanOf {T = T} places loan = (loan.place < length places) × ((d : HolderView T) → loan.taken ≡ (slice_index_or places loan.place d).of)
