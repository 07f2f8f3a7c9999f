-- What the calls that make terms give.
use Rattle.std.specs.Prelude.{◌≡◌, ◌≤◌, ◌<◌, nat_le, if◌then◌else◌, length, Result, Ok, Err}
use Rattle.std.specs.Global.{Vec}
use Rattle.kc_term.specs.Tree.{Tree, seq, first, trees, all_operations, nesting}
use Rattle.kc_term.specs.declared.errors.TermError.{TermError}
use Rattle.kc_term.specs.declared.errors.TermError.TheVariants.{TooDeep, NoMemory}
use Rattle.kc_term.specs.declared.errors.TooMany.{TooMany}
use Rattle.kc_term.specs.declared.term.TheConstants.{MOST_NESTED, MOST_OPERATIONS}

-- a sequence, or its parts where they have too many operations
abbrev pub seq_made : {O : Type 0} → Vec (Tree O) → Result (Tree O) (TooMany O)
seq_made parts = if nat_le (length (all_operations (trees parts.items))) MOST_OPERATIONS then Ok (seq (trees parts.items)) else Err (record { parts = parts })

-- alternatives, where they are not nested too deep; else, and where no memory was found, the two terms
abbrev pub MakesFirst : {O : Type 0} → Tree O → Tree O → Result (Tree O) (TermError O) → Type 0
MakesFirst a b (Ok t) = (t ≡ first a b) × (nesting t ≤ MOST_NESTED)
MakesFirst a b (Err (TooDeep c d)) = (c ≡ a) × (d ≡ b) × (MOST_NESTED < nesting (first a b))
MakesFirst a b (Err (NoMemory c d)) = (c ≡ a) × (d ≡ b) × (nesting (first a b) ≤ MOST_NESTED)
