-- Reading lines one after the other, as a loop does.
use Rattle.std.proofs.Common.{◌≡◌, ℕ, ◌+◌, ◌<◌, List, [], ◌∷◌, length, Option, Some, None, Result, Ok, sym, ap, ◌∙◌, arith}
use Rattle.std.specs.Option.{IfSome, IfNone}
use Rattle.kc_script_lines.specs.Words.{words, lines}
use Rattle.kc_script_lines.specs.declared.fault.ScriptError.{ScriptError}
use Rattle.kc_script_lines.specs.declared.fault.ScriptError.TheVariants as error
use Rattle.kc_script.specs.FirstFault.{Fault}
use Rattle.kc_script.specs.Reading.{ReadingState, any_line, reading_ended, nearest_line, atomics_next, at_line, then_read, read_from, ReadingStops}

-- the lines of what is left, where something is
abbrev pub lines_left : {X : Type 0} → (X → List ℕ) → Option X → List (List ℕ)
lines_left seen None = []
lines_left seen (Some x) = lines (seen x)

-- at least as many as these lines
abbrev pub most_left : {X : Type 0} → (X → List ℕ) → Option X → ℕ
most_left seen None = 0
most_left seen (Some x) = length (seen x) + 1

-- a line was cut off
pub cut : {X : Type 0} (seen : X → List ℕ) (bytes first : List ℕ) (rest : Option X) → IfSome rest (λ x. lines bytes ≡ first ∷ lines (seen x)) → IfNone rest (lines bytes ≡ first ∷ []) → lines bytes ≡ first ∷ lines_left seen rest
cut seen bytes first None more last = last
cut seen bytes first (Some x) more last = more

pub fewer : {X : Type 0} (seen : X → List ℕ) (bytes : List ℕ) (rest : Option X) → IfSome rest (λ x. length (seen x) < length bytes) → most_left seen rest < length bytes + 1
fewer seen bytes None h = omega arith
fewer seen bytes (Some x) h = omega (arith, h)

module _ (bytes first : List ℕ) (rest line : List (List ℕ)) (n : ℕ) (s : ReadingState) (atomics : List ℕ) (total : Result ReadingState Fault) (is_cut : lines bytes ≡ first ∷ rest) (is_split : line ≡ words first) (so_far : read_from s atomics n (lines bytes) ≡ total) where
  abbrev later : ReadingState → Result ReadingState Fault
  later next = read_from next (atomics_next s.begun atomics n line) (n + 1) rest

  -- the first line, and the rest
  here : total ≡ then_read (at_line (nearest_line atomics) n (any_line s line)) later
  unfolding read_from
  here = sym so_far ∙ ap (read_from s atomics n) is_cut ∙ ap (λ (ws : List (List ℕ)). then_read (at_line (nearest_line atomics) n (any_line s ws)) (λ next. read_from next (atomics_next s.begun atomics n ws) (n + 1) rest)) (sym is_split)

  -- a line was read, and the rest is still to be read
  pub goes_on : (next : ReadingState) → at_line (nearest_line atomics) n (any_line s line) ≡ Ok next → later next ≡ total
  goes_on next e = sym (here ∙ ap (λ (r : Result ReadingState Fault). then_read r later) e)

  -- what is wrong with a line is what is wrong with all
  pub ends : (e : ScriptError) → ReadingStops e (at_line (nearest_line atomics) n (any_line s line)) → ReadingStops e total
  ends error.NoMemory h = tt
  ends (error.Fault at why) h = here ∙ ap (λ (r : Result ReadingState Fault). then_read r later) h

-- no line is left
pub is_done : (n : ℕ) (s : ReadingState) (atomics : List ℕ) (total : Result ReadingState Fault) → read_from s atomics n [] ≡ total → total ≡ at_line (nearest_line atomics) 1 (reading_ended s)
unfolding read_from
is_done n s atomics total so_far = sym so_far
