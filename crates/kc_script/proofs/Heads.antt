-- The first lines: what they say, and their first fault.
use Rattle.std.proofs.Common.{◌≡◌, ℕ, Bool, true, false, ◌&&◌, not, leb, eqb, List, [], ◌∷◌, ◌++◌, length, Option, Some, None, Result, Ok, refl, sym, ap, subst, ◌∙◌, arith}
use Rattle.std.specs.Prelude.{codes, is_some}
use Rattle.std.specs.Str.{bytes_eq}
use Rattle.std.proofs.lemmas.Bool.{eqb-true}
use Rattle.std.proofs.lemmas.Slice.Eq.{bytes_eq-Decides}
use Rattle.kc_model.specs.declared.footprint.TheConstants.{MOST}
use Rattle.kc_script_bundle.specs.Script.{Names}
use Rattle.kc_script_lines.proofs.Faults.{Tested, then_fault, made_fault, wants_fault, counted_fault, counted_length, positive_fault, positive_value, positive_passes}
use Rattle.kc_script_lines.proofs.Given.{given, bind_ok, ok_is, wants_ok}
use Rattle.kc_script_lines.specs.Tests.{◌>>=◌, wants, found, counted, word_at, positive_to, first_failing, fault_of, count_tests, is_number}
use Rattle.kc_script_lines.specs.Words.{is_numeral, value_on}
use Rattle.kc_script_lines.specs.declared.fault.Why.{Why}
use Rattle.kc_script_lines.specs.declared.fault.Why.TheVariants.{Header, BadNumber, StrayWord, UnknownWord}
use Rattle.kc_script.specs.FirstFault.{is_header, no_kinds}
use Rattle.kc_script.specs.Version.{is_new, knows_limit, version_of}
use Rattle.kc_script.specs.Reading.{ReadingState, no_names, can_limit, limit_line, unknown_line, header_line}
use Rattle.kc_script.specs.Spells.{Line}
use Rattle.kc_script.specs.declared.reader.Version.{Version}
use Rattle.kc_script.specs.declared.reader.Version.TheVariants as version
use Rattle.kc_script_verbs.specs.Fields.{kinds_of}

pub header_fault : (s : ReadingState) (line : Line) → Tested (header_line s line) ((is_header line, Header) ∷ [])
unfolding header_line
header_fault s [] = record { same = refl }
header_fault s (a ∷ []) = record { same = refl }
header_fault s (a ∷ b ∷ []) = record { same = by (bytes_eq a (codes "kcas")) (version_of b) } where
  by : (x : Bool) (v : Option Version) → fault_of (wants x Header >>= λ first. found v Header >>= λ h. Ok (record s { begun = true; version = h })) ≡ first_failing ((x && is_some v, Header) ∷ [])
  by true (Some h) = refl
  by true None = refl
  by false v = refl
header_fault s (a ∷ b ∷ d ∷ more) = record { same = by (eqb (length (a ∷ b ∷ d ∷ more)) 2) refl } where
  by : (t : Bool) → eqb (length (a ∷ b ∷ d ∷ more)) 2 ≡ t → fault_of (wants t Header >>= λ count. wants (bytes_eq a (codes "kcas")) Header >>= λ first. found (version_of b) Header >>= λ h. Ok (record s { begun = true; version = h })) ≡ Some Header
  by true e = absurd (omega (arith, eqb-true _ _ e))
  by false e = refl

names_same : (names : Names) → no_names names ≡ no_kinds (kinds_of names)
names_same [] = refl
names_same (e ∷ names) = refl

abbrev number_tests : List (List ℕ) → List (Bool × Why)
number_tests args = count_tests 1 args ++ (is_number 1 MOST (word_at args 0), BadNumber) ∷ []

-- what a limit's line makes of its number
abbrev with_limit : ReadingState → ℕ → ReadingState
with_limit s n = record s { version = version.Limited n }

-- its number, behind the tests of its place and of the number of its words
abbrev limit_read : ReadingState → List (List ℕ) → Result ReadingState Why
limit_read s args = positive_to MOST (word_at args 0) >>= λ n. given (with_limit s n)

limit_fault : (s : ReadingState) (args : List (List ℕ)) → Tested (limit_line s args) ((can_limit s, StrayWord) ∷ number_tests args)
unfolding limit_line
limit_fault s args =
    then_fault (wants (can_limit s) StrayWord) (λ here. counted 1 args >>= λ one. limit_read s args) ((can_limit s, StrayWord) ∷ []) (number_tests args) (wants_fault _ _)
    (λ here e. then_fault (counted 1 args) (λ one. limit_read s args) (count_tests 1 args) ((is_number 1 MOST (word_at args 0), BadNumber) ∷ []) (counted_fault 1 args)
    (λ one f. made_fault (positive_to MOST (word_at args 0)) (with_limit s) _ (positive_fault MOST (word_at args 0))))

pub unknown_fault : (s : ReadingState) (first : List ℕ) (args : List (List ℕ)) → Tested (unknown_line s first args) ((knows_limit s.version first, UnknownWord) ∷ (not (is_some s.thread) && no_kinds (kinds_of s.objects) && is_new s.version, StrayWord) ∷ number_tests args)
unfolding unknown_line
unknown_fault s first args =
    subst (λ (b : Bool). Tested (unknown_line s first args) ((knows_limit s.version first, UnknownWord) ∷ (not (is_some s.thread) && b && is_new s.version, StrayWord) ∷ number_tests args)) (names_same s.objects)
    (then_fault (wants (knows_limit s.version first) UnknownWord) (λ known. limit_line s args) ((knows_limit s.version first, UnknownWord) ∷ []) ((can_limit s, StrayWord) ∷ number_tests args) (wants_fault _ _) (λ known e. limit_fault s args))

-- where no limit can stand, none is read
pub no_limit : (s t : ReadingState) (first : List ℕ) (args : List (List ℕ)) → can_limit s ≡ false → unknown_line s first args ≡ Ok t → ⊥
unfolding unknown_line limit_line
no_limit s t first args none e =
    let a = bind_ok (wants (knows_limit s.version first) UnknownWord) (λ known. limit_line s args) t e in
    let b = bind_ok (wants (can_limit s) StrayWord) (λ here. counted 1 args >>= λ one. limit_read s args) t a.2 in
    let yes = wants_ok (can_limit s) StrayWord b.0 b.1 in
    cc

-- what was read of a limit's line
record LimitRead (s t : ReadingState) (args : List (List ℕ)) : Type 0 where
  n : ℕ
  one : length args ≡ 1
  number : positive_to MOST (word_at args 0) ≡ Ok n
  is : with_limit s n ≡ t

limit_comes : (s t : ReadingState) (args : List (List ℕ)) → limit_line s args ≡ Ok t → LimitRead s t args
unfolding limit_line
limit_comes s t args e =
    let a = bind_ok (wants (can_limit s) StrayWord) (λ here. counted 1 args >>= λ one. limit_read s args) t e in
    let b = bind_ok (counted 1 args) (λ one. limit_read s args) t a.2 in
    let c = bind_ok (positive_to MOST (word_at args 0)) (λ n. given (with_limit s n)) t b.2 in
    record { n = c.0; one = counted_length 1 args b.0 b.1; number = c.1; is = ok_is _ _ c.2 }

pub unknown_comes : (s t : ReadingState) (first : List ℕ) (args : List (List ℕ)) → unknown_line s first args ≡ Ok t → t ≡ record s { version = version.Limited (value_on 0 (word_at args 0)) }
unfolding unknown_line
unknown_comes s t first args e =
    let a = bind_ok (wants (knows_limit s.version first) UnknownWord) (λ known. limit_line s args) t e in
    let c = limit_comes s t args a.2 in
    sym c.is ∙ ap (with_limit s) (positive_value MOST (word_at args 0) c.n c.number).0

both_true : (a b c : Bool) → (a && b && c) ≡ true → (a ≡ true) × (b ≡ true) × (c ≡ true)
both_true true true true e = (refl, refl, refl)
both_true true true false e = absurd cc
both_true true false c e = absurd cc
both_true false b c e = absurd cc

pub number_parts : (w : List ℕ) → is_number 1 MOST w ≡ true → (is_numeral w ≡ true) × (leb 1 (value_on 0 w) ≡ true) × (leb (value_on 0 w) MOST ≡ true)
number_parts w e = both_true (is_numeral w) (leb 1 (value_on 0 w)) (leb (value_on 0 w) MOST) e

first_left : (a b : Bool) → (a && b) ≡ true → a ≡ true
first_left true b e = refl
first_left false b e = absurd cc

-- a limit's line: its words
pub unknown_is : (s t : ReadingState) (first : List ℕ) (args : List (List ℕ)) → unknown_line s first args ≡ Ok t → (first ≡ codes "limit") × (length args ≡ 1) × (is_number 1 MOST (word_at args 0) ≡ true)
unfolding unknown_line
unknown_is s t first args e =
    let a = bind_ok (wants (knows_limit s.version first) UnknownWord) (λ known. limit_line s args) t e in
    let c = limit_comes s t args a.2 in
    ((bytes_eq-Decides first (codes "limit")).0 (first_left _ _ (wants_ok (knows_limit s.version first) UnknownWord a.0 a.1)), c.one, positive_passes MOST (word_at args 0) c.n c.number)
