-- Numbers of lines make no difference to what is read.
use Rattle.std.proofs.Common.{◌≡◌, ℕ, ◌+◌, Bool, true, false, not, List, [], ◌∷◌, Result, Ok, Err, refl, sym, ap, subst, ◌∙◌}
use Rattle.kc_script.specs.Blocks.{in_block}
use Rattle.kc_script.specs.FirstFault.{Fault}
use Rattle.kc_script.specs.Reading.{ReadingState, any_line, all_lines, no_block, reading_ended, at_line, then_read, nearest_line, atomics_next, read_from, part_read}
use Rattle.kc_script_lines.proofs.Given.{given, bind_ok, wants_ok, ok_is}
use Rattle.kc_script_lines.specs.Tests.{◌>>=◌, wants}
use Rattle.kc_script_lines.specs.Words.{lines, words}
use Rattle.kc_script_lines.specs.declared.fault.Why.{Why}
use Rattle.kc_script_lines.specs.declared.fault.Why.TheVariants.{Header, UnclosedBlock}

-- what was read, and what followed
pub then_ok : {A B E : Type 0} (r : Result A E) (f : A → Result B E) (y : B) → then_read r f ≡ Ok y → (x : A) × (r ≡ Ok x) × (f x ≡ Ok y)
then_ok (Ok x) f y e = (x, refl, e)
then_ok (Err fault) f y e = absurd cc

-- what was read, and what was made of it
pub then_made : {A B E : Type 0} (r : Result A E) (f : A → B) (y : B) → then_read r (λ x. Ok (f x)) ≡ Ok y → (x : A) × (r ≡ Ok x) × (f x ≡ y)
then_made (Ok x) f y e = (x, refl, cc)
then_made (Err fault) f y e = absurd cc

-- what was read, without the line of a fault
abbrev without : {A : Type 0} → Result A Fault → Result A Why
without (Ok x) = Ok x
without (Err fault) = Err fault.1

without_line : {A : Type 0} (near n : ℕ) (r : Result A Why) → without (at_line near n r) ≡ r
without_line near n (Ok x) = refl
without_line near n (Err why) = refl

unnumbered : (texts : List (List ℕ)) (s : ReadingState) (atomics : List ℕ) (n : ℕ) → without (read_from s atomics n texts) ≡ (all_lines s texts >>= reading_ended)
unfolding read_from all_lines
unnumbered [] s atomics n = without_line (nearest_line atomics) 1 (reading_ended s)
unnumbered (text ∷ texts) s atomics n = by (any_line s (words text)) (λ next. unnumbered texts next (atomics_next s.begun atomics n (words text)) (n + 1)) where
  by : (r : Result ReadingState Why) → ((next : ReadingState) → without (read_from next (atomics_next s.begun atomics n (words text)) (n + 1) texts) ≡ (all_lines next texts >>= reading_ended)) → without (then_read (at_line (nearest_line atomics) n r) (λ next. read_from next (atomics_next s.begun atomics n (words text)) (n + 1) texts)) ≡ ((r >>= λ next. all_lines next texts) >>= reading_ended)
  by (Ok next) more = more next
  by (Err why) more = refl

-- what a part comes to, without numbers
abbrev plain : ReadingState → List ℕ → Result ReadingState Why
plain s bytes = all_lines s (lines bytes) >>= reading_ended

-- a part was read to its end, where no block is open
pub record IsRead (s : ReadingState) (bytes : List ℕ) (t : ReadingState) : Type 0 where
  pub all : all_lines s (lines bytes) ≡ Ok t
  pub begun : t.begun ≡ true
  pub shut : in_block t.place.open_blocks ≡ false

not_true : (b : Bool) → not b ≡ true → b ≡ false
not_true true e = absurd cc
not_true false e = refl

record IsEnded (s t : ReadingState) : Type 0 where
  same : s ≡ t
  begun : s.begun ≡ true
  shut : in_block s.place.open_blocks ≡ false

ended_shut : (s t : ReadingState) → reading_ended s ≡ Ok t → IsEnded s t
unfolding reading_ended
ended_shut s t e =
    let last = λ (x : Unit {0}). given s in
    let a = bind_ok (wants s.begun Header) (λ (x : Unit {0}). no_block s >>= last) t e in
    let b = bind_ok (no_block s) last t a.2 in
    record {
      same = ok_is _ _ b.2;
      begun = wants_ok s.begun Header a.0 a.1;
      shut = not_true (in_block s.place.open_blocks) (wants_ok (not (in_block s.place.open_blocks)) UnclosedBlock b.0 b.1);
    }

pub part_is : (s : ReadingState) (bytes : List ℕ) (t : ReadingState) → part_read s bytes ≡ Ok t → IsRead s bytes t
unfolding part_read
part_is s bytes t e =
    let p : plain s bytes ≡ Ok t = sym (unnumbered (lines bytes) s [] 1) ∙ ap without e in
    let a = bind_ok (all_lines s (lines bytes)) reading_ended t p in
    let b = ended_shut a.0 t a.2 in
    subst (IsRead s bytes) b.same (record { all = a.1; begun = b.begun; shut = b.shut })

ok_with : {A : Type 0} (r : Result A Fault) (x : A) → without r ≡ Ok x → r ≡ Ok x
ok_with (Ok y) x e = let same : y ≡ x = cc in ap (λ z. Ok z) same
ok_with (Err fault) x e = absurd cc

pub is_part : (s : ReadingState) (bytes : List ℕ) (t : ReadingState) → all_lines s (lines bytes) ≡ Ok t → reading_ended t ≡ Ok t → part_read s bytes ≡ Ok t
unfolding part_read
is_part s bytes t e f = ok_with (read_from s [] 1 (lines bytes)) t (unnumbered (lines bytes) s [] 1 ∙ ap (λ (r : Result ReadingState Why). r >>= reading_ended) e ∙ f)
