-- A structure that is laid behind others.
use Rattle.std.proofs.Common.{◌≡◌, ℕ, ◌+◌, ◌<◌, ◌≤◌, ◌++◌, List, length, take, drop, get_or, length-append, Option, Some, None, true, refl, sym, ap, ◌∙◌, subst, arith}
use Rattle.std.proofs.lemmas.List.{get_or-append-add, get_or_append_left}
use Rattle.std.proofs.Math.Seq.{drop-append-add, take-append-add, take-append_seam, drop-append_seam}
use Rattle.kc_calls.specs.Structures.{OpensStructure, cells_of, structure_of}
use Rattle.kc_calls.specs.declared.object.KcasObject.{KcasObject}
use Rattle.kc_lay.specs.Placed.{LaysBehind, StaysLaid}
use Rattle.kc_script_bundle.proofs.Places.{length-values_from, value_at}
use Rattle.kc_script_bundle.specs.Script.{cells}
use Rattle.kc_script_bundle.specs.State.{opening_cells, opening_value}
use Rattle.kc_script_bundle.specs.declared.object.Object.{Object}
use Rattle.kc_c.specs.Structures.{LiesNext, placed_at}

zero_more : (i : ℕ) → 0 + i ≡ i
zero_more i = omega arith

-- what its cells open with stands behind the front, and then what stood there
module _ (s : Object) (front free : List ℕ) (fits : cells s ≤ length free) where
  abbrev pub n : ℕ
  n = cells s

  abbrev pub before : List ℕ
  before = front ++ free

  abbrev pub after : List ℕ
  after = front ++ (opening_cells s ++ drop n free)

  long : length (opening_cells s) ≡ n
  long = length-values_from (opening_value s) 0 n

  taken : take (length front + n) after ≡ front ++ opening_cells s
  taken = take-append-add front (opening_cells s ++ drop n free) n ∙ ap (λ xs. front ++ xs) (subst (λ k. take k (opening_cells s ++ drop n free) ≡ opening_cells s) long (take-append_seam (opening_cells s) (drop n free)))

  pub behind_stays : drop (length front + n) after ≡ drop (length front + n) before
  behind_stays =
      drop-append-add front (opening_cells s ++ drop n free) n ∙ subst (λ k. drop k (opening_cells s ++ drop n free) ≡ drop n free) long (drop-append_seam (opening_cells s) (drop n free)) ∙ sym (drop-append-add front free n)

  first_taken : take (length front) before ≡ front
  first_taken = take-append_seam front free

  joined : length (front ++ opening_cells s) ≡ length front + n
  joined = length-append front (opening_cells s) ∙ ap (λ k. length front + k) long

  pub lays_behind : LaysBehind (length front) n (opening_value s) (take (length front) before) (take (length front + n) after)
  lays_behind = record {
    lies = ap length (sym first_taken);
    longer = ap length taken ∙ joined;
    opened = λ i lt. ap (λ xs. get_or xs (length front + i) 0) taken ∙ get_or-append-add front (opening_cells s) i 0 ∙ value_at (opening_value s) 0 n i lt ∙ ap (opening_value s) (zero_more i);
  }

  pub front_stays : StaysLaid (take (length front) before) (take (length front + n) after)
  front_stays = record {
    longer = let a = ap length first_taken in let b = ap length taken ∙ joined in omega (arith, a, b);
    kept = λ l lt. ap (λ xs. get_or xs l 0) taken ∙ get_or_append_left front (opening_cells s) 0 l (subst (λ xs. l < length xs) first_taken lt) ∙ ap (λ xs. get_or xs l 0) (sym first_taken);
  }

pub lies_next : (o p : KcasObject) (x : Option Object) (front free opened all : List ℕ) (end n : ℕ) → p ≡ placed_at end o → all ≡ front ++ free → length front ≡ end → structure_of p ≡ x → OpensStructure x free true opened → n ≡ cells_of x → LiesNext o all end p (front ++ opened) (end + n)
lies_next o p None front free opened all end n placed is here e opens count = absurd opens
lies_next o p (Some s) front free opened all end n placed is here e (fits, opens) count = subst (λ b. LiesNext o b end p (front ++ opened) (end + n)) (sym is) by_count
  where
    there : LiesNext o (front ++ free) (length front) p (front ++ (opening_cells s ++ drop (cells s) free)) (length front + cells s)
    there = record { placed_there = subst (λ k. p ≡ placed_at k o) (sym here) placed; laid = s; is = e; lays = lays_behind s front free fits; stays = front_stays s front free fits; rest = behind_stays s front free fits }

    opens_so : LiesNext o (front ++ free) (length front) p (front ++ opened) (length front + cells s)
    opens_so = subst (λ xs. LiesNext o (front ++ free) (length front) p (front ++ xs) (length front + cells s)) (sym opens) there

    by_end : LiesNext o (front ++ free) end p (front ++ opened) (end + cells s)
    by_end = subst (λ k. LiesNext o (front ++ free) k p (front ++ opened) (k + cells s)) here opens_so

    by_count : LiesNext o (front ++ free) end p (front ++ opened) (end + n)
    by_count = subst (λ m. LiesNext o (front ++ free) end p (front ++ opened) (end + m)) (sym count) by_end
