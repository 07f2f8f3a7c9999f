-- The tree of a block, from its alternatives.
use Rattle.std.proofs.Common.{◌≡◌, ◌≤◌, List, [], ◌∷◌, ◌++◌, length, Result, Ok, Err, leb, subst, refl, sym, ap, ◌∙◌, arith, length-append}
use Rattle.std.proofs.lemmas.Bool.{le-leb}
use Rattle.std.specs.Global.{Vec}
use Rattle.std.proofs.lemmas.List.{map-append}
use Rattle.kc_script_lines.proofs.Given.{given, bind_ok, ok_is}
use Rattle.kc_script_lines.specs.Tests.{◌>>=◌, wants}
use Rattle.kc_script_lines.specs.declared.complaint.Complaint.{Complaint}
use Rattle.kc_script_lines.specs.declared.fault.Limit.TheVariants.{Block as BlockLimit, Depth}
use Rattle.kc_script_lines.specs.declared.fault.Why.{Why}
use Rattle.kc_script_lines.specs.declared.fault.Why.TheVariants.{TooMany}
use Rattle.kc_script_lines.specs.declared.complaint.Complaint.TheVariants as complaint
use Rattle.kc_script.specs.Blocks.{sequence, either, in_front, nest}
use Rattle.kc_script.specs.Reading.{lists}
use Rattle.kc_script_bundle.specs.declared.operation.Op.{Op}
use Rattle.kc_script_lines.specs.Gives.{Fails}
use Rattle.kc_term.specs.Tree.{Tree, seq, first, trees, operations, all_operations, nesting}

-- first of the first and the rest
abbrev pub nested : List (List (Tree Op)) → Tree Op → Tree Op
nested [] last = last
nested (parts ∷ more) last = first (seq (trees parts)) (nested more last)

pub nested_push : (done : List (List (Tree Op))) (parts : List (Tree Op)) (last : Tree Op) → nested (done ++ parts ∷ []) last ≡ nested done (first (seq (trees parts)) last)
nested_push [] parts last = refl
nested_push (a ∷ done) parts last = ap (first (seq (trees a))) (nested_push done parts last)

-- a sequence that was made
sequence_is : (parts : List (Tree Op)) (t : Tree Op) → sequence parts ≡ Ok t → t ≡ seq (trees parts)
unfolding sequence
sequence_is parts t e =
    let a = bind_ok (wants (leb (length (all_operations (trees parts))) 16) (TooMany BlockLimit)) (λ few. given (seq (trees parts))) t e in
    sym (ok_is _ _ a.2)

-- alternatives that were made
either_is : (a b t : Tree Op) → either a b ≡ Ok t → t ≡ first a b
unfolding either
either_is a b t e =
    let d = bind_ok (wants (leb (nesting (first a b)) 8) (TooMany Depth)) (λ shallow. given (first a b)) t e in
    sym (ok_is _ _ d.2)

-- a block that was made
nest_from : (done : List (List (Tree Op))) (last : Result (Tree Op) Why) (t : Tree Op) → nest done last ≡ Ok t → (x : Tree Op) × (last ≡ Ok x) × (t ≡ nested done x)
unfolding nest in_front
nest_from [] last t e = (t, e, refl)
nest_from (parts ∷ more) last t e =
    let second = λ (others one : Tree Op). either one others in
    let a = bind_ok (nest more last) (λ others. sequence parts >>= second others) t e in
    let b = bind_ok (sequence parts) (second a.0) t a.2 in
    let r = nest_from more last a.0 a.1 in
    let one : b.0 ≡ seq (trees parts) = sequence_is parts b.0 b.1 in
    let made : t ≡ first b.0 a.0 = either_is b.0 a.0 t b.2 in
    (r.0, r.1, made ∙ ap (λ x. first x a.0) one ∙ ap (first (seq (trees parts))) r.2)

pub nest_is : (done : List (List (Tree Op))) (parts : List (Tree Op)) (t : Tree Op) → nest done (sequence parts) ≡ Ok t → t ≡ nested done (seq (trees parts))
nest_is done parts t e =
    let r = nest_from done (sequence parts) t e in
    r.2 ∙ ap (nested done) (sequence_is parts r.0 r.1)

-- ---- a block within the limits is made

abbrev pub IsSmall : Tree Op → Type 0
IsSmall t = (length (operations t) ≤ 16) × (nesting t ≤ 8)

sequence_small : (parts : List (Tree Op)) → length (all_operations (trees parts)) ≤ 16 → sequence parts ≡ Ok (seq (trees parts))
unfolding sequence
sequence_small parts few = rw (le-leb (length (all_operations (trees parts))) 16 few) refl

either_small : (a b : Tree Op) → nesting (first a b) ≤ 8 → either a b ≡ Ok (first a b)
unfolding either
either_small a b shallow = rw (le-leb (nesting (first a b)) 8 shallow) refl

nest_small : (done : List (List (Tree Op))) (last : Tree Op) → IsSmall (nested done last) → nest done (Ok last) ≡ Ok (nested done last)
unfolding nest in_front
nest_small [] last h = refl
nest_small (parts ∷ more) last h =
    let rest = nested more last in
    let count = length-append (all_operations (trees parts)) (operations rest) in
    let below = nest_small more last (omega (arith, h.0, count), omega (arith, h.1)) in
    rw (below, sequence_small parts (omega (arith, h.0, count))) (either_small (seq (trees parts)) rest h.1)

last_small : (done : List (List (Tree Op))) (last : Tree Op) → IsSmall (nested done last) → IsSmall last
last_small [] last h = h
last_small (parts ∷ more) last h =
    let rest = nested more last in
    let count = length-append (all_operations (trees parts)) (operations rest) in
    last_small more last (omega (arith, h.0, count), omega (arith, h.1))

pub nest_ok : (done : List (List (Tree Op))) (parts : List (Tree Op)) → IsSmall (nested done (seq (trees parts))) → nest done (sequence parts) ≡ Ok (nested done (seq (trees parts)))
nest_ok done parts h =
    let few = (last_small done (seq (trees parts)) h).0 in
    ap (nest done) (sequence_small parts few) ∙ nest_small done (seq (trees parts)) h

-- ---- the loop over the alternatives, from the last to the first

nest_push : (done : List (List (Tree Op))) (parts : List (Tree Op)) (last : Result (Tree Op) Why) → nest (done ++ parts ∷ []) last ≡ nest done (in_front parts last)
unfolding nest
nest_push [] parts last = refl
nest_push (a ∷ done) parts last = ap (in_front a) (nest_push done parts last)

nest_err : (done : List (List (Tree Op))) (why : Why) → nest done (Err why) ≡ Err why
unfolding nest in_front
nest_err [] why = refl
nest_err (a ∷ done) why = rw (nest_err done why) refl

-- an alternative that could not be put in front
pub nest_fails : (done : List (List (Tree Op))) (last : Result (Tree Op) Why) (e : Complaint) → Fails e last → Fails e (nest done last)
nest_fails done last complaint.NoMemory h = tt
nest_fails done last (complaint.Here why) h = ap (nest done) h ∙ nest_err done why

in_front_fails : (parts : List (Tree Op)) (term : Tree Op) (e : Complaint) → Fails e (sequence parts) → Fails e (in_front parts (Ok term))
unfolding in_front
in_front_fails parts term complaint.NoMemory h = tt
in_front_fails parts term (complaint.Here why) h = rw h refl

in_front_is : (parts : List (Tree Op)) (one term : Tree Op) → sequence parts ≡ Ok one → in_front parts (Ok term) ≡ either one term
unfolding in_front
in_front_is parts one term h = rw h refl

module _ (done rest : List (Vec (Tree Op))) (alternative : Vec (Tree Op)) (term : Tree Op) (total : Result (Tree Op) Why) (d : done ≡ rest ++ alternative ∷ []) (so_far : nest (lists done) (Ok term) ≡ total) where
  here : nest (lists rest) (in_front alternative.items (Ok term)) ≡ total
  here = sym (nest_push (lists rest) alternative.items (Ok term)) ∙ ap (λ xs. nest xs (Ok term)) (sym (map-append (λ v. v.items) rest (alternative ∷ [])) ∙ ap lists (sym d)) ∙ so_far

  pub goes_on : (one next : Tree Op) → sequence alternative.items ≡ Ok one → either one term ≡ Ok next → nest (lists rest) (Ok next) ≡ total
  goes_on one next e f = ap (nest (lists rest)) (sym (in_front_is alternative.items one term e ∙ f)) ∙ here

  pub first_fails : (e : Complaint) → Fails e (sequence alternative.items) → Fails e total
  first_fails e h = subst (Fails e) here (nest_fails (lists rest) (in_front alternative.items (Ok term)) e (in_front_fails alternative.items term e h))

  pub second_fails : (one : Tree Op) (e : Complaint) → sequence alternative.items ≡ Ok one → Fails e (either one term) → Fails e total
  second_fails one e f h = subst (Fails e) here (nest_fails (lists rest) (in_front alternative.items (Ok term)) e (subst (Fails e) (sym (in_front_is alternative.items one term f)) h))

-- no alternative is left
pub nest_last : (done : List (Vec (Tree Op))) (term : Tree Op) (total : Result (Tree Op) Why) → done ≡ [] → nest (lists done) (Ok term) ≡ total → total ≡ Ok term
unfolding nest
nest_last done term total d so_far = sym so_far ∙ ap (λ xs. nest (lists xs) (Ok term)) d
