-- The parts of a term: their operations, ends and sizes.
use Rattle.std.proofs.Common.{◌≡◌, ℕ, zero, suc, ◌+◌, ◌<◌, ◌≤◌, max, List, [], ◌∷◌, ◌++◌, length, sym, ap, ap₂, ◌∙◌, subst, arith, get_or, drop, drop-cons, add-one, length-append}
use Rattle.kc_xt.specs.Meaning.{Meaning}
use Rattle.std.specs.Global.{Vec, Box}
use Rattle.kc_term.specs.declared.term.Node.{Node}
use Rattle.kc_term.specs.declared.term.Node.TheVariants as node
use Rattle.kc_term.specs.Fit.{Each, AreFit}
use Rattle.kc_term.specs.Meaning.{greatest_end}
use Rattle.kc_term.specs.Shape.{tree_of}
use Rattle.kc_term.specs.Tree.{Tree, op, seq, first, trees, operations, all_operations, nesting, greatest_nesting, tree_size, trees_size}

pub each-left : {X : Type 0} (P : X → Type 0) (xs ys : List X) → Each P (xs ++ ys) → Each P xs
each-left P [] ys h = tt
each-left P (x ∷ xs) ys (h, hs) = (h, each-left P xs ys hs)

pub each-right : {X : Type 0} (P : X → Type 0) (xs ys : List X) → Each P (xs ++ ys) → Each P ys
each-right P [] ys h = h
each-right P (x ∷ xs) ys (h, hs) = each-right P xs ys hs

module _ {O : Type 0} (fit : O → Type 0) (mean : O → Meaning) where
  pub fit-left : (xs ys : List O) → AreFit fit mean (xs ++ ys) → AreFit fit mean xs
  fit-left xs ys h = record { few = omega (arith, h.few, length-append xs ys); each = each-left _ xs ys h.each; single = each-left _ xs ys h.single }

  pub fit-right : (xs ys : List O) → AreFit fit mean (xs ++ ys) → AreFit fit mean ys
  fit-right xs ys h = record { few = omega (arith, h.few, length-append xs ys); each = each-right _ xs ys h.each; single = each-right _ xs ys h.single }

pub end-append : {O : Type 0} (end : O → ℕ) (xs ys : List O) → greatest_end end (xs ++ ys) ≡ max (greatest_end end xs) (greatest_end end ys)
end-append end [] ys = omega arith
end-append end (x ∷ xs) ys = omega (arith, end-append end xs ys)

-- the part at a place, and the parts behind it
pub part-cons : {O : Type 0} (ts : List (Tree O)) (i : ℕ) (x : Tree O) → i < length ts → x ≡ get_or ts i x → drop i ts ≡ x ∷ drop (i + 1) ts
part-cons ts i x h e = drop-cons ts i x h ∙ ap₂ (λ y ys. y ∷ ys) (sym e) (ap (λ n. drop n ts) (sym (add-one i)))

module _ {O : Type 0} (fit : O → Type 0) (mean : O → Meaning) where
  pub fit_at : (ts : List (Tree O)) (i : ℕ) (x : Tree O) → i < length ts → x ≡ get_or ts i x → AreFit fit mean (all_operations (trees ts)) → AreFit fit mean (operations x)
  fit_at [] i x h e f = absurd (omega arith)
  fit_at (t ∷ ts) zero x h e f = let Q : Tree O → Type 0 = λ y. AreFit fit mean (operations y) in subst Q (sym e) (fit-left fit mean (operations t) (all_operations (trees ts)) f)
  fit_at (t ∷ ts) (suc i) x h e f = fit_at ts i x (omega arith) e (fit-right fit mean (operations t) (all_operations (trees ts)) f)

module _ {O : Type 0} (end : O → ℕ) where
  pub end_at : (ts : List (Tree O)) (i : ℕ) (x : Tree O) → i < length ts → x ≡ get_or ts i x → greatest_end end (operations x) ≤ greatest_end end (all_operations (trees ts))
  end_at [] i x h e = absurd (omega arith)
  end_at (t ∷ ts) zero x h e = omega (arith, end-append end (operations t) (all_operations (trees ts)), ap (λ y. greatest_end end (operations y)) e)
  end_at (t ∷ ts) (suc i) x h e = omega (arith, end-append end (operations t) (all_operations (trees ts)), end_at ts i x (omega arith) e)

  pub end-cons : (ts : List (Tree O)) (i : ℕ) (x : Tree O) → i < length ts → x ≡ get_or ts i x → greatest_end end (all_operations (trees (drop i ts))) ≡ max (greatest_end end (operations x)) (greatest_end end (all_operations (trees (drop (i + 1) ts))))
  end-cons ts i x h e = ap (λ ys. greatest_end end (all_operations (trees ys))) (part-cons ts i x h e) ∙ end-append end (operations x) (all_operations (trees (drop (i + 1) ts)))

-- how many operations are left
pub left-cons : {O : Type 0} (ts : List (Tree O)) (i : ℕ) (x : Tree O) → i < length ts → x ≡ get_or ts i x → length (all_operations (trees (drop i ts))) ≡ length (operations x) + length (all_operations (trees (drop (i + 1) ts)))
left-cons ts i x h e = ap (λ ys. length (all_operations (trees ys))) (part-cons ts i x h e) ∙ length-append (operations x) (all_operations (trees (drop (i + 1) ts)))

-- and how deep they are nested
pub nesting-cons : {O : Type 0} (ts : List (Tree O)) (i : ℕ) (x : Tree O) → i < length ts → x ≡ get_or ts i x → greatest_nesting (trees (drop i ts)) ≡ max (nesting x) (greatest_nesting (trees (drop (i + 1) ts)))
nesting-cons ts i x h e = ap (λ ys. greatest_nesting (trees ys)) (part-cons ts i x h e)

pub size_at : {O : Type 0} (ts : List (Tree O)) (i : ℕ) (x : Tree O) → i < length ts → x ≡ get_or ts i x → tree_size x < trees_size (trees ts)
size_at [] i x h e = absurd (omega arith)
size_at (t ∷ ts) zero x h e = omega (arith, ap tree_size e)
size_at (t ∷ ts) (suc i) x h e = omega (arith, size_at ts i x (omega arith) e)

-- ---- the tree of a node

pub is_op : {O : Type 0} {n : Node O} {o : O} {t : Tree O} → tree_of n ≡ t → n ≡ node.Op o → t ≡ op o
is_op v e = sym v ∙ ap tree_of e

pub is_seq : {O : Type 0} {n : Node O} {parts : Vec (Tree O)} {t : Tree O} → tree_of n ≡ t → n ≡ node.Seq parts → t ≡ seq (trees parts.items)
is_seq v e = sym v ∙ ap tree_of e

pub is_first : {O : Type 0} {n : Node O} {a b : Box (Tree O)} {t : Tree O} → tree_of n ≡ t → n ≡ node.First a b → t ≡ first a.value b.value
is_first v e = sym v ∙ ap tree_of e
