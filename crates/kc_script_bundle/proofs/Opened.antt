-- The values with which a script opens, one after another.
use Rattle.std.proofs.Common.{◌≡◌, ℕ, zero, suc, ◌+◌, ◌-◌, ◌≤◌, ◌<◌, List, [], ◌∷◌, ◌++◌, length, get_or, refl, sym, ap, ◌∙◌, subst, append_assoc, length-append, arith}
use Rattle.std.proofs.lemmas.List.{append-nil, get_or-append-add}
use Rattle.std.proofs.Math.ListN.{get_or-append}
use Rattle.std.specs.List.{flat_map}
use Rattle.kc_model.specs.Store.{store_of, opened}
use Rattle.kc_script_bundle.proofs.Places.{value_at, length-opening_cells}
use Rattle.kc_script_bundle.proofs.Standing.{stands_opened}
use Rattle.kc_script_bundle.specs.Script.{Names, base, cells, LieFrom}
use Rattle.kc_script_bundle.specs.State.{values_from, opening_value, opening_cells, opening_contents, AllStand}
use Rattle.kc_script_bundle.specs.declared.object.Object.{Object}
use Rattle.kc_xt.specs.Meaning.{values}

module _ (f : ℕ → ℕ) (i n : ℕ) (front total : List ℕ) where
  -- one more value was added
  pub values_next : (more : List ℕ) → i < n → front ++ values_from f i (n - i) ≡ total → more ≡ front ++ f i ∷ [] → more ++ values_from f (i + 1) (n - (i + 1)) ≡ total
  values_next more lt so_far e =
      let left : n - i ≡ suc (n - (i + 1)) = omega arith in
      ap (λ xs. xs ++ values_from f (i + 1) (n - (i + 1))) e ∙ append_assoc front (f i ∷ []) (values_from f (i + 1) (n - (i + 1))) ∙ rw left at so_far

  -- all values were added
  pub values_end : n ≤ i → front ++ values_from f i (n - i) ≡ total → front ≡ total
  values_end le so_far =
      let left : n - i ≡ 0 = omega arith in
      sym (append-nil front) ∙ rw left at so_far

-- the opened store has the values
opened_value : (vs : List ℕ) (l : ℕ) → values (store_of (opened vs)) l ≡ get_or vs l 0
opened_value [] l = refl
opened_value (v ∷ vs) zero = refl
opened_value (v ∷ vs) (suc l) = opened_value vs l

-- an object's cells have their opening values, where these lie behind others
cell_opened : (o : Object) (front behind : List ℕ) (i : ℕ) → i < cells o → get_or (front ++ (opening_cells o ++ behind)) (length front + i) 0 ≡ opening_value o i
cell_opened o front behind i lt =
    let long = length-opening_cells o in
    let start : 0 + i ≡ i = omega arith in
    get_or-append-add front (opening_cells o ++ behind) i 0 ∙ get_or-append (opening_cells o) behind 0 i (omega (arith, lt, long)) ∙ value_at (opening_value o) 0 (cells o) i lt ∙ ap (opening_value o) start

opens_from : (all front : List ℕ) (names : Names) → LieFrom (length front) names → all ≡ front ++ flat_map (λ entry. opening_cells entry.1) names → AllStand names (values (store_of (opened all))) (opening_contents names)
unfolding LieFrom
opens_from all front [] lie e = tt
opens_from all front (entry ∷ names) lie e =
    let o = entry.1 in
    let behind = flat_map (λ entry. opening_cells entry.1) names in
    let m = values (store_of (opened all)) in
    let long : length (front ++ opening_cells o) ≡ length front + cells o = omega (arith, length-append front (opening_cells o), length-opening_cells o) in (
      stands_opened o m (λ i lt. let at : base o + i ≡ length front + i = omega (arith, lie.0) in ap m at ∙ opened_value all (length front + i) ∙ ap (λ xs. get_or xs (length front + i) 0) e ∙ cell_opened o front behind i lt),
      opens_from all (front ++ opening_cells o) names (subst (λ at. LieFrom at names) (sym long) lie.1) (e ∙ sym (append_assoc front (opening_cells o) behind)),
    )

-- a script's cells stand for its opening contents
pub script_opens : (live : ℕ) (names : Names) → LieFrom 1 names → AllStand names (values (store_of (opened (live ∷ flat_map (λ entry. opening_cells entry.1) names)))) (opening_contents names)
script_opens live names lie = opens_from _ (live ∷ []) names lie refl
