-- Sums over what is left of lists, where so many of each are taken.
use Rattle.std.proofs.Common.{◌≡◌, ℕ, zero, suc, ◌+◌, ◌≤◌, List, [], ◌∷◌, Some, length, drop, slice_get, slice_index_or, sum_by, refl, sym, ap, ap₂, ◌∙◌, arith, add-one, inl, inr}
use Rattle.std.proofs.Math.Path.{fun_ext}
use Rattle.std.proofs.lemmas.List.Sums.{sum_by-cons}
use Rattle.kc_history.proofs.Choice.{some_is}
use Rattle.kc_history.proofs.Ready.{no_some, same_or, more_same, more_other}
use Rattle.kc_history.specs.Order.{one_record_more}

abbrev pub left : {X : Type 0} → (X → ℕ) → List (List X) → (ℕ → ℕ) → ℕ
left w [] n = 0
left w (xs ∷ lists) n = sum_by w (drop (n zero) xs) + left w lists (λ u. n (suc u))

module _ {X : Type 0} (w : X → ℕ) where
  rest_suc : (xs : List X) (k : ℕ) (x : X) → slice_get xs k ≡ Some x → sum_by w (drop k xs) ≡ w x + sum_by w (drop (suc k) xs)
  rest_suc [] k x e = absurd (no_some x e)
  rest_suc (y ∷ ys) zero x e = sum_by-cons w y ys ∙ ap (λ z. w z + sum_by w ys) (some_is y x e)
  rest_suc (y ∷ ys) (suc k) x e = rest_suc ys k x e

  rest_step : (xs : List X) (k : ℕ) (x : X) → slice_get xs k ≡ Some x → sum_by w (drop k xs) ≡ w x + sum_by w (drop (k + 1) xs)
  rest_step xs k x e = rest_suc xs k x e ∙ ap (λ j. w x + sum_by w (drop j xs)) (sym (add-one k))

  -- one more is taken
  pub left_step : (lists : List (List X)) (n : ℕ → ℕ) (t : ℕ) (x : X) → slice_get (slice_index_or lists t []) (n t) ≡ Some x → left w lists n ≡ w x + left w lists (one_record_more t n)
  left_step [] n t x e = absurd (no_some x e)
  left_step (xs ∷ lists) n zero x e =
      let a = rest_step xs (n zero) x e in
      let b : sum_by w (drop (one_record_more zero n zero) xs) ≡ sum_by w (drop (n zero + 1) xs) = ap (λ k. sum_by w (drop k xs)) (more_same zero n zero refl) in
      let d : left w lists (λ u. one_record_more zero n (suc u)) ≡ left w lists (λ u. n (suc u)) = ap (left w lists) (fun_ext (λ u. more_other zero n (suc u) (λ e. omega arith))) in
      omega arith
  left_step (xs ∷ lists) n (suc t) x e =
      let a = left_step lists (λ u. n (suc u)) t x e in
      let b : sum_by w (drop (one_record_more (suc t) n zero) xs) ≡ sum_by w (drop (n zero) xs) = ap (λ k. sum_by w (drop k xs)) (more_other (suc t) n zero (λ e. omega arith)) in
      let d : left w lists (λ u. one_record_more (suc t) n (suc u)) ≡ left w lists (one_record_more t (λ u. n (suc u))) = ap (left w lists) (fun_ext (behind t n)) in
      omega arith
    where
      behind : (t : ℕ) (n : ℕ → ℕ) (u : ℕ) → one_record_more (suc t) n (suc u) ≡ one_record_more t (λ u. n (suc u)) u
      behind t n u = elim (same_or u t) [
        | inl e ↦ more_same (suc t) n (suc u) (ap suc e) ∙ sym (more_same t (λ u. n (suc u)) u e)
        | inr e ↦ more_other (suc t) n (suc u) (λ h. e (omega arith)) ∙ sym (more_other t (λ u. n (suc u)) u e)
      ]

  all_taken : (xs : List X) (k : ℕ) → length xs ≤ k → sum_by w (drop k xs) ≡ 0
  all_taken [] zero le = refl
  all_taken [] (suc k) le = refl
  all_taken (x ∷ xs) zero le = absurd (omega arith)
  all_taken (x ∷ xs) (suc k) le = all_taken xs k (omega arith)

  -- all are taken
  pub left_none : (lists : List (List X)) (n : ℕ → ℕ) → ((u : ℕ) → length (slice_index_or lists u []) ≤ n u) → left w lists n ≡ 0
  left_none [] n le = refl
  left_none (xs ∷ lists) n le = ap₂ (λ (j k : ℕ). j + k) (all_taken xs (n zero) (le zero)) (left_none lists (λ u. n (suc u)) (λ u. le (suc u)))

  -- none is taken
  pub left_all : (lists : List (List X)) → left w lists (λ _. 0) ≡ sum_by (λ xs. sum_by w xs) lists
  left_all [] = refl
  left_all (xs ∷ lists) = ap (λ k. sum_by w xs + k) (left_all lists) ∙ sym (sum_by-cons (λ xs. sum_by w xs) xs lists)
