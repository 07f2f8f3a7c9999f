-- From legal entries to legal records.
use Rattle.std.proofs.Common.{◌≡◌, ◌≢◌, ℕ, zero, suc, ◌+◌, ◌-◌, List, [], ◌∷◌, map, if◌then◌else◌, slice_get, refl, sym, ap, ◌∙◌, subst, arith, slice_index_or, eq-eqb, ne_eqb, add-zero, zero-add, inl, inr}
use Rattle.kc_history.specs.Order.{Footprints, one_record_more, Legal}
use Rattle.kc_model.specs.Footprint.{put_at}
use Rattle.kc_model.specs.Store.{Store, after, cell_after}
use Rattle.kc_model.specs.declared.footprint.Footprint.{Footprint}
use Rattle.std.proofs.Math.Path.{fun_ext}
use Rattle.kc_history.specs.Callers.{of_caller, record_entries, HasJust}
use Rattle.kc_history.specs.Records.{footprint_at}
use Rattle.kc_history.specs.declared.record.Record.{Record}
use Rattle.kc_model.specs.Legal.{IsLegal}
use Rattle.kc_model.specs.declared.footprint.Entry.{Entry}
use Rattle.std.specs.Option.{option_map}
use Rattle.kc_history.proofs.Passing.{not_below}
use Rattle.kc_history.proofs.Ready.{no_some, same_or, more_same, more_other}
use Rattle.kc_history.specs.Moves.{footprints_by, placed_from, LeavesLooks}
use Rattle.kc_history.specs.Moves.LeavesLooks.{end, keep, leave}

by_same : (u : ℕ) (x : Entry) (xs : List Entry) → u ≡ x.caller → footprints_by u (x ∷ xs) ≡ x.footprint ∷ footprints_by u xs
by_same u x xs e = ap (λ b. map (λ (y : Entry). y.footprint) (if b then x ∷ of_caller u xs else of_caller u xs)) (eq-eqb x.caller u (sym e))

by_other : (u : ℕ) (x : Entry) (xs : List Entry) → u ≢ x.caller → footprints_by u (x ∷ xs) ≡ footprints_by u xs
by_other u x xs e = ap (λ b. map (λ (y : Entry). y.footprint) (if b then x ∷ of_caller u xs else of_caller u xs)) (ne_eqb x.caller u (λ h. e (sym h)))

pub entries : (a : Footprints) (e : Store) (h : List Entry) (n : ℕ → ℕ) (s : Store) → IsLegal s h e → ((u k : ℕ) → a u (n u + k) ≡ slice_get (footprints_by u h) k) → Legal a n s (placed_from n h) e
entries a e [] n s legal same = ((λ u k f is. not_below (suc k) (n u) (λ l. no_some f (sym (same u (k - n u)) ∙ ap (a u) (let m : n u + (k - n u) ≡ k = omega arith in m) ∙ is))), legal)
entries a e (x ∷ xs) n s legal same = (
  x.footprint,
  (refl, ap (a x.caller) (sym (add-zero (n x.caller))) ∙ same x.caller zero ∙ ap (λ fs. slice_get fs zero) (by_same x.caller x xs refl)),
  legal.0,
  entries a e xs (one_record_more x.caller n) _ legal.1 (λ u k. elim (same_or u x.caller) [
    | inl i ↦ ap (a u) (let m = more_same x.caller n u i in let j : one_record_more x.caller n u + k ≡ n u + suc k = omega arith in j) ∙ same u (suc k) ∙ ap (λ fs. slice_get fs (suc k)) (by_same u x xs i)
    | inr i ↦ ap (λ m. a u (m + k)) (more_other x.caller n u i) ∙ same u k ∙ ap (λ fs. slice_get fs k) (by_other u x xs i)
  ]),
)

reads_only : (f : Footprint) (s : Store) → f.puts.items ≡ [] → after f s ≡ s
reads_only f s h = fun_ext (λ l. ap (λ ps. cell_after (put_at ps l) (s l)) h)

pub without_looks : (e : Store) {xs ys : List Entry} → LeavesLooks xs ys → (s : Store) → IsLegal s xs e → IsLegal s ys e
without_looks e end s h = h
without_looks e (keep x t) s h = (h.0, without_looks e t (after x.footprint s) h.1)
without_looks e (leave x {xs = xs} none t) s h = without_looks e t s (subst (λ s. IsLegal s xs e) (reads_only x.footprint s none) h.1)

-- ---- entries of records

entries_footprints : (k n : ℕ) (rs : List Record) → map (λ (x : Entry). x.footprint) (record_entries k n rs) ≡ map (λ (r : Record). r.footprint) rs
entries_footprints k n [] = refl
entries_footprints k n (r ∷ rs) = ap (λ fs. r.footprint ∷ fs) (entries_footprints k (n + 1) rs)

-- the footprint at a place is the entry's there
pub just_at : (records : List (List Record)) (h : List Entry) → HasJust records h → (u k : ℕ) → footprint_at records u k ≡ slice_get (footprints_by u h) k
just_at records h just u k =
    sym (get_mapped (λ (r : Record). r.footprint) (slice_index_or records u []) k) ∙ ap (λ fs. slice_get fs k) (sym (ap (map (λ (x : Entry). x.footprint)) (just u) ∙ entries_footprints u 1 (slice_index_or records u [])))
  where
    get_mapped : {A B : Type 0} (f : A → B) (xs : List A) (j : ℕ) → slice_get (map f xs) j ≡ option_map f (slice_get xs j)
    get_mapped f [] j = refl
    get_mapped f (x ∷ xs) zero = refl
    get_mapped f (x ∷ xs) (suc j) = get_mapped f xs j

-- records that a legal history just has are a legal list
pub just_legal : (records : List (List Record)) (s e : Store) (h : List Entry) → IsLegal s h e → HasJust records h → Legal (footprint_at records) (λ _. 0) s (placed_from (λ _. 0) h) e
just_legal records s e h legal just = entries (footprint_at records) e h (λ _. 0) s legal (λ u k. ap (footprint_at records u) (zero-add k) ∙ just_at records h just u k)
