-- Looks can be left out of a history.
use Rattle.std.proofs.Common.{◌≡◌, ◌⊎◌, inl, inr, ℕ, zero, suc, ◌+◌, ◌<◌, ◌==◌, if◌then◌else◌, List, [], ◌∷◌, ◌++◌, length, refl, sym, ap, subst, ◌∙◌, arith, append_assoc, slice_index_or}
use Rattle.std.proofs.Math.Path.{fun_ext}
use Rattle.std.proofs.lemmas.Bool.Decides.{eqb_tells}
use Rattle.std.proofs.lemmas.List.{append-nil}
use Rattle.std.proofs.lemmas.List.Elements.{All-cons}
use Rattle.std.specs.Prelude.{All}
use Rattle.kc_history.specs.Callers.{of_caller, record_entry, record_entries, IsBelowCallers}
use Rattle.kc_history.specs.declared.record.Record.{Record}
use Rattle.kc_model.specs.Footprint.{put_at}
use Rattle.kc_model.specs.Legal.{IsLegal}
use Rattle.kc_model.specs.Store.{Store, after, cell_after}
use Rattle.kc_model.specs.declared.footprint.Entry.{Entry}
use Rattle.kc_model.specs.declared.footprint.Footprint.{Footprint}
use Rattle.kc_model.specs.declared.footprint.Put.{Put}
use Rattle.kc_script_bundle.specs.declared.operation.Command.{Command}
use Rattle.kc_script_runs.proofs.Given.{run_by_just}
use Rattle.kc_script_runs.proofs.Replayed.{none_of}
use Rattle.kc_script_runs.specs.Looks.{IsWaitingTry, GivesBehindLooks, IsWithoutLooks, AreCommitsOf}
use Rattle.kc_script_runs.specs.Looks.IsWithoutLooks.{end, leave, keep}
use Rattle.kc_script_runs.specs.Threads.{AreGiven, AreRunBy, meanings}
use Rattle.kc_xt.specs.Meaning.{Meaning}

-- ---- lists without looks

-- what became of the first entry
abbrev Parted : List Entry → List Entry → Type 0
Parted [] hs = hs ≡ []
Parted (e ∷ es) hs = ((e.footprint.puts.items ≡ []) × IsWithoutLooks es hs) ⊎ ((n : ℕ) × (left : List Entry) × (hs ≡ record_entry e.caller n e.footprint ∷ left) × IsWithoutLooks es left)

parted : {es hs : List Entry} → IsWithoutLooks es hs → Parted es hs
parted end = refl
parted (leave e none t) = inl (none, t)
parted (keep e n {hs = hs} t) = inr (n, hs, refl, t)

puts_nothing : (f : Footprint) (s : Store) → f.puts.items ≡ [] → after f s ≡ s
puts_nothing f s none = fun_ext (λ l. ap (λ (ps : List Put). cell_after (put_at ps l) (s l)) none)

legal_without : (last : Store) {es hs : List Entry} → IsWithoutLooks es hs → (s : Store) → IsLegal s es last → IsLegal s hs last
legal_without last end s h = h
legal_without last (leave e {es = es} none t) s h = legal_without last t s (subst (λ (m : Store). IsLegal m es last) (puts_nothing e.footprint s none) h.1)
legal_without last (keep e n t) s h = (h.0, legal_without last t (after e.footprint s) h.1)

below_without : (n : ℕ) {es hs : List Entry} → IsWithoutLooks es hs → IsBelowCallers n es → IsBelowCallers n hs
below_without n end below = below
below_without n (leave e none t) below = below_without n t (λ i d lt. below (suc i) d (omega arith))
below_without n (keep e m t) below = All-cons (λ (x : Entry). x.caller < n) _ _ (below 0 e (omega arith)) (below_without n t (λ i d lt. below (suc i) d (omega arith)))

-- ---- one caller

behind_looks : (k : ℕ) (m : Meaning) (looks es hs : List Entry) → All (IsWaitingTry k m) looks → IsWithoutLooks es hs → IsWithoutLooks (looks ++ es) hs
behind_looks k m [] es hs each t = t
behind_looks k m (x ∷ looks) es hs each t = leave x (each 0 x (omega arith)).puts_nothing (behind_looks k m looks es hs (λ i d lt. each (suc i) d (omega arith)) t)

-- what commits added to the own list, and that without looks it is their records
record Added (k n : ℕ) (before : List Entry) (rs : List Record) (after_them : List Entry) : Type 0 where
  pub entries : List Entry
  pub are : after_them ≡ before ++ entries
  pub without : IsWithoutLooks entries (record_entries k n rs)

added : (k n : ℕ) (ms : List Meaning) (before : List Entry) (rs : List Record) (after_them : List Entry) → AreGiven GivesBehindLooks k ms before rs after_them → Added k n before rs after_them
added k n [] before [] z done = record { entries = []; are = done ∙ sym (append-nil before); without = end }
added k n [] before (r ∷ rs) z done = absurd done
added k n (m ∷ ms) before [] z done = absurd done
added k n (m ∷ ms) before (r ∷ rs) z (l, first, rest) =
    let t = added k (n + 1) ms l rs z rest in
    let e : Entry = record_entry k first.number r.footprint in record {
      entries = first.looks ++ e ∷ t.entries;
      are = t.are ∙ ap (λ (x : List Entry). x ++ t.entries) first.added ∙ append_assoc (before ++ first.looks) (e ∷ []) t.entries ∙ append_assoc before first.looks (e ∷ t.entries);
      without = behind_looks k m first.looks (e ∷ t.entries) _ first.each (keep e n t.without);
    }

-- ---- all callers

part_from : (limit n k : ℕ) (history : List Entry) (threads : List (List Command)) (records : List (List Record)) → AreRunBy GivesBehindLooks limit n k history threads records → IsBelowCallers (k + length threads) history
    → (u : ℕ) → IsWithoutLooks (of_caller (k + u) history) (record_entries (k + u) 1 (slice_index_or records u []))
part_from limit n k history [] [] h below u = subst (λ (l : List Entry). IsWithoutLooks l []) (sym (none_of limit (k + u) (k + 0) (omega arith) history below)) end
part_from limit n k history [] (rs ∷ records) h below u = absurd h
part_from limit n k history (cs ∷ threads) [] h below u = absurd h
part_from limit n k history (cs ∷ threads) (rs ∷ records) h below zero =
    let z : k ≡ k + 0 = omega arith in
    let t = added k 1 (meanings limit (k + 1) cs) [] rs (of_caller k history) h.0.committed in
    subst (λ (j : ℕ). IsWithoutLooks (of_caller j history) (record_entries j 1 rs)) z (subst (λ (l : List Entry). IsWithoutLooks l (record_entries k 1 rs)) (sym t.are) t.without)
part_from limit n k history (cs ∷ threads) (rs ∷ records) h below (suc u) =
    let z : suc k + u ≡ k + suc u = omega arith in
    let more : k + length (cs ∷ threads) ≡ suc k + length threads = omega arith in
    subst (λ (j : ℕ). IsWithoutLooks (of_caller j history) (record_entries j 1 (slice_index_or records u []))) z (part_from limit n (suc k) history threads records h.1 (subst (λ (m : ℕ). IsBelowCallers m history) more below) u)

-- one list without looks, of which these are the callers' parts
record Joined (history : List Entry) (part : ℕ → List Entry) : Type 0 where
  pub entries : List Entry
  pub without : IsWithoutLooks history entries
  pub each : (u : ℕ) → of_caller u entries ≡ part u

abbrev Parts : List Entry → (ℕ → List Entry) → Type 0
Parts history part = (u : ℕ) → IsWithoutLooks (of_caller u history) (part u)

join_one : (x : Entry) (xs : List Entry) (part : ℕ → List Entry) → ((p : ℕ → List Entry) → Parts xs p → Joined xs p) → Parts (x ∷ xs) part → Parted (x ∷ of_caller x.caller xs) (part x.caller) → Joined (x ∷ xs) part
join_one x xs part joins parts (inl (none, t)) =
    let rest = joins part (λ u. elim (eqb_tells x.caller u) [
      | inl i ↦ subst (λ (v : ℕ). IsWithoutLooks (of_caller v xs) (part v)) i.1 t
      | inr o ↦ subst (λ (l : List Entry). IsWithoutLooks l (part u)) (ap (λ b. if b then x ∷ of_caller u xs else of_caller u xs) o.0) (parts u)
    ]) in
    record { entries = rest.entries; without = leave x none rest.without; each = rest.each }
join_one x xs part joins parts (inr (n, left, is, t)) =
    let y : Entry = record_entry x.caller n x.footprint in
    let next : ℕ → List Entry = λ u. if x.caller == u then left else part u in
    let rest = joins next (λ u. elim (eqb_tells x.caller u) [
      | inl i ↦ subst (λ b. IsWithoutLooks (of_caller u xs) (if b then left else part u)) (sym i.0) (subst (λ (v : ℕ). IsWithoutLooks (of_caller v xs) left) i.1 t)
      | inr o ↦
          subst (λ b. IsWithoutLooks (of_caller u xs) (if b then left else part u)) (sym o.0) (subst (λ (l : List Entry). IsWithoutLooks l (part u)) (ap (λ b. if b then x ∷ of_caller u xs else of_caller u xs) o.0) (parts u))
    ]) in
    record {
      entries = y ∷ rest.entries;
      without = keep x n rest.without;
      each = λ u. elim (eqb_tells x.caller u) [
        | inl i ↦
            ap (λ b. if b then y ∷ of_caller u rest.entries else of_caller u rest.entries) i.0 ∙ ap (λ (l : List Entry). y ∷ l) (rest.each u ∙ ap (λ b. if b then left else part u) i.0) ∙ sym (ap part (sym i.1) ∙ is)
        | inr o ↦ ap (λ b. if b then y ∷ of_caller u rest.entries else of_caller u rest.entries) o.0 ∙ rest.each u ∙ ap (λ b. if b then left else part u) o.0
      ];
    }

joined : (history : List Entry) (part : ℕ → List Entry) → Parts history part → Joined history part
joined [] part parts = record { entries = []; without = end; each = λ u. sym (parted (parts u)) }
joined (x ∷ xs) part parts = join_one x xs part (joined xs) parts (parted (subst (λ (l : List Entry). IsWithoutLooks l (part x.caller)) (of_same x xs) (parts x.caller))) where
  of_same : (e : Entry) (es : List Entry) → of_caller e.caller (e ∷ es) ≡ e ∷ of_caller e.caller es
  of_same e es = elim (eqb_tells e.caller e.caller) [
    | inl i ↦ ap (λ b. if b then e ∷ of_caller e.caller es else of_caller e.caller es) i.0
    | inr o ↦ absurd (o.1 refl)
  ]

-- the records are the commits of the history
pub are_commits : (limit n : ℕ) (first last : Store) (history : List Entry) (threads : List (List Command)) (records : List (List Record)) → AreRunBy GivesBehindLooks limit n 0 history threads records → IsBelowCallers (length threads) history → IsLegal first history last
    → AreCommitsOf limit n first history last threads records
are_commits limit n first last history threads records run below legal =
    let part : ℕ → List Entry = λ u. record_entries u 1 (slice_index_or records u []) in
    let more : length threads ≡ 0 + length threads = omega arith in
    let here : (u : ℕ) → 0 + u ≡ u = λ u. omega arith in
    let whole = joined history part (λ u.
    subst (λ (j : ℕ). IsWithoutLooks (of_caller j history) (record_entries j 1 (slice_index_or records u []))) (here u) (part_from limit n 0 history threads records run (subst (λ (m : ℕ). IsBelowCallers m history) more below) u)) in record {
      commits = whole.entries;
      without = whole.without;
      legal = legal_without last whole.without first legal;
      run = run_by_just limit GivesBehindLooks n 0 history whole.entries threads records run (λ u. subst (λ (j : ℕ). of_caller j whole.entries ≡ record_entries j 1 (slice_index_or records u [])) (sym (here u)) (whole.each u));
      nobody_else = below_without (length threads) whole.without below;
    }
