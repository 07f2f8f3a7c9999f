-- The places of a run determine its records.
use Rattle.std.proofs.Common.{◌≡◌, ◌≢◌, ◌⊎◌, inl, inr, ℕ, zero, suc, ◌+◌, ◌<◌, ◌≤◌, ◌==◌, true, false, cond, List, [], ◌∷◌, map, Option, Some, None, Contains, refl, sym, ap, ap₂, subst, ◌∙◌, arith, slice_index_or, ne_eqb}
use Rattle.std.proofs.lemmas.Bool.Decides.{nat_tests}
use Rattle.std.specs.Prelude.{slice_get}
use Rattle.std.specs.Option.{option_map}
use Rattle.kc_history.proofs.Choice.{some_is}
use Rattle.kc_history.proofs.Ready.{same_or, more_same, more_other}
use Rattle.kc_history.specs.Order.{Footprints, Chooses, IsCanonical, one_record_more, raised}
use Rattle.kc_history.specs.Records.{record_at, footprint_at}
use Rattle.kc_history.specs.declared.record.Mark.{Mark}
use Rattle.kc_history.specs.declared.record.Place.{Place}
use Rattle.kc_history.specs.declared.record.Record.{Record}
use Rattle.kc_model.specs.Footprint.{read_at, put_at, read_location, put_location}
use Rattle.kc_model.specs.Rising.{IsRising, IsRisingAbove}
use Rattle.kc_model.specs.Store.{Store, after}
use Rattle.kc_model.specs.declared.footprint.Footprint.{Footprint}
use Rattle.kc_model.specs.declared.footprint.Put.{Put}
use Rattle.kc_model.specs.declared.footprint.Seen.{Seen}
use Rattle.kc_model.specs.declared.reply.Answer.{Answer}
use Rattle.kc_script_bundle.specs.Script.{Script}
use Rattle.kc_script_bundle.specs.declared.operation.Command.{Command}
use Rattle.kc_script_runs.specs.Labels.{Label, label, labels, ThreadsHaveRecords}
use Rattle.kc_script_runs.specs.Run.{IsCommit, IsScriptRun, Replays, opening_store}
use Rattle.kc_xt.specs.Commit.{kept, run_on}
use Rattle.kc_xt.specs.Meaning.{Meaning, Makes, Touch}

-- ---- a list that rises, by what it has at each location

module _ {X : Type 0} (loc : X → ℕ) (at : List X → ℕ → Option X) (none : (l : ℕ) → at [] l ≡ None) (first : (x : X) (xs : List X) (l : ℕ) → at (x ∷ xs) l ≡ cond (loc x == l) (Some x) (at xs l)) where
  here : (x : X) (xs : List X) → at (x ∷ xs) (loc x) ≡ Some x
  here x xs = let e : (loc x == loc x) ≡ true = grind (arith, nat_tests) in first x xs (loc x) ∙ rw e refl

  past : (x : X) (xs : List X) (l : ℕ) → loc x ≢ l → at (x ∷ xs) l ≡ at xs l
  past x xs l ne = let e : (loc x == l) ≡ false = ne_eqb (loc x) l ne in first x xs l ∙ rw e refl

  none_to : (n l : ℕ) → l ≤ n → (xs : List X) → IsRisingAbove n (map loc xs) → at xs l ≡ None
  none_to n l le [] rise = none l
  none_to n l le (x ∷ xs) rise =
      let far : loc x ≢ l = λ e. (let lt = rise.0 in omega arith) in
      let next : l ≤ loc x = (let lt = rise.0 in omega arith) in
      past x xs l far ∙ none_to (loc x) l next xs rise.1

  none_below : (l : ℕ) (x : X) (xs : List X) → l < loc x → IsRisingAbove (loc x) (map loc xs) → at (x ∷ xs) l ≡ None
  none_below l x xs lt rise =
      let far : loc x ≢ l = λ e. (omega arith) in
      let next : l ≤ loc x = omega arith in
      past x xs l far ∙ none_to (loc x) l next xs rise

  apart : (x : X) → None ≡ Some x → ⊥
  apart x e = cc

  below_or : (a b : ℕ) → a ≢ b → (a < b) ⊎ (b < a)
  below_or zero zero ne = absurd (ne refl)
  below_or zero (suc b) ne = inl (omega arith)
  below_or (suc a) zero ne = inr (omega arith)
  below_or (suc a) (suc b) ne = elim (below_or a b (λ e. ne (ap suc e))) [ inl lt ↦ inl (omega arith) | inr lt ↦ inr (omega arith) ]

  one_list : (xs ys : List X) → IsRising (map loc xs) → IsRising (map loc ys) → ((l : ℕ) → at xs l ≡ at ys l) → xs ≡ ys
  one_list [] [] r q same = refl
  one_list [] (y ∷ ys) r q same = absurd (apart y (sym (none (loc y)) ∙ same (loc y) ∙ here y ys))
  one_list (x ∷ xs) [] r q same = absurd (apart x (sym (none (loc x)) ∙ sym (same (loc x)) ∙ here x xs))
  one_list (x ∷ xs) (y ∷ ys) r q same = elim (same_or (loc x) (loc y)) [
    | inl e ↦
        let e' : x ≡ y = some_is x y (sym (here x xs) ∙ same (loc x) ∙ ap (at (y ∷ ys)) e ∙ here y ys) in
        let rest : (l : ℕ) → at xs l ≡ at ys l = λ l. elim (same_or (loc x) l) [
          | inl i ↦
              let le : l ≤ loc x = omega (arith, i) in
              let le' : l ≤ loc y = omega (arith, i, e) in
              none_to (loc x) l le xs r ∙ sym (none_to (loc y) l le' ys q)
          | inr ne ↦ sym (past x xs l ne) ∙ same l ∙ past y ys l (λ i. ne (e ∙ i))
        ] in
        ap₂ (λ (z : X) (zs : List X). z ∷ zs) e' (one_list xs ys (rising_of (loc x) (map loc xs) r) (rising_of (loc y) (map loc ys) q) rest)
    | inr ne ↦ absurd (elim (below_or (loc x) (loc y) ne) [
      | inl lt ↦ apart x (sym (none_below (loc x) y ys lt q) ∙ sym (same (loc x)) ∙ here x xs)
      | inr lt ↦ apart y (sym (none_below (loc y) x xs lt r) ∙ same (loc y) ∙ here y ys)
    ])
  ]
    where
      rising_of : (n : ℕ) (ns : List ℕ) → IsRisingAbove n ns → IsRising ns
      rising_of n [] rise = tt
      rising_of n (k ∷ ks) rise = rise.1

pub reads_are_one : (xs ys : List Seen) → IsRising (map read_location xs) → IsRising (map read_location ys) → ((l : ℕ) → read_at xs l ≡ read_at ys l) → xs ≡ ys
reads_are_one = one_list read_location read_at (λ l. refl) (λ x xs l. refl)

pub puts_are_one : (xs ys : List Put) → IsRising (map put_location xs) → IsRising (map put_location ys) → ((l : ℕ) → put_at xs l ≡ put_at ys l) → xs ≡ ys
puts_are_one = one_list put_location put_at (λ l. refl) (λ x xs l. refl)

-- ---- a commit

-- touches make one footprint on a store
pub made_are_one : (s : Store) (ts : List Touch) (f g : Footprint) → Makes s ts f → Makes s ts g → f ≡ g
made_are_one s ts f g h k =
    let reads : f.reads.items ≡ g.reads.items = reads_are_one f.reads.items g.reads.items h.well_made.reads_rise k.well_made.reads_rise (λ l. h.reads l ∙ sym (k.reads l)) in
    let puts : f.puts.items ≡ g.puts.items = puts_are_one f.puts.items g.puts.items h.well_made.puts_rise k.well_made.puts_rise (λ l. h.puts l ∙ sym (k.puts l)) in
    ap₂ (λ (xs : List Seen) (ys : List Put). let z : Footprint = record { reads = record { items = xs }; puts = record { items = ys } } in z) reads puts

-- a meaning has one commit on a store
pub commits_are_one : (m : Meaning) (s : Store) (r q : Record) → IsCommit m s r → IsCommit m s q → (r.answer ≡ q.answer) × (r.footprint ≡ q.footprint)
commits_are_one m s r q h k =
    let same : r.answer ≡ q.answer = some_is r.answer q.answer (sym (h.answers.run s h.finds) ∙ k.answers.run s k.finds) in
    let made : Makes s (kept q.answer (run_on m s).touches) r.footprint = subst (λ (a : Answer). Makes s (kept a (run_on m s).touches) r.footprint) same (h.answers.makes s h.finds) in
    (same, made_are_one s (kept q.answer (run_on m s).touches) r.footprint q.footprint made (k.answers.makes s k.finds))

-- ---- its label

-- what the record at a place is of
abbrev pub label_at : ℕ → List (List Command) → ℕ → ℕ → Option Label
label_at thread threads t k = slice_get (labels (thread + t) 1 (slice_index_or threads t [])) k

get_mapped : {A B : Type 0} (f : A → B) (xs : List A) (j : ℕ) (x : A) → slice_get xs j ≡ Some x → slice_get (map f xs) j ≡ Some (f x)
get_mapped f [] j x e = absurd (cc)
get_mapped f (y ∷ xs) zero x e = ap (λ z. Some (f z)) (some_is y x e)
get_mapped f (y ∷ xs) (suc j) x e = get_mapped f xs j x e

pub labelled_at : (thread : ℕ) (threads : List (List Command)) (records : List (List Record)) → ThreadsHaveRecords thread threads records → (t k : ℕ) (r : Record) → record_at records t k ≡ Some r → label_at thread threads t k ≡ Some (label r)
labelled_at thread [] [] h t k r at = absurd (cc)
labelled_at thread [] (rs ∷ records) h t k r at = absurd h
labelled_at thread (cs ∷ threads) [] h t k r at = absurd h
labelled_at thread (cs ∷ threads) (rs ∷ records) h zero k r at =
    let z : thread ≡ thread + 0 = omega arith in
    subst (λ (j : ℕ). slice_get (labels j 1 cs) k ≡ Some (label r)) z (ap (λ ls. slice_get ls k) (sym h.0) ∙ get_mapped label rs k r at)
labelled_at thread (cs ∷ threads) (rs ∷ records) h (suc t) k r at =
    let s : thread + 1 + t ≡ thread + suc t = omega arith in
    subst (λ (j : ℕ). slice_get (labels j 1 (slice_index_or threads t [])) k ≡ Some (label r)) s (labelled_at (thread + 1) threads records h.1 t k r at)

-- ---- a replay

pub record_is : (r q : Record) → label r ≡ label q → (r.answer ≡ q.answer) × (r.footprint ≡ q.footprint) → r ≡ q
record_is r q l h =
    let t : r.thread ≡ q.thread = ap (λ (x : Label). x.thread) l in
    let m : r.mark ≡ q.mark = ap (λ (x : Label). x.mark) l in
    let one : r ≡ record { thread = q.thread; mark = q.mark; answer = r.answer; footprint = r.footprint } = ap₂ (λ (x : ℕ) (y : Mark). let z : Record = record { thread = x; mark = y; answer = r.answer; footprint = r.footprint } in z) t m in
    one ∙ ap₂ (λ (a : Answer) (f : Footprint). let z : Record = record { thread = q.thread; mark = q.mark; answer = a; footprint = f } in z) h.0 h.1

module _ (limit : ℕ) (threads : List (List Command)) (records others : List (List Record)) (labelled : ThreadsHaveRecords 1 threads records) (also : ThreadsHaveRecords 1 threads others) where
  -- places that are replayed from one store lead to one store, with one record at each
  pub replays_are_one : (ps : List Place) (s e d : Store) → Replays limit threads records s ps e → Replays limit threads others s ps d → (e ≡ d) × ((p : Place) → Contains ps p → record_at records p.thread p.index ≡ record_at others p.thread p.index)
  replays_are_one [] s e d h k = (h ∙ sym k, λ p (i, lt, is). absurd (omega arith))
  replays_are_one (p ∷ ps) s e d (m, r, means, at, commit, rest) (n, q, means', at', commit', rest') =
      let mn : n ≡ m = some_is n m (sym means' ∙ means) in
      let one = commits_are_one m s r q commit (subst (λ (x : Meaning). IsCommit x s q) mn commit') in
      let named : label r ≡ label q = some_is (label r) (label q) (sym (labelled_at 1 threads records labelled p.thread p.index r at) ∙ labelled_at 1 threads others also p.thread p.index q at') in
      let same : r ≡ q = record_is r q named one in
      let on = replays_are_one ps (after r.footprint s) e d rest (subst (λ (x : Record). Replays limit threads others (after x.footprint s) ps d) (sym same) rest') in
      (on.0, λ x inside. first_or ps p x inside (at ∙ ap Some same ∙ sym at') (on.1 x))
    where
      first_or : (ps : List Place) (p x : Place) → Contains (p ∷ ps) x → record_at records p.thread p.index ≡ record_at others p.thread p.index → (Contains ps x → record_at records x.thread x.index ≡ record_at others x.thread x.index) → record_at records x.thread x.index ≡ record_at others x.thread x.index
      first_or ps p x (zero, lt, is) e later = subst (λ (y : Place). record_at records y.thread y.index ≡ record_at others y.thread y.index) is e
      first_or ps p x (suc i, lt, is) e later = later (i, omega arith, is)

-- ---- a run

abbrev pub place : ℕ → ℕ → Place
place t k = record { thread = t; index = k }

-- what stands at last, and did not stand at first, was chosen between
pub chosen_has : (a : Footprints) (ps : List Place) (n v m w : ℕ → ℕ) → Chooses a n v ps m w → (u k : ℕ) → n u ≤ k → k < m u → Contains ps (place u k)
chosen_has a [] n v m w (e, f) u k le lt = absurd (let same : m u ≡ n u = ap (λ (g : ℕ → ℕ). g u) e in omega arith)
chosen_has a (p ∷ ps) n v m w (f, chosen, rest) u k le lt = elim (same_or u p.thread) [
  | inl e ↦ elim (same_or k (n u)) [
    | inl i ↦
        let index : p.index ≡ k = chosen.ready.next.0 ∙ ap n (sym e) ∙ sym i in
        (0, omega arith, ap₂ place (sym e) index)
    | inr ne ↦
        let stands : one_record_more p.thread n u ≡ n u + 1 = more_same p.thread n u e in
        later p ps (place u k) (chosen_has a ps (one_record_more p.thread n) (raised f v) m w rest u k (omega arith) lt)
  ]
  | inr ne ↦
      let stands : one_record_more p.thread n u ≡ n u = more_other p.thread n u ne in
      later p ps (place u k) (chosen_has a ps (one_record_more p.thread n) (raised f v) m w rest u k (omega arith) lt)
] where
  later : (p : Place) (ps : List Place) (q : Place) → Contains ps q → Contains (p ∷ ps) q
  later p ps q (i, lt, is) = (suc i, omega arith, is)

-- a canonical order has a place for each record
pub canonical_has : (records : List (List Record)) (order : List Place) → IsCanonical (footprint_at records) order → (t k : ℕ) (r : Record) → record_at records t k ≡ Some r → Contains order (place t k)
canonical_has records order canonical t k r at =
    let below : k < canonical.stand t = canonical.all t k r.footprint (ap (option_map (λ (q : Record). q.footprint)) at) in
    chosen_has (footprint_at records) order (λ _. 0) (λ _. 0) canonical.stand canonical.versions canonical.chooses t k (omega arith) below

same_list : {X : Type 0} (xs ys : List X) → ((k : ℕ) → slice_get xs k ≡ slice_get ys k) → xs ≡ ys
same_list [] [] same = refl
same_list [] (y ∷ ys) same = absurd (cc (same zero))
same_list (x ∷ xs) [] same = absurd (cc (same zero))
same_list {X} (x ∷ xs) (y ∷ ys) same = ap₂ (λ (z : X) (zs : List X). z ∷ zs) (some_is x y (same zero)) (same_list xs ys (λ k. same (suc k)))

-- lists for the same threads, with the same record at each place, are the same
pub same_lists : (j : ℕ) (threads : List (List Command)) (records others : List (List Record)) → ThreadsHaveRecords j threads records → ThreadsHaveRecords j threads others → ((t k : ℕ) → record_at records t k ≡ record_at others t k) → records ≡ others
same_lists j [] [] [] h i same = refl
same_lists j [] [] (q ∷ others) h i same = absurd i
same_lists j [] (r ∷ records) others h i same = absurd h
same_lists j (cs ∷ threads) [] others h i same = absurd h
same_lists j (cs ∷ threads) (rs ∷ records) [] h i same = absurd i
same_lists j (cs ∷ threads) (rs ∷ records) (qs ∷ others) h i same =
    ap₂ (λ (z : List Record) (zs : List (List Record)). z ∷ zs) (same_list rs qs (λ k. same zero k)) (same_lists (j + 1) threads records others h.1 i.1 (λ t k. same (suc t) k))

-- the order of a run determines its records and its last store
pub runs_are_one : (script : Script) (records others : List (List Record)) (order : List Place) (last end : Store) → IsScriptRun script records order last → IsScriptRun script others order end → (records ≡ others) × (last ≡ end)
runs_are_one script records others order last end run also =
    let one = replays_are_one script.limit script.threads records others run.threads also.threads order (opening_store script) last end run.replays also.replays in
    let at : (t k : ℕ) → record_at records t k ≡ record_at others t k = λ t k. by t k (record_at records t k) (record_at others t k) refl refl one.1 in
    (same_lists 1 script.threads records others run.threads also.threads at, one.0)
  where
    by : (t k : ℕ) (o p : Option Record) → record_at records t k ≡ o → record_at others t k ≡ p → ((p : Place) → Contains order p → record_at records p.thread p.index ≡ record_at others p.thread p.index) → record_at records t k ≡ record_at others t k
    by t k None None e f same = e ∙ sym f
    by t k (Some r) p e f same = same (place t k) (canonical_has records order run.canonical t k r e)
    by t k None (Some q) e f same = same (place t k) (canonical_has others order also.canonical t k q f)
