-- On which side of a cut an entry stands: the version from which it puts tells.
use Rattle.std.proofs.Common.{◌≡◌, ◌≤◌, ◌<◌, ◌==◌, ℕ, zero, suc, ◌+◌, ◌⊎◌, inl, inr, Bool, true, false, cond, List, [], ◌∷◌, Option, None, Some, length, get_or, refl, sym, ap, ◌∙◌, subst, arith, eqb-true}
use Rattle.std.proofs.lemmas.Bool.{cases_lt}
use Rattle.std.specs.Prelude.{Contains}
use Rattle.kc_lasting.proofs.Made.{never_lower}
use Rattle.kc_lasting.specs.Cuts.{AllFrom, left_by}
use Rattle.kc_lasting.specs.Sides.{PutWhatTheyRead, IsCutOff, PutsThere}
use Rattle.kc_model.proofs.Stores.{Contains-first, Contains-later}
use Rattle.kc_model.specs.Footprint.{PutsWhatItReads, put_at}
use Rattle.kc_model.specs.Legal.{IsLegal}
use Rattle.kc_model.specs.Store.{Finds, Store, after, cell_after}
use Rattle.kc_model.specs.declared.footprint.Entry.{Entry}
use Rattle.kc_model.specs.declared.footprint.Footprint.{Footprint}
use Rattle.kc_model.specs.declared.footprint.Put.{Put}
use Rattle.kc_model.specs.declared.footprint.Seen.{Seen}
use Rattle.kc_model.specs.declared.plain_store.Cell.{Cell}
use Rattle.kc_store.proofs.Among.{first_or_later, nothing_in}
use Rattle.kc_store.specs.Knows.{IsWithin, here, later}
use Rattle.kc_store.specs.Views.{StoreView, store_opening}
use Rattle.kc_store.specs.kc_machine_traces.Histories.{made, seen_as_cell}

-- ---- puts

put_found : (ps : List Put) (l : ℕ) (q : Put) → put_at ps l ≡ Some q → Contains ps q × (q.loc.0 ≡ l)
put_found [] l q e = absurd (cc)
put_found (p ∷ ps) l q e = go (p.loc.0 == l) refl e (put_found ps l q)
  where
    some_or : Option Put → Put → Put
    some_or None d = d
    some_or (Some x) d = x

    go : (b : Bool) → (p.loc.0 == l) ≡ b → cond b (Some p) (put_at ps l) ≡ Some q → (put_at ps l ≡ Some q → Contains ps q × (q.loc.0 ≡ l)) → Contains (p ∷ ps) q × (q.loc.0 ≡ l)
    go true at e ih =
        let is : p ≡ q = ap (λ (o : Option Put). some_or o p) e in
        (subst (Contains (p ∷ ps)) is (Contains-first p ps), ap (λ (x : Put). x.loc.0) (sym is) ∙ eqb-true _ _ at)
    go false at e ih = let f = ih e in (Contains-later p ps q f.0, f.1)

-- a put ends the version that stands at its entry's place
ends_version : (f : Footprint) (s : Store) (l : ℕ) (q : Put) → PutsWhatItReads f → Finds f s → put_at f.puts.items l ≡ Some q → (s l).version ≡ q.version
ends_version f s l q well finds at =
    let found = put_found f.puts.items l q at in
    let read = well q found.0 in
    let r = read.0 in
    let stood : s r.loc.0 ≡ record { version = r.version; value = r.value } = finds r read.1 in
    let here : r.loc.0 ≡ l = read.2 ∙ found.1 in
    ap (λ (n : ℕ). (s n).version) (sym here) ∙ ap (λ (c : Cell). c.version) stood ∙ read.3

-- ---- one entry more

raises : (f : Footprint) (s : Store) (l : ℕ) (q : Put) → put_at f.puts.items l ≡ Some q → (after f s l).version ≡ (s l).version + 1
raises f s l q at = ap (λ (o : Option Put). (cell_after o (s l)).version) at

stays : (f : Footprint) (s : Store) (l : ℕ) → put_at f.puts.items l ≡ None → (after f s l).version ≡ (s l).version
stays f s l at = ap (λ (o : Option Put). (cell_after o (s l)).version) at

first_made : (x : Entry) (es : List Entry) → PutWhatTheyRead (x ∷ es) → PutsWhatItReads x.footprint
first_made x es made = made x (Contains-first x es)

rest_made : (x : Entry) (es : List Entry) → PutWhatTheyRead (x ∷ es) → PutWhatTheyRead es
rest_made x es made e c = made e (Contains-later x es e c)

no_lower_after : (x : Entry) (s : Store) (l : ℕ) → (s l).version ≤ (after x.footprint s l).version
no_lower_after x s l = never_lower (x ∷ []) s l

-- ---- entries of a legal list

-- its put ends a version that the last store is past
pub is_past : (es : List Entry) (s e : Store) (x : Entry) (l : ℕ) (q : Put) → IsLegal s es e → PutWhatTheyRead es → Contains es x → PutsThere x l q → q.version < (made s es l).version
is_past [] s e x l q legal wm c at = nothing_in x c
is_past (y ∷ es) s e x l q legal wm c at = go (first_or_later y es x c) (λ c. is_past es (after y.footprint s) e x l q legal.1 (rest_made y es wm) c at)
  where
    go : (y ≡ x) ⊎ Contains es x → (Contains es x → q.version < (made (after y.footprint s) es l).version) → q.version < (made s (y ∷ es) l).version
    go (inl is) ih =
        let at' : PutsThere y l q = subst (λ (z : Entry). PutsThere z l q) (sym is) at in
        let ends = ends_version y.footprint s l q (first_made y es wm) legal.0 at' in
        let one = raises y.footprint s l q at' in
        let more = never_lower es (after y.footprint s) l in
        omega (arith, ends, one, more)
    go (inr c) ih = ih c

-- and no lower one than stood at first
pub is_above : (es : List Entry) (s e : Store) (x : Entry) (l : ℕ) (q : Put) → IsLegal s es e → PutWhatTheyRead es → Contains es x → PutsThere x l q → (s l).version ≤ q.version
is_above [] s e x l q legal wm c at = nothing_in x c
is_above (y ∷ es) s e x l q legal wm c at = go (first_or_later y es x c) (λ c. is_above es (after y.footprint s) e x l q legal.1 (rest_made y es wm) c at)
  where
    go : (y ≡ x) ⊎ Contains es x → (Contains es x → (after y.footprint s l).version ≤ q.version) → (s l).version ≤ q.version
    go (inl is) ih =
        let at' : PutsThere y l q = subst (λ (z : Entry). PutsThere z l q) (sym is) at in
        let ends = ends_version y.footprint s l q (first_made y es wm) legal.0 at' in
        omega (arith, ends)
    go (inr c) ih =
        let up = no_lower_after y s l in
        let rest = ih c in
        omega (arith, up, rest)

-- two entries that put a location from one version are one
pub one_put : (es : List Entry) (s e : Store) (x y : Entry) (l : ℕ) (p q : Put) → IsLegal s es e → PutWhatTheyRead es → Contains es x → Contains es y → PutsThere x l p → PutsThere y l q → p.version ≡ q.version → x ≡ y
one_put [] s e x y l p q legal wm cx cy px py same = nothing_in x cx
one_put (z ∷ es) s e x y l p q legal wm cx cy px py same = go (first_or_later z es x cx) (first_or_later z es y cy) (λ a b. one_put es (after z.footprint s) e x y l p q legal.1 (rest_made z es wm) a b px py same)
  where
    -- one is the first, and the other stands behind
    apart : {A : Type 0} (x y : Entry) (p q : Put) → z ≡ x → Contains es y → PutsThere x l p → PutsThere y l q → p.version ≡ q.version → A
    apart x y p q is cy px py same =
        let at : PutsThere z l p = subst (λ (w : Entry). PutsThere w l p) (sym is) px in
        let ends = ends_version z.footprint s l p (first_made z es wm) legal.0 at in
        let one = raises z.footprint s l p at in
        let above = is_above es (after z.footprint s) e y l q legal.1 (rest_made z es wm) cy py in
        absurd (omega (arith, ends, one, above, same))

    go : (z ≡ x) ⊎ Contains es x → (z ≡ y) ⊎ Contains es y → (Contains es x → Contains es y → x ≡ y) → x ≡ y
    go (inl a) (inl b) ih = sym a ∙ b
    go (inl a) (inr c) ih = apart x y p q a c px py same
    go (inr c) (inl b) ih = sym (apart y x q p b c py px (sym same))
    go (inr a) (inr b) ih = ih a b

-- an entry of the list that puts a location from this version
pub record PutFrom (es : List Entry) (l v : ℕ) : Type 0 where
  pub entry : Entry
  pub among : Contains es entry
  pub put : Put
  pub at : PutsThere entry l put
  pub version : put.version ≡ v

put_later : (z : Entry) (es : List Entry) (l v : ℕ) → PutFrom es l v → PutFrom (z ∷ es) l v
put_later z es l v f = record { entry = f.entry; among = Contains-later z es f.entry f.among; put = f.put; at = f.at; version = f.version }

-- each version that is past was put from
pub was_put : (es : List Entry) (s e : Store) (l v : ℕ) → IsLegal s es e → PutWhatTheyRead es → (s l).version ≤ v → v < (made s es l).version → PutFrom es l v
was_put [] s e l v legal wm low high = absurd (omega (arith, low, high))
was_put (z ∷ es) s e l v legal wm low high = go (put_at z.footprint.puts.items l) refl (λ up. put_later z es l v (was_put es (after z.footprint s) e l v legal.1 (rest_made z es wm) up high))
  where
    go : (o : Option Put) → put_at z.footprint.puts.items l ≡ o → ((after z.footprint s l).version ≤ v → PutFrom (z ∷ es) l v) → PutFrom (z ∷ es) l v
    go None at behind = let same = stays z.footprint s l at in behind (omega (arith, same, low))
    go (Some q) at behind = which (cases_lt (s l).version v)
      where
        which : ((s l).version < v) ⊎ (v ≤ (s l).version) → PutFrom (z ∷ es) l v
        which (inl below) =
            let one = raises z.footprint s l q at in
            behind (omega (arith, one, below))
        which (inr up) =
            let ends = ends_version z.footprint s l q (first_made z es wm) legal.0 at in
            record { entry = z; among = Contains-first z es; put = q; at = at; version = omega (arith, ends, low, up) }

-- ---- parts

pub within_contains : (a b : List Entry) (x : Entry) → IsWithin a b → Contains a x → Contains b x
within_contains [] b x w c = nothing_in x c
within_contains (y ∷ a) [] x w c = elim w [ ]
within_contains (y ∷ a) (z ∷ b) x (here w) c = go (first_or_later y a x c) (within_contains a b x w)
  where
    go : (y ≡ x) ⊎ Contains a x → (Contains a x → Contains b x) → Contains (y ∷ b) x
    go (inl is) ih = subst (Contains (y ∷ b)) is (Contains-first y b)
    go (inr c) ih = Contains-later y b x (ih c)
within_contains (y ∷ a) (z ∷ b) x (later w) c = Contains-later z b x (within_contains (y ∷ a) b x w c)

pub all_at : (p : ℕ → Seen → Type 0) (k i : ℕ) (rs : List Seen) (d : Seen) → i < length rs → AllFrom p k rs → p (k + i) (get_or rs i d)
all_at p k i [] d lt all = absurd (omega (arith, lt))
all_at p k zero (r ∷ rs) d lt all = subst (λ (n : ℕ). p n r) (omega arith) all.0
all_at p k (suc i) (r ∷ rs) d lt all = subst (λ (n : ℕ). p n (get_or rs i d)) (omega arith) (all_at p (suc k) i rs d (omega (arith, lt)) all.1)

module _ (z : StoreView) (part whole : List Entry) (cells : List Seen) (e : Store) (c : IsCutOff z part whole cells e) (x : Entry) (l : ℕ) (q : Put) (d : Seen) (lt : l < length cells) (at : PutsThere x l q) where
  version_there : (left_by z part l).version ≡ (get_or cells l d).version
  version_there = subst (λ (n : ℕ). (left_by z part n).version ≡ (get_or cells l d).version) (omega arith) (ap (λ (c : Cell). c.version) (all_at (λ (l : ℕ) (r : Seen). (r.loc.0 ≡ l) × (left_by z part l ≡ seen_as_cell r)) 0 l cells d lt c.cut.stands).1)

  part_made : PutWhatTheyRead part
  part_made y among = c.made y (within_contains part whole y c.within among)

  pub stands_before : Contains part x → q.version < (get_or cells l d).version
  stands_before among =
      let past = is_past part (store_opening z) (left_by z part) x l q c.cut.legal part_made among at in
      let there = version_there in
      omega (arith, past, there)

  pub is_in_part : Contains whole x → q.version < (get_or cells l d).version → Contains part x
  is_in_part among low =
      let there = version_there in
      let above = is_above whole (store_opening z) e x l q c.legal c.made among at in
      let f = was_put part (store_opening z) (left_by z part) l q.version c.cut.legal part_made above (omega (arith, low, there)) in
      subst (Contains part) (one_put whole (store_opening z) e f.entry x l f.put q c.legal c.made (within_contains part whole f.entry c.within f.among) among f.at at f.version) f.among
