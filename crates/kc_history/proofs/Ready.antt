-- The first record of a legal list is ready.
use Rattle.std.proofs.Common.{◌≡◌, ◌≢◌, ◌⊎◌, inl, inr, ℕ, zero, suc, ◌+◌, ◌<◌, ◌≤◌, List, [], ◌∷◌, cond, Option, Some, None, Contains, refl, sym, ap, ap₂, ◌∙◌, subst, length, slice_index_or, arith, eq-eqb, ne_eqb}
use Rattle.std.proofs.Math.Path.{fun_ext}
use Rattle.kc_history.proofs.Choice.{some_is}
use Rattle.kc_history.specs.Order.{Footprints, one_record_more, IsNext, Legal, version_after, raised, Ready}
use Rattle.kc_history.specs.declared.record.Place.{Place}
use Rattle.kc_model.specs.Footprint.{Reads, Puts, PutsWhatItReads, put_at}
use Rattle.kc_model.specs.Store.{Store, cell_after, after, Finds}
use Rattle.kc_model.specs.declared.footprint.Footprint.{Footprint}
use Rattle.kc_model.specs.declared.footprint.Put.{Put}
use Rattle.kc_model.specs.declared.footprint.Seen.{Seen}
use Rattle.kc_model.specs.declared.plain_store.Cell.{Cell}

-- the versions of a store
abbrev pub versions : Store → ℕ → ℕ
versions s l = (s l).version

-- two numbers are equal or not
pub same_or : (a b : ℕ) → (a ≡ b) ⊎ (a ≢ b)
same_or zero zero = inl refl
same_or zero (suc b) = inr (λ h. omega arith)
same_or (suc a) zero = inr (λ h. omega arith)
same_or (suc a) (suc b) = elim (same_or a b) [ inl e ↦ inl (ap suc e) | inr n ↦ inr (λ h. n (omega arith)) ]

-- of the thread one more record stands
pub more_same : (t : ℕ) (n : ℕ → ℕ) (u : ℕ) → u ≡ t → one_record_more t n u ≡ n u + 1
more_same t n u e = ap (λ b. cond b (n u + 1) (n u)) (eq-eqb u t e)

-- of another thread as many stand as before
pub more_other : (t : ℕ) (n : ℕ → ℕ) (u : ℕ) → u ≢ t → one_record_more t n u ≡ n u
more_other t n u e = ap (λ b. cond b (n u + 1) (n u)) (ne_eqb u t e)

-- a put of the location in the list
abbrev FirstAt : Put → List Put → ℕ → Type 0
FirstAt q ps l = Contains ps q × (q.loc.0 ≡ l)

-- what is in a list is in one with a put before it
first_later : (p : Put) (ps : List Put) (q : Put) (l : ℕ) → FirstAt q ps l → FirstAt q (p ∷ ps) l
first_later p ps q l h = ((suc h.0.0, omega arith, h.0.2), h.1)

-- nothing is not something
pub no_some : {A : Type 0} (x : A) → None ≡ Some x → ⊥
no_some x e = cc

-- the put of a location is in the list
put_at_some : (ps : List Put) (l : ℕ) (q : Put) → put_at ps l ≡ Some q → FirstAt q ps l
put_at_some [] l q e = absurd (no_some q e)
put_at_some (p ∷ ps) l q e = elim (same_or p.loc.0 l) [
  | inl h ↦ let i : p ≡ q = some_is p q (ap (λ b. cond b (Some p) (put_at ps l)) (sym (eq-eqb p.loc.0 l h)) ∙ e) in
      ((0, omega arith, i), ap (λ (x : Put). x.loc.0) (sym i) ∙ h)
  | inr h ↦ first_later p ps q l (put_at_some ps l q (ap (λ b. cond b (Some p) (put_at ps l)) (sym (ne_eqb p.loc.0 l h)) ∙ e))
]

-- where the list has a put of a location, the location has a put
put_at_has : (ps : List Put) (l : ℕ) (q : Put) (k : ℕ) → k < length ps → slice_index_or ps k q ≡ q → q.loc.0 ≡ l → (x : Put) × (put_at ps l ≡ Some x)
put_at_has [] l q k h e f = absurd (omega arith)
put_at_has (p ∷ ps) l q zero h e f = (p, ap (λ b. cond b (Some p) (put_at ps l)) (eq-eqb p.loc.0 l (ap (λ (x : Put). x.loc.0) e ∙ f)))
put_at_has (p ∷ ps) l q (suc k) h e f = elim (same_or p.loc.0 l) [
  | inl g ↦ (p, ap (λ b. cond b (Some p) (put_at ps l)) (eq-eqb p.loc.0 l g))
  | inr g ↦ let i = put_at_has ps l q k (omega arith) e f in (i.0, ap (λ b. cond b (Some p) (put_at ps l)) (ne_eqb p.loc.0 l g) ∙ i.1)
]

-- the footprint puts nothing there
abbrev pub Skips : Footprint → ℕ → Type 0
Skips f l = put_at f.puts.items l ≡ None

-- the footprint puts something there
pub record PutAt (f : Footprint) (l : ℕ) : Type 0 where
  pub first : Put
  pub is : put_at f.puts.items l ≡ Some first
  pub stands : Puts f first
  pub there : first.loc.0 ≡ l

-- the put that is found makes up what is put there
is_put_at : (f : Footprint) (l : ℕ) (q : Put) → put_at f.puts.items l ≡ Some q → PutAt f l
is_put_at f l q e = let h = put_at_some f.puts.items l q e in record { first = q; is = e; stands = h.0; there = h.1 }

-- the same, by what is found
skips_or_in : (f : Footprint) (l : ℕ) (o : Option Put) → put_at f.puts.items l ≡ o → Skips f l ⊎ PutAt f l
skips_or_in f l None e = inl e
skips_or_in f l (Some q) e = inr (is_put_at f l q e)

-- a footprint puts something at a location or nothing
pub skips_or : (f : Footprint) (l : ℕ) → Skips f l ⊎ PutAt f l
skips_or f l = skips_or_in f l (put_at f.puts.items l) refl

-- a footprint puts something where one of its puts is
pub puts_there : (f : Footprint) (q : Put) (l : ℕ) → Puts f q → q.loc.0 ≡ l → PutAt f l
puts_there f q l h e = let x = put_at_has f.puts.items l q h.0 h.1 h.2 e in is_put_at f l x.0 x.1

-- where nothing is put the store stays
pub after_skips : (f : Footprint) (s : Store) (l : ℕ) → Skips f l → after f s l ≡ s l
after_skips f s l h = ap (λ o. cell_after o (s l)) h

-- where something is put the version rises by one
pub after_put : (f : Footprint) (s : Store) (l : ℕ) → PutAt f l → versions (after f s) l ≡ versions s l + 1
after_put f s l h = ap (λ o. (cell_after o (s l)).version) h.is

-- no version falls
pub rises : (f : Footprint) (s : Store) (l : ℕ) → versions s l ≤ versions (after f s) l
rises f s l = elim (skips_or f l) [
  | inl h ↦ let e : versions (after f s) l ≡ versions s l = ap (λ (c : Cell). c.version) (after_skips f s l h) in omega arith
  | inr h ↦ let e = after_put f s l h in omega arith
]

-- raised and put, a version is the same
raised_at : (f : Footprint) (s : Store) (l : ℕ) (o : Option Put) → version_after o (versions s l) ≡ (cell_after o (s l)).version
raised_at f s l None = refl
raised_at f s l (Some q) = refl

-- the versions after the puts are those of the store after them
pub raised_versions : (f : Footprint) (s : Store) → raised f (versions s) ≡ versions (after f s)
raised_versions f s = fun_ext (λ l. raised_at f s l (put_at f.puts.items l))

-- a footprint that finds its reads finds their versions
pub found : (f : Footprint) (s : Store) (r : Seen) (l : ℕ) → Finds f s → Reads f r → r.loc.0 ≡ l → versions s l ≡ r.version
found f s r l h d e = ap (versions s) (sym e) ∙ ap (λ (c : Cell). c.version) (h r d)

module _ (a : Footprints) (well : (u k : ℕ) (f : Footprint) → a u k ≡ Some f → PutsWhatItReads f) where
  -- a record that doesn't stand yet is this one, or doesn't stand after it
  pub still : (n : ℕ → ℕ) (p : Place) (f : Footprint) → IsNext a n p f → (u k : ℕ) → n u ≤ k → ((u ≡ p.thread) × (k ≡ p.index)) ⊎ (one_record_more p.thread n u ≤ k)
  still n p f next u k h = elim (same_or u p.thread) [
    | inl e ↦ (elim (same_or k p.index) [
      | inl i ↦ inl (e, i)
      | inr i ↦ let d : n u ≡ p.index = ap n e ∙ sym next.0 in inr (rw (more_same p.thread n u e) (omega arith))
    ])
    | inr e ↦ inr (rw (more_other p.thread n u e) h)
  ]

  -- what a record that doesn't stand yet reads has no version below the store's
  pub later : (e : Store) (ps : List Place) (n : ℕ → ℕ) (s : Store) → Legal a n s ps e → (u k : ℕ) (g : Footprint) → a u k ≡ Some g → n u ≤ k → (r : Seen) → Reads g r → versions s r.loc.0 ≤ r.version
  later e [] n s h u k g at below r d = absurd (let i = h.0 u k g at in omega arith)
  later e (p ∷ ps) n s (f, next, finds, rest) u k g at below r d = elim (still n p f next u k below) [
    | inl (i, j) ↦ let same : f ≡ g = some_is f g (sym next.1 ∙ ap₂ a (sym i) (sym j) ∙ at) in
        let v = found f s r r.loc.0 finds (let P : Footprint → Type 0 = λ f. Reads f r in subst P (sym same) d) refl in omega arith
    | inr i ↦ let v = later e ps (one_record_more p.thread n) (after f s) rest u k g at i r d in let w = rises f s r.loc.0 in omega arith
  ]

  -- a put ends the version that stands
  pub ends_what_stands : (f : Footprint) (v : ℕ → ℕ) → PutsWhatItReads f → ((r : Seen) → Reads f r → v r.loc.0 ≡ r.version) → (q : Put) → Puts f q → v q.loc.0 ≡ q.version
  ends_what_stands f v w reads q h = let (r, d, l, e) = w q h in ap v (sym l) ∙ reads r d ∙ e

  -- the first record of a legal list is ready
  pub first_ready : (e : Store) (p : Place) (ps : List Place) (n : ℕ → ℕ) (s : Store) → (h : Legal a n s (p ∷ ps) e) → Ready a n (versions s) p h.0
  first_ready e p ps n s (f, next, finds, rest) = record {
    next = next;
    reads = λ r d. found f s r r.loc.0 finds d refl;
    alone = λ u k g at below other q h r d l same. elim (still n p f next u k below) [
      | inl (i, j) ↦ other i j
      | inr i ↦
          let v = later e ps (one_record_more p.thread n) (after f s) rest u k g at i r d in
          let w = after_put f s r.loc.0 (puts_there f q r.loc.0 h (sym l)) in
          let x = ends_what_stands f (versions s) (well p.thread p.index f next.1) (λ r d. found f s r r.loc.0 finds d refl) q h in
          let y : versions s r.loc.0 ≡ versions s q.loc.0 = ap (versions s) l in
          omega arith
    ];
  }
