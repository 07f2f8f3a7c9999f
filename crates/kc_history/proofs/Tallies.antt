-- Steps of the counts.
use Rattle.std.proofs.Common.{◌≡◌, ◌≢◌, ◌⊎◌, inl, inr, ℕ, zero, suc, ◌+◌, ◌-◌, ◌<◌, ◌≤◌, List, [], ◌∷◌, Bool, true, false, cond, ◌==◌, ◌&&◌, length, take, slice_index, slice_index_or, slice_set, All, refl, sym, ap, ap₂, ◌∙◌, subst, arith, eq-eqb, ne_eqb, add-zero, add-one, sum_by, get_or-set_other, get_or-set_same, take_all, AllPairs, Option, Some, None, length-take, get_or-take}
use Rattle.std.proofs.lemmas.List.Sums.{sum_by_more, sum_by_more_le}
use Rattle.kc_history.proofs.Ready.{same_or}
use Rattle.kc_history.specs.Counts.{reads_at, readers, width, slot, Slots}
use Rattle.kc_history.specs.Order.{version_after}
use Rattle.kc_model.specs.Footprint.{put_at}
use Rattle.kc_model.specs.declared.footprint.Put.{Put}
use Rattle.kc_model.specs.declared.footprint.Seen.{Seen}

pub all_taken : {X : Type 0} (P : X → Type 0) (xs : List X) (i : ℕ) → length xs ≤ i → All P (take i xs) → All P xs
all_taken P xs i h a = subst (All P) (take_all i xs h) a

-- a whole list is a front of itself
pub taken_all : {X : Type 0} (P : X → Type 0) (xs : List X) → All P xs → All P (take (length xs) xs)
taken_all P xs h = subst (All P) (sym (take_all (length xs) xs (omega arith))) h

pub climbs : (starts : List ℕ) → ((l : ℕ) → l + 1 < length starts → slice_index starts l ≤ slice_index starts (l + 1)) → (l k : ℕ) → l + k < length starts → slice_index starts l ≤ slice_index starts (l + k)
climbs starts rises l zero lt = rw add-zero (omega arith)
climbs starts rises l (suc k) lt =
    let a = climbs starts rises l k (omega arith) in
    let b = rises (l + k) (omega arith) in
    let e : slice_index starts (l + suc k) ≡ slice_index starts (l + k + 1) = ap (slice_index starts) (omega arith) in
    omega arith

-- counts of a lower location lie before
before : (starts : List ℕ) (size : ℕ) → Slots starts size → (l m v w : ℕ) → m + 1 < length starts → v < width starts l → l < m → slot starts l v ≢ slot starts m w
before starts size h l m v w mt vt lt e =
    let a = climbs starts h.rises (l + 1) (m - (l + 1)) (omega arith) in
    let b : slice_index starts (l + 1 + (m - (l + 1))) ≡ slice_index starts m = ap (slice_index starts) (omega arith) in
    omega arith

pub slots_apart : (starts : List ℕ) (size : ℕ) → Slots starts size → (l m v w : ℕ) → l + 1 < length starts → m + 1 < length starts → v < width starts l → w < width starts m → l ≢ m → slot starts l v ≢ slot starts m w
slots_apart starts size h l m v w lt mt vt wt ne e = elim (lower l m ne) [
  | inl i ↦ before starts size h l m v w mt vt i e
  | inr i ↦ before starts size h m l w v lt wt i (sym e)
]
  where
    lower : (l m : ℕ) → l ≢ m → (l < m) ⊎ (m < l)
    lower zero zero n = absurd (n refl)
    lower zero (suc m) n = inl (omega arith)
    lower (suc l) zero n = inr (omega arith)
    lower (suc l) (suc m) n = elim (lower l m (λ h. n (ap suc h))) [ inl i ↦ inl (omega arith) | inr i ↦ inr (omega arith) ]

pub slot_fits : (starts : List ℕ) (size : ℕ) → Slots starts size → (l v : ℕ) → l + 1 < length starts → v < width starts l → slot starts l v < size
slot_fits starts size h l v lt vt = let a = h.ends (l + 1) lt in omega arith

pub one_read : (x v : ℕ) (r : Seen) → r.loc.0 ≡ x → r.version ≡ v → reads_at x v r ≡ true
one_read x v r e f = ap₂ (λ a b. a && b) (eq-eqb r.loc.0 x e) (eq-eqb r.version v f)

pub other_loc : (x v : ℕ) (r : Seen) → r.loc.0 ≢ x → reads_at x v r ≡ false
other_loc x v r e = ap (λ a. a && (r.version == v)) (ne_eqb r.loc.0 x e)

pub other_version : (x v : ℕ) (r : Seen) → r.version ≢ v → reads_at x v r ≡ false
other_version x v r e = elim (same_or r.loc.0 x) [
  | inl i ↦ ap₂ (λ a b. a && b) (eq-eqb r.loc.0 x i) (ne_eqb r.version v e)
  | inr i ↦ other_loc x v r i
]

-- a write at the slot of a read
pub written : (starts left : List ℕ) → Slots starts (length left) → (r : Seen) → r.loc.0 + 1 < length starts → r.version < width starts r.loc.0 → (g : ℕ → ℕ) (x v : ℕ) → x + 1 < length starts → v < width starts x →
    slice_index (slice_set left (slot starts r.loc.0 r.version) (g (slice_index left (slot starts r.loc.0 r.version)))) (slot starts x v) ≡ cond (reads_at x v r) (g (slice_index left (slot starts x v))) (slice_index left (slot starts x v))
written starts left h r rl rv g x v xl xv = elim (same_or r.loc.0 x) [
  | inl i ↦ (elim (same_or r.version v) [
    | inl j ↦
        let e : slot starts x v ≡ slot starts r.loc.0 r.version = ap₂ (slot starts) (sym i) (sym j) in
        let lt : slot starts r.loc.0 r.version < length left = slot_fits starts (length left) h r.loc.0 r.version rl rv in
        rw (e, one_read x v r i j) (rw get_or-set_same refl)
    | inr j ↦
        let ne : slot starts x v ≢ slot starts r.loc.0 r.version = (λ e. j (let s : slice_index starts r.loc.0 ≡ slice_index starts x = ap (slice_index starts) i in omega arith)) in
        rw (get_or-set_other, other_version x v r j) refl
  ])
  | inr i ↦
      let ne : slot starts x v ≢ slot starts r.loc.0 r.version = (λ e. slots_apart starts (length left) h r.loc.0 x r.version v rl xl rv xv i (sym e)) in
      rw (get_or-set_other, other_loc x v r i) refl
]

pub readers_more : (x v : ℕ) (rs : List Seen) (i : ℕ) (d : Seen) → i < length rs → readers x v (take (i + 1) rs) ≡ readers x v (take i rs) + cond (reads_at x v (slice_index_or rs i d)) 1 0
readers_more x v rs i d lt = sum_by_more (λ r. cond (reads_at x v r) 1 0) rs i d lt

plus : (b : Bool) (m n k : ℕ) → m ≡ n + k → cond b (m + 1) m ≡ n + (k + cond b 1 0)
plus true m n k e = omega arith
plus false m n k e = omega arith

-- one more read is counted
pub counted_more : (starts left old : List ℕ) → Slots starts (length left) → (rs : List Seen) (i : ℕ) (d : Seen) → i < length rs → (slice_index_or rs i d).loc.0 + 1 < length starts → (slice_index_or rs i d).version < width starts (slice_index_or rs i d).loc.0 →
    (x v : ℕ) → x + 1 < length starts → v < width starts x → slice_index left (slot starts x v) ≡ slice_index old (slot starts x v) + readers x v (take i rs) →
    slice_index (slice_set left (slot starts (slice_index_or rs i d).loc.0 (slice_index_or rs i d).version) (slice_index left (slot starts (slice_index_or rs i d).loc.0 (slice_index_or rs i d).version) + 1)) (slot starts x v) ≡ slice_index old (slot starts x v) + readers x v (take (i + 1) rs)
counted_more starts left old h rs i d lt rl rv x v xl xv e =
    rw (written starts left h (slice_index_or rs i d) rl rv (λ m. m + 1) x v xl xv, readers_more x v rs i d lt)
    (plus (reads_at x v (slice_index_or rs i d)) (slice_index left (slot starts x v)) (slice_index old (slot starts x v)) (readers x v (take i rs)) e)

-- a read of a version that isn't counted
pub uncounted : (starts : List ℕ) (rs : List Seen) (i : ℕ) (d : Seen) → i < length rs → width starts (slice_index_or rs i d).loc.0 ≤ (slice_index_or rs i d).version → (x v : ℕ) → v < width starts x → readers x v (take (i + 1) rs) ≡ readers x v (take i rs)
uncounted starts rs i d lt far x v xv =
    readers_more x v rs i d lt ∙ ap (λ b. readers x v (take i rs) + cond b 1 0) (differs (slice_index_or rs i d) far) ∙ add-zero (readers x v (take i rs))
  where
    differs : (r : Seen) → width starts r.loc.0 ≤ r.version → reads_at x v r ≡ false
    differs r far = elim (same_or r.loc.0 x) [
      | inl e ↦ other_version x v r (λ f. (let s : width starts r.loc.0 ≡ width starts x = ap (width starts) e in omega arith))
      | inr e ↦ other_loc x v r e
    ]

pub bumped_most : (xs old : List ℕ) (s i : ℕ) → ((k : ℕ) → slice_index xs k ≤ slice_index old k + i) → s < length xs → (k : ℕ) → slice_index (slice_set xs s (slice_index xs s + 1)) k ≤ slice_index old k + (i + 1)
bumped_most xs old s i h lt k = elim (same_or k s) [
  | inl e ↦ rw e (rw get_or-set_same (let a = h s in omega arith))
  | inr ne ↦ rw get_or-set_other (let a = h k in omega arith)
]

pub same_slots : (starts : List ℕ) (n m : ℕ) → m ≡ n → Slots starts n → Slots starts m
same_slots starts n m e h = subst (Slots starts) (sym e) h

-- one read less is counted
minus : (b : Bool) (m n k : ℕ) → m + k ≡ n → k + cond b 1 0 ≤ n → cond b (m - 1) m + (k + cond b 1 0) ≡ n
minus true m n k e f = omega arith
minus false m n k e f = omega arith

pub counted_less : (starts left old : List ℕ) → Slots starts (length left) → (rs : List Seen) (i : ℕ) (d : Seen) → i < length rs → (slice_index_or rs i d).loc.0 + 1 < length starts → (slice_index_or rs i d).version < width starts (slice_index_or rs i d).loc.0 →
    (x v : ℕ) → x + 1 < length starts → v < width starts x → slice_index left (slot starts x v) + readers x v (take i rs) ≡ slice_index old (slot starts x v) → readers x v rs ≤ slice_index old (slot starts x v) →
    slice_index (slice_set left (slot starts (slice_index_or rs i d).loc.0 (slice_index_or rs i d).version) (slice_index left (slot starts (slice_index_or rs i d).loc.0 (slice_index_or rs i d).version) - 1)) (slot starts x v) + readers x v (take (i + 1) rs) ≡ slice_index old (slot starts x v)
counted_less starts left old h rs i d lt rl rv x v xl xv e most =
    let few = readers_most x v rs i d lt in
    rw (written starts left h (slice_index_or rs i d) rl rv (λ m. m - 1) x v xl xv, readers_more x v rs i d lt)
    (minus (reads_at x v (slice_index_or rs i d)) (slice_index left (slot starts x v)) (slice_index old (slot starts x v)) (readers x v (take i rs)) e (omega arith))
  where
    readers_most : (x v : ℕ) (rs : List Seen) (i : ℕ) (d : Seen) → i < length rs → readers x v (take i rs) + cond (reads_at x v (slice_index_or rs i d)) 1 0 ≤ readers x v rs
    readers_most x v rs i d lt = sum_by_more_le (λ r. cond (reads_at x v r) 1 0) rs i d lt

one_counted : (r : Seen) → cond {A = ℕ} (reads_at r.loc.0 r.version r) 1 0 ≡ 1
one_counted r = ap (λ (b : Bool). cond {A = ℕ} b 1 0) (one_read r.loc.0 r.version r refl refl)

-- a read is among the reads
pub reader_is : (rs : List Seen) (i : ℕ) (d : Seen) → i < length rs → readers (slice_index_or rs i d).loc.0 (slice_index_or rs i d).version (take i rs) + 1 ≤ readers (slice_index_or rs i d).loc.0 (slice_index_or rs i d).version rs
reader_is rs i d lt = rw (one_counted (slice_index_or rs i d)) at (sum_by_more_le (λ x. cond {A = ℕ} (reads_at (slice_index_or rs i d).loc.0 (slice_index_or rs i d).version x) 1 0) rs i d lt)

-- the count of a read that is still in
pub still_in : (starts left old : List ℕ) (rs : List Seen) (i : ℕ) (d : Seen) → i < length rs → (slice_index_or rs i d).loc.0 + 1 < length starts → (slice_index_or rs i d).version < width starts (slice_index_or rs i d).loc.0 →
    ((x v : ℕ) → x + 1 < length starts → v < width starts x → slice_index left (slot starts x v) + readers x v (take i rs) ≡ slice_index old (slot starts x v)) →
    ((x v : ℕ) → x + 1 < length starts → v < width starts x → readers x v rs ≤ slice_index old (slot starts x v)) →
    1 ≤ slice_index left (slot starts (slice_index_or rs i d).loc.0 (slice_index_or rs i d).version)
still_in starts left old rs i d lt rl rv e most =
    let a = e (slice_index_or rs i d).loc.0 (slice_index_or rs i d).version rl rv in
    let b = most (slice_index_or rs i d).loc.0 (slice_index_or rs i d).version rl rv in
    let c = reader_is rs i d lt in
    omega arith

no_put : (ps : List Put) (l : ℕ) (d : Put) → ((k : ℕ) → k < length ps → (slice_index_or ps k d).loc.0 ≢ l) → put_at ps l ≡ None
no_put [] l d h = refl
no_put (p ∷ ps) l d h = ap (λ b. cond b (Some p) (put_at ps l)) (ne_eqb p.loc.0 l (h 0 (omega arith))) ∙ no_put ps l d (λ k lt. h (suc k) (omega arith))

pub not_yet : (ps : List Put) (i : ℕ) (d : Put) → AllPairs (λ (p q : Put). p.loc.0 < q.loc.0) ps → i < length ps → put_at (take i ps) (slice_index_or ps i d).loc.0 ≡ None
not_yet ps i d rise lt = no_put (take i ps) (slice_index_or ps i d).loc.0 d (λ k h same.
    let kl : k < i = (let a = length-take i ps in omega arith) in
    let r = rise k i d kl lt in
    let s : slice_index_or (take i ps) k d ≡ slice_index_or ps k d = get_or-take i ps k d kl in
    let u : (slice_index_or (take i ps) k d).loc.0 ≡ (slice_index_or ps k d).loc.0 = ap (λ (p : Put). p.loc.0) s in
    omega arith)

or_put : Option Put → Put → ℕ → Option Put
or_put None p k = cond (p.loc.0 == k) (Some p) None
or_put (Some q) p k = Some q

or_put_behind : (b : Bool) (p q : Put) (x y : Option Put) (k : ℕ) → x ≡ or_put y q k → cond b (Some p) x ≡ or_put (cond b (Some p) y) q k
unfolding or_put
or_put_behind true p q x y k e = refl
or_put_behind false p q x y k e = e

put_at_suc : (ps : List Put) (i : ℕ) (d : Put) (k : ℕ) → i < length ps → put_at (take (suc i) ps) k ≡ or_put (put_at (take i ps) k) (slice_index_or ps i d) k
unfolding or_put
put_at_suc [] i d k lt = absurd (omega arith)
put_at_suc (p ∷ ps) zero d k lt = refl
put_at_suc (p ∷ ps) (suc i) d k lt = or_put_behind (p.loc.0 == k) p (slice_index_or ps i d) (put_at (take (suc i) ps) k) (put_at (take i ps) k) k (put_at_suc ps i d k (omega arith))

raised_by : (o : Option Put) (p : Put) (k v : ℕ) → p.loc.0 ≢ k → version_after (or_put o p k) v ≡ version_after o v
unfolding or_put
raised_by None p k v ne = ap (λ b. version_after (cond b (Some p) None) v) (ne_eqb p.loc.0 k ne)
raised_by (Some q) p k v ne = refl

raised_here : (o : Option Put) (p : Put) (k v : ℕ) → p.loc.0 ≡ k → o ≡ None → version_after (or_put o p k) v ≡ v + 1
unfolding or_put
raised_here o p k v e n = ap (λ o. version_after (or_put o p k) v) n ∙ ap (λ b. version_after (cond b (Some p) None) v) (eq-eqb p.loc.0 k e)

-- the version at the next put's location has not been raised
pub unraised : (now old : List ℕ) (ps : List Put) (i : ℕ) (d : Put) → AllPairs (λ (p q : Put). p.loc.0 < q.loc.0) ps → i < length ps →
    ((k : ℕ) → slice_index now k ≡ version_after (put_at (take i ps) k) (slice_index old k)) → slice_index now (slice_index_or ps i d).loc.0 ≡ slice_index old (slice_index_or ps i d).loc.0
unraised now old ps i d rise lt h = h (slice_index_or ps i d).loc.0 ∙ ap (λ o. version_after o (slice_index old (slice_index_or ps i d).loc.0)) (not_yet ps i d rise lt)

pub raised_more : (now old : List ℕ) (ps : List Put) (i : ℕ) (d : Put) → AllPairs (λ (p q : Put). p.loc.0 < q.loc.0) ps → i < length ps → (slice_index_or ps i d).loc.0 < length now →
    ((k : ℕ) → slice_index now k ≡ version_after (put_at (take i ps) k) (slice_index old k)) →
    (k : ℕ) → slice_index (slice_set now (slice_index_or ps i d).loc.0 (slice_index now (slice_index_or ps i d).loc.0 + 1)) k ≡ version_after (put_at (take (i + 1) ps) k) (slice_index old k)
raised_more now old ps i d rise lt in_ h k =
    let q = slice_index_or ps i d in
    let e : put_at (take (i + 1) ps) k ≡ or_put (put_at (take i ps) k) q k = ap (λ n. put_at (take n ps) k) (add-one i) ∙ put_at_suc ps i d k lt in
    rw e (elim (same_or q.loc.0 k) [
      | inl same ↦
          let n : put_at (take i ps) k ≡ None = ap (put_at (take i ps)) (sym same) ∙ not_yet ps i d rise lt in
          let a : slice_index (slice_set now q.loc.0 (slice_index now q.loc.0 + 1)) k ≡ slice_index now q.loc.0 + 1 = ap (slice_index (slice_set now q.loc.0 (slice_index now q.loc.0 + 1))) (sym same) ∙ get_or-set_same now q.loc.0 (slice_index now q.loc.0 + 1) 0 in_ in
          a ∙ ap (λ n. n + 1) (unraised now old ps i d rise lt h ∙ ap (slice_index old) same) ∙ sym (raised_here (put_at (take i ps) k) q k (slice_index old k) same n)
      | inr ne ↦
          get_or-set_other now q.loc.0 k (slice_index now q.loc.0 + 1) 0 (λ e. ne (sym e)) ∙ h k ∙ sym (raised_by (put_at (take i ps) k) q k (slice_index old k) ne)
    ])

-- one more element of a list is added
pub item_more : {X : Type 0} (F : X → ℕ) (xs : List X) (i : ℕ) (x : X) → i < length xs → x ≡ slice_index_or xs i x → sum_by F (take (i + 1) xs) ≡ sum_by F (take i xs) + F x
item_more F xs i x lt is = sum_by_more F xs i x lt ∙ ap (λ y. sum_by F (take i xs) + F y) (sym is)

-- the numbers with one more fit
pub item_fits : {X : Type 0} (F : X → ℕ) (xs : List X) (i : ℕ) (x : X) → i < length xs → x ≡ slice_index_or xs i x → sum_by F (take i xs) + F x ≤ sum_by F xs
item_fits F xs i x lt is = subst (λ y. sum_by F (take i xs) + F y ≤ sum_by F xs) (sym is) (sum_by_more_le F xs i x lt)
