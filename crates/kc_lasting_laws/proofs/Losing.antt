-- Lost tries are no more than others' entries.
use Rattle.std.proofs.Common.{◌≡◌, ◌≢◌, ℕ, suc, ◌+◌, ◌*◌, ◌<◌, ◌≤◌, ◌^◌, ◌⊎◌, inl, inr, refl, sym, ap, ◌∙◌, arith, subst, zero, if◌then◌else◌, ◌==◌, List, [], ◌∷◌}
use Rattle.std.proofs.lemmas.Nat.{mul-le}
use Rattle.std.specs.Prelude.{Contains}
use borrow.Author.Tests.{ne_eqb}
use Rattle.kc_lasting_laws.proofs.Living.{lives_at_most}
use Rattle.kc_lasting_laws.proofs.Trying.{tries_few}
use Rattle.kc_lasting_laws.specs.Lives.{commits_by}
use Rattle.kc_lasting_laws.specs.Tried.{MakesTries, none, one_if_lost, others_in, rests, tries}
use Rattle.kc_lasting_laws.specs.kc_machine.Machine.{Opening, run}
use Rattle.kc_lasting_laws.specs.kc_machine_steps.declared.task.Event.{Event}
use Rattle.kc_machine_invariants.specs.Holds.{sum_below}
use Rattle.kc_machine_invariants.specs.kc_machine_words.declared.words.TheConstants.{LAST_GENERATION}
use Rattle.kc_model.specs.declared.footprint.Footprint.{Footprint}
use Rattle.kc_store.proofs.Among.{first_or_later, nothing_in}
use Rattle.kc_model.proofs.Stores.{Contains-first, Contains-later}
use Rattle.kc_store.specs.Answers.{Settles}
use Rattle.kc_store.specs.declared.verdict.Verdict.{Verdict}
use Rattle.kc_store.specs.declared.verdict.Verdict.TheVariants as verdict
use Rattle.kc_store.specs.kc_machine_traces.Histories.{History, IsAmong, Placed}
use Rattle.kc_store.specs.kc_machine_traces.Histories as among
use Rattle.kc_store.specs.kc_table_laws.Tasks.{KeepsKnown}
use Rattle.kc_store.specs.kc_table_moves.Views.{SeatView, knows}
use Rattle.kc_xt.specs.Meaning.{Meaning}

others_grow : (k : ℕ) {a b : History} → IsAmong a b → others_in k a ≤ others_in k b
others_grow k (among.none {h}) = omega arith
others_grow k (among.here {x} {a} {b} i) = let ih = others_grow k i in omega (arith, ih)
others_grow k (among.later {x} {a} {b} i) = let ih = others_grow k i in omega (arith, ih)

is_other : (x : Placed) (k : ℕ) → x.entry.caller ≢ k → ◌≡◌ {A = ℕ} (if x.entry.caller == k then 0 else 1) 1
is_other x k ne = rw (ne_eqb x.entry.caller k ne) refl

counts_one : (k : ℕ) (h : History) (x : Placed) → Contains h x → x.entry.caller ≢ k → 1 ≤ others_in k h
counts_one k [] x c ne = nothing_in x c
counts_one k (y ∷ h) x c ne = go (first_or_later y h x c) (λ i. counts_one k h x i ne)
  where
    go : (y ≡ x) ⊎ Contains h x → (Contains h x → 1 ≤ others_in k h) → 1 ≤ others_in k (y ∷ h)
    go (inl e) ih = let one = is_other y k (λ q. ne (ap (λ (z : Placed). z.entry.caller) (sym e) ∙ q)) in omega (arith, one)
    go (inr i) ih = let le = ih i in omega (arith, le)

-- an entry that is new is one more
one_more : (k : ℕ) {a b : History} → IsAmong a b → (e : Placed) → Contains b e → ¬ Contains a e → e.entry.caller ≢ k → suc (others_in k a) ≤ others_in k b
one_more k (among.none {h}) e c new ne = counts_one k h e c ne
one_more k (among.here {x} {a} {b} i) e c new ne = go (first_or_later x b e c) (λ j. one_more k i e j (λ z. new (Contains-later x a e z)) ne)
  where
    go : (x ≡ e) ⊎ Contains b e → (Contains b e → suc (others_in k a) ≤ others_in k b) → suc (others_in k (x ∷ a)) ≤ others_in k (x ∷ b)
    go (inl q) ih = absurd (new (subst (λ (z : Placed). Contains (x ∷ a) z) q (Contains-first x a)))
    go (inr j) ih = let le = ih j in omega (arith, le)
one_more k (among.later {x} {a} {b} i) e c new ne = go (first_or_later x b e c) (λ j. one_more k i e j new ne) (others_grow k i)
  where
    go : (x ≡ e) ⊎ Contains b e → (Contains b e → suc (others_in k a) ≤ others_in k b) → others_in k a ≤ others_in k b → suc (others_in k a) ≤ others_in k (x ∷ b)
    go (inl q) ih grow = let one = is_other x k (λ r. ne (ap (λ (z : Placed). z.entry.caller) (sym q) ∙ r)) in omega (arith, one, grow)
    go (inr j) ih grow = let le = ih j in omega (arith, le)

settles_lost : (m : Meaning) (a : Verdict) (v : SeatView) (f : Footprint) (w : SeatView) → Settles m a v f w → KeepsKnown v w → one_if_lost a + others_in v.number (knows v) ≤ others_in v.number (knows w)
settles_lost m (verdict.Lost loc version) v f w s keeps = let o = s.0 in let more = one_more v.number keeps.grows.0 o.by_entry o.known o.unknown o.other in omega (arith, more)
settles_lost m (verdict.Done r) v f w s keeps = let grow = others_grow v.number keeps.grows.0 in omega (arith, grow)
settles_lost m verdict.Later v f w s keeps = let grow = others_grow v.number keeps.grows.0 in omega (arith, grow)
settles_lost m verdict.TooLarge v f w s keeps = let grow = others_grow v.number keeps.grows.0 in omega (arith, grow)
settles_lost m (verdict.WornLocation loc) v f w s keeps = let grow = others_grow v.number keeps.grows.0 in omega (arith, grow)
settles_lost m verdict.WornPool v f w s keeps = let grow = others_grow v.number keeps.grows.0 in omega (arith, grow)
settles_lost m (verdict.Busy steps) v f w s keeps = let grow = others_grow v.number keeps.grows.0 in omega (arith, grow)

pub record TriesAreFew (v : SeatView) (n l : ℕ) (w : SeatView) : Type 0 where
  pub number : w.number ≡ v.number
  pub begins : commits_by v.number w.past ≤ commits_by v.number v.past + 2 * n
  pub lost : l + others_in v.number (knows v) ≤ others_in v.number (knows w)

pub makes_few : (v : SeatView) (n l : ℕ) (w : SeatView) → MakesTries v n l w → TriesAreFew v n l w
makes_few v _ _ _ none = record { number = refl; begins = omega arith; lost = omega arith }
makes_few v _ _ _ (rests n l u w made rest) =
    let ih = makes_few v n l u made in
    let same = subst (λ (k : ℕ). commits_by k w.past ≡ commits_by k u.past) ih.number rest.none in
    let grow = subst (λ (k : ℕ). others_in k (knows u) ≤ others_in k (knows w)) ih.number (others_grow u.number rest.keeps.grows.0) in
    let b = ih.begins in
    let o = ih.lost in
    record { number = rest.keeps.number ∙ ih.number; begins = omega (arith, b, same); lost = omega (arith, o, grow) }
makes_few v _ _ _ (tries n l u w m f a made t s keeps) =
    let ih = makes_few v n l u made in
    let few = subst (λ (k : ℕ). commits_by k w.past ≤ commits_by k u.past + 2) ih.number (tries_few m f u w t).few in
    let one = subst (λ (k : ℕ). one_if_lost a + others_in k (knows u) ≤ others_in k (knows w)) ih.number (settles_lost m a u f w s keeps) in
    let b = ih.begins in
    let o = ih.lost in
    record { number = keeps.number ∙ ih.number; begins = omega (arith, b, few); lost = omega (arith, o, one) }

-- ---- what suffices

sum_at_most : (f : ℕ → ℕ) (n m : ℕ) → ((k : ℕ) → k < n → f k ≤ m) → sum_below f n ≤ n * m
sum_at_most f zero m each = omega arith
sum_at_most f (suc n) m each =
    let one = each n (omega arith) in
    let ih = sum_at_most f n m (λ k lt. each k (omega (arith, lt))) in
    omega (arith, one, ih)

pub lives_suffice : (o : Opening) (es : List Event) (n d : ℕ) → o.callers ≤ 64 → o.generation ≡ 0 → n ≤ 2 ^ 32 → ((k : ℕ) → k < o.callers → commits_by k es ≤ 2 * n) → ((run o es).world.control d).generation < LAST_GENERATION
lives_suffice o es n d callers first few each =
    let all = lives_at_most o es d in
    let sum = sum_at_most (λ k. commits_by k es) o.callers (2 * n) each in
    bound o.callers n ((run o es).world.control d).generation (omega (arith, all, sum, first)) callers few
  where
    bound : (c n g : ℕ) → g ≤ c * (2 * n) → c ≤ 64 → n ≤ 2 ^ 32 → g < LAST_GENERATION
    bound c n g le callers few = let a = mul-le c (2 * n) 64 (2 * 2 ^ 32) callers (omega (arith, few)) in omega (arith, le, a)
