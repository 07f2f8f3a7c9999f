-- The programs of a number of 64 bits, its values, and what its cells stand for.
use Rattle.std.proofs.Common.{◌≡◌, ℕ, ◌+◌, ◌<◌, ◌≤◌, Bool, true, false, cond, refl, sym, ap, ◌∙◌, arith, subst}
use Rattle.std.specs.Prelude.{Result, ◌==◌, ◌||◌}
use Rattle.std.proofs.lemmas.Bool.Decides.{nat_tests}
use Rattle.kc_cells.proofs.TwoWords.{below_wide, high_wrapped, low_wrapped, number_back, wrapped_twice}
use Rattle.kc_cells.specs.Wide.{high_word, low_word, two_words, wide_begin, wide_cells, wide_cells_end, wide_end, wide_meaning, wide_opening, wide_program, wide_reply, wide_value, words_reply, wrapped_wide, writes_wide, WideStandsFor}
use Rattle.kc_cells.specs.declared.wide.Wide.{Wide}
use Rattle.kc_cells.specs.declared.wide.WideAct.{WideAct}
use Rattle.kc_cells.specs.declared.wide.WideAct.TheVariants as act
use Rattle.kc_cells.specs.declared.wide.WideOp.{WideOp}
use Rattle.kc_model.specs.declared.reply.Reply.{Reply}
use Rattle.kc_model.specs.declared.reply.Reply.TheVariants as reply
use Rattle.kc_xt.proofs.Laws.{Below, TouchesFirst, law_of}
use Rattle.kc_xt.proofs.Structures.{runs_means}
use Rattle.kc_xt.specs.Law.{Obeys}
use Rattle.kc_xt.specs.Log.{Log}
use Rattle.kc_xt.specs.Meaning.{Touch, Run, is_touched, put, replied, touch}
use Rattle.kc_xt.specs.Peeks.{Gives}
use Rattle.kc_xt.specs.Program.{Program, ends, full, has_room, meaning, plain, read, replies, touching, write}
use Rattle.kc_xt.specs.Steps.{Does}
use Rattle.kc_xt.specs.Structure.{ContentIsOne, DependsOnItsCells, IsOutside, MeansItsValue, Opens, RunsInsideOthers, RunsTo, TouchesItsOwnCells, comes_to}
use Rattle.kc_xt.specs.declared.stop.Stop.{Stop}

-- ---- it keeps to its cells, whatever it replies

abbrev pub KeepsTo : ℕ → ℕ → Program → Type 0
KeepsTo lo hi (ends o) = Unit {0}
KeepsTo lo hi (read l k) = (lo ≤ l) × (l < hi) × ((v : ℕ) → KeepsTo lo hi (k v))
KeepsTo lo hi (write l v p) = (lo ≤ l) × (l < hi) × KeepsTo lo hi p

module _ (lo hi : ℕ) where
  keeps_below : (p : Program) → KeepsTo lo hi p → Below hi p
  keeps_below (ends o) h = tt
  keeps_below (read l k) h = (h.1, λ v. keeps_below (k v) (h.2 v))
  keeps_below (write l v p) h = (h.1, keeps_below p h.2)

  touched_here : (room : Bool) (t : Touch) (r : Run) (l : ℕ) → (lo ≤ t.cell) → (t.cell < hi) → (is_touched r.touches l ≡ true → (lo ≤ l) × (l < hi)) → is_touched (cond room (touching t r) full).touches l ≡ true → (lo ≤ l) × (l < hi)
  touched_here false t r l a b ih h = absurd cc
  touched_here true t r l a b ih h = by_cell (t.cell == l) refl h
    where
      by_cell : (same : Bool) → (t.cell == l) ≡ same → (t.cell == l || is_touched r.touches l) ≡ true → (lo ≤ l) × (l < hi)
      by_cell true e h = let q : t.cell ≡ l = grind (arith, nat_tests, e) in (omega (arith, a, q), omega (arith, b, q))
      by_cell false e h = ih (rw e at h)

  keeps_touches : (p : Program) → KeepsTo lo hi p → TouchesItsOwnCells lo hi (meaning p)
  keeps_touches (ends o) h n m ks l = λ t. absurd cc
  keeps_touches (read k f) h n m ks l = touched_here (has_room n ks k) _ _ l h.0 h.1 (keeps_touches (f (m k)) (h.2 (m k)) n m (touch ks k) l)
  keeps_touches (write k v p) h n m ks l = touched_here (has_room n ks k) _ _ l h.0 h.1 (keeps_touches p h.2 n (put m k v) (touch ks k) l)

keeps_if : (lo hi : ℕ) (t : Bool) (p q : Program) → KeepsTo lo hi p → KeepsTo lo hi q → KeepsTo lo hi (cond t p q)
keeps_if lo hi true p q h g = h
keeps_if lo hi false p q h g = g

act_keeps : (x : Wide) (a : WideAct) → KeepsTo x.base.0 (wide_cells_end x) (wide_program x a replies)
act_keeps x act.Get = (omega arith, omega arith, λ low. (omega arith, omega arith, λ high. tt))
act_keeps x (act.Put n) = (omega arith, omega arith, (omega arith, omega arith, tt))
act_keeps x (act.Add n) = (omega arith, omega arith, λ low. (omega arith, omega arith, λ high. (omega arith, omega arith, (omega arith, omega arith, tt))))
act_keeps x (act.Cas before after) = (omega arith, omega arith, λ low. (omega arith, omega arith, λ high. keeps_if _ _ (two_words low high == before) _ _ (omega arith, omega arith, (omega arith, omega arith, tt)) tt))

act_first : (x : Wide) (a : WideAct) → TouchesFirst (wide_program x a replies)
act_first x act.Get = tt
act_first x (act.Put n) = tt
act_first x (act.Add n) = tt
act_first x (act.Cas before after) = tt

-- what does its program obeys the law
pub wide_law : {P : Type 0} (gives : Gives P) (o : WideOp) {x y : Log P} (r : Result Reply Stop) → Does gives (wide_program o.wide o.act) x r y → Obeys gives (wide_meaning o) (wide_end o) x r y
wide_law gives o r d = law_of gives (wide_program o.wide o.act) (wide_end o) (keeps_below _ _ (wide_program o.wide o.act replies) (act_keeps o.wide o.act)) (act_first o.wide o.act) r d

pub wide_touches_own : (o : WideOp) → TouchesItsOwnCells (wide_begin o) (wide_end o) (wide_meaning o)
wide_touches_own o = keeps_touches _ _ (wide_program o.wide o.act replies) (act_keeps o.wide o.act)

-- ---- on contents

-- the map with a number's words in the cells
abbrev pub written_wide : ℕ → ℕ → (ℕ → ℕ) → ℕ → ℕ
written_wide base n m = put (put m base (low_word n)) (base + 1) (high_word n)

written_stands : (x : Wide) (m : ℕ → ℕ) (n : ℕ) → WideStandsFor x (written_wide x.base.0 n m) (wrapped_wide n)
written_stands x m n =
    let a = low_wrapped n in
    let b = high_wrapped n in
    (below_wide n, grind (arith, nat_tests, a), grind (arith, nat_tests, b))

written_outside : (x : Wide) (m : ℕ → ℕ) (n l : ℕ) → IsOutside x.base.0 (wide_cells_end x) l → written_wide x.base.0 n m l ≡ m l
written_outside x m n l out =
    let a = out x.base.0 (omega arith) (omega arith) in
    let b = out (x.base.0 + 1) (omega arith) (omega arith) in
    grind (arith, nat_tests, a, b)

module _ (x : Wide) (m : ℕ → ℕ) (n : ℕ) (h : WideStandsFor x m n) where
  low_is : m x.base.0 ≡ low_word n
  low_is = h.1

  high_is : m (x.base.0 + 1) ≡ high_word n
  high_is = h.2

  number_is : two_words (m x.base.0) (m (x.base.0 + 1)) ≡ n
  number_is = ap (λ l. two_words l (m (x.base.0 + 1))) low_is ∙ ap (λ g. two_words (low_word n) g) high_is ∙ number_back n h.0

  reply_is : words_reply (m x.base.0) (m (x.base.0 + 1)) ≡ wide_reply n
  reply_is = ap (λ l. words_reply l (m (x.base.0 + 1))) low_is ∙ ap (λ g. words_reply (low_word n) g) high_is

  cas_goes : (before after : ℕ) (t : Bool) → (n == before) ≡ t → (k : Reply → Program) → plain (wide_program x (act.Cas before after) k) m ≡ plain (cond t (writes_wide x.base.0 after (k (reply.Bool true))) (k (reply.Bool false))) m
  cas_goes before after t e k = ap (λ s. plain (cond (s == before) (writes_wide x.base.0 after (k (reply.Bool true))) (k (reply.Bool false))) m) number_is ∙ ap (λ u. plain (cond u (writes_wide x.base.0 after (k (reply.Bool true))) (k (reply.Bool false))) m) e

  cas_runs : (before after : ℕ) (t : Bool) → (n == before) ≡ t → RunsTo (WideStandsFor x) x.base.0 (wide_cells_end x) (wide_program x (act.Cas before after)) m (cond t (comes_to (replied (reply.Bool true)) (wrapped_wide after)) (comes_to (replied (reply.Bool false)) n))
  cas_runs before after true e = record {
    left = written_wide x.base.0 after m;
    runs = λ k. cas_goes before after true e k;
    stand = written_stands x m after;
    outside = written_outside x m after;
  }
  cas_runs before after false e = record { left = m; runs = λ k. cas_goes before after false e k; stand = h; outside = λ l out. refl }

  act_runs : (a : WideAct) → RunsTo (WideStandsFor x) x.base.0 (wide_cells_end x) (wide_program x a) m (wide_value a n)
  act_runs act.Get = record { left = m; runs = λ k. ap (λ r. plain (k r) m) reply_is; stand = h; outside = λ l out. refl }
  act_runs (act.Put v) = record { left = written_wide x.base.0 v m; runs = λ k. refl; stand = written_stands x m v; outside = written_outside x m v }
  act_runs (act.Add v) = record {
    left = written_wide x.base.0 (wrapped_wide (n + v)) m;
    runs = λ k. ap (λ s. plain (k (words_reply (m x.base.0) (m (x.base.0 + 1)))) (written_wide x.base.0 (wrapped_wide (s + v)) m)) number_is ∙ ap (λ r. plain (k r) (written_wide x.base.0 (wrapped_wide (n + v)) m)) reply_is;
    stand = subst (WideStandsFor x (written_wide x.base.0 (wrapped_wide (n + v)) m)) (wrapped_twice (n + v)) (written_stands x m (wrapped_wide (n + v)));
    outside = written_outside x m (wrapped_wide (n + v));
  }
  act_runs (act.Cas before after) = cas_runs before after (n == before) refl

-- inside whatever longer program
pub wide_inside : (o : WideOp) (n : ℕ) → RunsInsideOthers (WideStandsFor o.wide) (wide_begin o) (wide_end o) (wide_program o.wide o.act) n (wide_value o.act n)
wide_inside o n m h = act_runs o.wide m n h o.act

pub wide_means : (o : WideOp) (n : ℕ) → MeansItsValue (WideStandsFor o.wide) (wide_meaning o) n (wide_value o.act n)
wide_means o n = runs_means (wide_program o.wide o.act) n (wide_value o.act n) (wide_inside o n)

-- opening cells stand for 0
pub wide_opens : (x : Wide) → Opens (WideStandsFor x) x.base.0 wide_cells wide_opening 0
wide_opens x m h = let e : x.base.0 ≡ x.base.0 + 0 = omega arith in (omega arith, ap m e ∙ h 0 (omega arith), h 1 (omega arith))

pub wide_own : (x : Wide) → DependsOnItsCells (WideStandsFor x) x.base.0 (wide_cells_end x)
wide_own x m w n same h = (h.0, sym (same x.base.0 (omega arith) (omega arith)) ∙ h.1, sym (same (x.base.0 + 1) (omega arith) (omega arith)) ∙ h.2)

pub wide_one : (x : Wide) → ContentIsOne (WideStandsFor x)
wide_one x m n v h g = sym (number_is x m n h) ∙ number_is x m v g
