-- All eras as one history, from the first opening.
use Rattle.std.proofs.Common.{◌≡◌, ◌≤◌, ◌⊎◌, inl, inr, ℕ, ◌+◌, ◌-◌, ◌*◌, List, [], ◌∷◌, ◌++◌, Some, length, map, refl, sym, ap, subst, arith}
use Rattle.std.proofs.Math.Logic.{∥∥₁_map}
use Rattle.std.specs.Prelude.{Contains}
use Rattle.atomic_table.specs.Seated.{TableId}
use Rattle.kc_lasting.proofs.Sides.{within_contains}
use Rattle.kc_lasting.specs.Cuts.{left_by}
use Rattle.kc_lasting.specs.Eras.{AreEras, IsEnded, first_line, store_at}
use Rattle.kc_lasting.specs.Opening.{IsFirst}
use Rattle.kc_lasting.specs.Told.{EndsIn, HandleView, Moves, standing_of}
use Rattle.kc_lasting.specs.declared.handle.LastingCaller.{LastingCaller}
use Rattle.kc_lasting.specs.declared.line.Line.{Line}
use Rattle.kc_lasting_laws.proofs.Counting.{at_most, made_at_most}
use Rattle.kc_lasting_laws.proofs.Flattening.{cell_same, flat_agrees, flat_legal, flat_within}
use Rattle.kc_lasting_laws.proofs.Raising.{legal_join, legal_raised}
use Rattle.kc_lasting_laws.specs.Counts.{FewEach}
use Rattle.kc_lasting_laws.specs.Flat.{flat_history, no_versions, versions_before}
use Rattle.kc_lasting_laws.specs.Raised.{AgreesRaised, AllLieBelow, entry_raised, footprint_raised, read_raised}
use Rattle.kc_model.proofs.Stores.{Contains-first, Contains-later}
use Rattle.kc_model.specs.Legal.{IsLegal}
use Rattle.kc_model.specs.Store.{Finds, Store}
use Rattle.kc_model.specs.declared.footprint.Entry.{Entry}
use Rattle.kc_model.specs.declared.footprint.Footprint.{Footprint}
use Rattle.kc_model.specs.declared.plain_store.Cell.{Cell}
use Rattle.kc_model.specs.declared.reply.Answer.{Answer}
use Rattle.kc_roll.specs.Fronts.{StandsAtFront}
use Rattle.kc_store.proofs.Among.{first_or_later, nothing_in}
use Rattle.kc_store.specs.Knows.{IsWithin, here, none}
use Rattle.kc_store.specs.Views.{StoreView, store_opening}
use Rattle.kc_xt.specs.Commit.{Answers, answer_of, run_on}
use Rattle.kc_xt.specs.Meaning.{Meaning}

raised_too : {A B : Type 0} (f : A → B) (xs : List A) (x : A) → Contains xs x → Contains (map f xs) (f x)
raised_too f [] x c = nothing_in x c
raised_too {A} {B} f (y ∷ xs) x c = go (first_or_later y xs x c) (raised_too f xs x)
  where
    go : (y ≡ x) ⊎ Contains xs x → (Contains xs x → Contains (map f xs) (f x)) → Contains (map f (y ∷ xs)) (f x)
    go (inl e) ih = subst (λ (z : A). Contains (map f (y ∷ xs)) (f z)) e (Contains-first (f y) (map f xs))
    go (inr c) ih = Contains-later (f y) (map f xs) (f x) (ih c)

pub agrees_first : (n : ℕ) (s : Store) → AgreesRaised n no_versions s s
agrees_first n s l lt = cell_same (s l) _ _ (omega arith) refl

pub begins_whole : (roll : TableId) (z : StoreView) (h : LastingCaller) (d : HandleView) → IsFirst roll z h → Moves (standing_of h) d → StandsAtFront (first_line z ∷ []) d.lines
begins_whole roll z h d first moves = subst (λ (ls : List Line). StandsAtFront ls d.lines) first.lines moves.lines

pub legal_whole : (z : StoreView) (lines : List Line) → StandsAtFront (first_line z ∷ []) lines → AreEras lines → IsLegal (store_opening z) (flat_history lines) (left_by z (flat_history lines))
legal_whole z lines (rest, is) eras = subst (λ (ls : List Line). IsLegal (store_opening z) (flat_history ls) (left_by z (flat_history ls))) (sym is) (flat_legal no_versions (first_line z) rest z (store_opening z) refl (subst AreEras is eras) (agrees_first z.locations (store_opening z)))

pub makes_whole : (z y : StoreView) (lines : List Line) (k : ℕ) → StandsAtFront (first_line z ∷ []) lines → AreEras lines → length lines ≡ k + 1 → store_at lines k ≡ Some y → AgreesRaised y.locations (versions_before lines k) (left_by z (flat_history lines)) (store_opening y)
makes_whole z y lines k (rest, is) eras long at =
    let n = ap length is in
    subst (λ (ls : List Line). AgreesRaised y.locations (versions_before ls k) (left_by z (flat_history ls)) (store_opening y)) (sym is)
    (flat_agrees no_versions (first_line z) rest z y (store_opening z) k refl (subst AreEras is eras) (agrees_first z.locations (store_opening z)) (omega (arith, n, long)) (subst (λ (ls : List Line). store_at ls k ≡ Some y) is at))

pub goes_on_whole : (z y : StoreView) (lines : List Line) (k : ℕ) (es : List Entry) → StandsAtFront (first_line z ∷ []) lines → AreEras lines → length lines ≡ k + 1 → store_at lines k ≡ Some y → IsLegal (store_opening y) es (left_by y es) → AllLieBelow y.locations es
    → IsLegal (store_opening z) (flat_history lines ++ map (entry_raised (versions_before lines k)) es) (left_by z (flat_history lines ++ map (entry_raised (versions_before lines k)) es))
goes_on_whole z y lines k es front eras long at legal lies =
    legal_join (store_opening z) (flat_history lines) (map (entry_raised (versions_before lines k)) es) (legal_whole z lines front eras)
    (legal_raised y.locations (versions_before lines k) (left_by z (flat_history lines)) (store_opening y) (left_by y es) es legal lies (makes_whole z y lines k front eras long at))

pub stands_whole : (lines : List Line) (k : ℕ) (history own : List Entry) → IsEnded lines k history → IsWithin own history → IsWithin (map (entry_raised (versions_before lines k)) own) (flat_history lines)
stands_whole [] k history own e w = absurd (let none = e.ended in cc)
stands_whole (l ∷ ls) k history own e w = flat_within no_versions ls k e.note own e.ended (subst (λ (es : List Entry). IsWithin own es) (sym e.known) w)

pub handle_whole : (lines : List Line) (h : HandleView) → EndsIn lines h → ∥ IsWithin (map (entry_raised (versions_before lines h.era)) h.caller.own) (flat_history lines) ∥₁
handle_whole lines h e = ∥∥₁_map e.all (stands_whole lines h.era e.history h.caller.own e.ended)

all_within : (es : List Entry) → IsWithin es es
all_within [] = none
all_within (x ∷ es) = here (all_within es)

pub entry_whole : (lines : List Line) (k : ℕ) (history : List Entry) (x : Entry) → IsEnded lines k history → Contains history x → Contains (flat_history lines) (entry_raised (versions_before lines k) x)
entry_whole lines k history x e c = within_contains (map (entry_raised (versions_before lines k)) history) (flat_history lines) (entry_raised (versions_before lines k) x) (stands_whole lines k history history e (all_within history)) (raised_too (entry_raised (versions_before lines k)) history x c)

-- ---- what was answered

abbrev lowered : (ℕ → ℕ) → Store → Store
lowered b s l = record { version = (s l).version - b l; value = (s l).value }

finds_lowered : (b : ℕ → ℕ) (f : Footprint) (s : Store) → Finds (footprint_raised b f) s → Finds f (lowered b s)
finds_lowered b f s finds r reads =
    let at = finds (read_raised b r) (raised_too (read_raised b) f.reads.items r reads) in
    let v = ap (λ (c : Cell). c.version) at in
    cell_same (lowered b s r.loc.0) _ _ (omega (arith, v)) (ap (λ (c : Cell). c.value) at)

pub answers_raised : (b : ℕ → ℕ) (m : Meaning) (a : Answer) (f : Footprint) (s : Store) → Answers m a f → Finds (footprint_raised b f) s → answer_of (run_on m s).outcome ≡ Some a
answers_raised b m a f s answers finds = answers.run (lowered b s) (finds_lowered b f s finds)

-- ---- how many versions

pub few_versions : (z : StoreView) (es : List Entry) (n m l : ℕ) → FewEach n m es → (left_by z es l).version ≤ (store_opening z l).version + n * m
few_versions z es n m l f =
    let a = made_at_most es (store_opening z) l in
    let b = at_most n m es f.callers f.few in
    omega (arith, a, b)
