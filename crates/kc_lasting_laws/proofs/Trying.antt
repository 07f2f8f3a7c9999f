-- A try begins two commits at most.
use Rattle.std.proofs.Common.{◌≡◌, ◌≢◌, ℕ, ◌+◌, ◌≤◌, inl, inr, refl, sym, ap, ◌∙◌, arith, subst, if◌then◌else◌, ◌==◌, List, [], ◌∷◌, ◌++◌}
use borrow.Author.Tests.{eq-eqb, ne_eqb}
use Rattle.kc_lasting_laws.specs.Lives.{commits_by, one_if_commit}
use Rattle.kc_lasting_laws.specs.kc_machine_steps.declared.task.Event.{Event}
use Rattle.kc_lasting_laws.specs.kc_machine_steps.declared.task.Event.TheVariants.{Begin, Step, Halt}
use Rattle.kc_lasting_laws.specs.kc_machine_steps.declared.task.Task.{Task}
use Rattle.kc_lasting_laws.specs.kc_machine_steps.declared.task.Told.{Told}
use Rattle.kc_model.specs.declared.footprint.Footprint.{Footprint}
use Rattle.kc_model.specs.declared.footprint.Seen.{Seen}
use Rattle.kc_store.specs.Tries.{CommitsAfter, Did, Installs, Sees, SwapsOrInstalls, TaskComes, Tries, again, behind_swap, by_install, by_swap, once}
use Rattle.kc_store.specs.kc_machine_traces.Moments.{BeginsNothing}
use Rattle.kc_store.specs.kc_machine_traces.Parts.{NoneOf}
use Rattle.kc_store.specs.kc_table_laws.Tasks.{DoesTask}
use Rattle.kc_store.specs.kc_table_moves.Views.{Learns, SeatView}
use Rattle.kc_xt.specs.Commit.{LooksIn}
use Rattle.kc_xt.specs.Meaning.{Meaning}
use Rattle.kc_xt.specs.Peeks.{Looks}
use Rattle.kc_xt.specs.declared.attempts.Tried.{Tried}
use Rattle.kc_xt.specs.declared.attempts.Tried.TheVariants as tried

-- ---- parts of a schedule

commits_join : (k : ℕ) (a b : List Event) → commits_by k (a ++ b) ≡ commits_by k a + commits_by k b
commits_join k [] b = omega arith
commits_join k (e ∷ a) b = let ih = commits_join k a b in omega (arith, ih)

not_here : (j k x : ℕ) → j ≢ k → (if j == k then x else 0) ≡ 0
not_here j k x ne = rw (ne_eqb j k ne) refl

just_here : (k x : ℕ) → (if k == k then x else 0) ≡ x
just_here k x = rw (eq-eqb k k refl) refl

pub none_commit : (k : ℕ) (es : List Event) → NoneOf k es → commits_by k es ≡ 0
none_commit k [] n = refl
none_commit k (Begin j t ∷ es) n = let here = not_here j k (one_if_commit t) n.0 in let rest = none_commit k es n.1 in omega (arith, here, rest)
none_commit k (Step j ∷ es) n = let rest = none_commit k es n.1 in omega (arith, rest)
none_commit k (Halt j ∷ es) n = let rest = none_commit k es n.1 in omega (arith, rest)

nothing_commit : (k : ℕ) (es : List Event) → BeginsNothing k es → commits_by k es ≡ 0
nothing_commit k [] n = refl
nothing_commit k (Begin j t ∷ es) n = let here = not_here j k (one_if_commit t) n.0 in let rest = nothing_commit k es n.1 in omega (arith, here, rest)
nothing_commit k (Step j ∷ es) n = let rest = nothing_commit k es n in omega (arith, rest)
nothing_commit k (Halt j ∷ es) n = let rest = nothing_commit k es n in omega (arith, rest)

-- ---- what a seat begins

-- so many commits at most
pub record BeginsFew (n : ℕ) (v w : SeatView) : Type 0 where
  pub number : w.number ≡ v.number
  pub few : commits_by v.number w.past ≤ commits_by v.number v.past + n

begins_none : (v : SeatView) → BeginsFew 0 v v
begins_none v = record { number = refl; few = omega arith }

pub begins_on : (n i : ℕ) (u v w : SeatView) → BeginsFew n u v → BeginsFew i v w → BeginsFew (n + i) u w
begins_on n i u v w a b = record {
  number = b.number ∙ a.number;
  few = let x = a.few in let y = subst (λ (k : ℕ). commits_by k w.past ≤ commits_by k v.past + i) a.number b.few in omega (arith, x, y);
}

pub begins_more : (n i : ℕ) (v w : SeatView) → n ≤ i → BeginsFew n v w → BeginsFew i v w
begins_more n i v w le a = record { number = a.number; few = let x = a.few in omega (arith, x, le) }

does_few : (v : SeatView) (t : Task) (w : SeatView) → DoesTask v t w → BeginsFew (one_if_commit t) v w
does_few v t w d = record {
  number = d.number;
  few =
      let k = v.number in
      let whole : commits_by k w.past ≡ commits_by k (((v.past ++ d.others) ++ d.halts) ++ Begin k t ∷ d.rest) = ap (commits_by k) d.past in
      let one = commits_join k ((v.past ++ d.others) ++ d.halts) (Begin k t ∷ d.rest) in
      let two = commits_join k (v.past ++ d.others) d.halts in
      let three = commits_join k v.past d.others in
      let others = none_commit k d.others d.none in
      let halts = nothing_commit k d.halts d.nothing in
      let rest = nothing_commit k d.rest d.runs.nothing_else in
      let here = just_here k (one_if_commit t) in
      omega (arith, whole, one, two, three, others, halts, rest, here);
}

did_few : (v : SeatView) (t : Task) (w : SeatView) → Did v t w → BeginsFew (one_if_commit t) v w
did_few v t w (inl d) = does_few v t w d
did_few v t w (inr (u, d, is)) = subst (BeginsFew (one_if_commit t) v) (sym is) (let x = does_few v t u d in record { number = x.number; few = x.few })

comes_few : (start v : SeatView) (t : Task) (a : Told) (w : SeatView) → TaskComes start v t a w → BeginsFew (one_if_commit t) v w
comes_few start v t a w (inl d) = did_few v t w d.did
comes_few start v t a w (inr n) = subst (BeginsFew (one_if_commit t) v) (sym n.stays) (begins_more 0 (one_if_commit t) v v (omega arith) (begins_none v))

installs_few : (start : SeatView) (f : Footprint) (v : SeatView) (a : Told) (w : SeatView) → Installs start f v a w → BeginsFew 2 v w
installs_few start f v _ _ (once a w comes c) = begins_more 1 2 v w (omega arith) (comes_few start v _ a w comes)
installs_few start f v _ _ (again i u a w told comes) = begins_on 1 1 v u w (did_few v _ u told.did) (comes_few start u _ a w comes)

commits_few : (start : SeatView) (f : Footprint) (v : SeatView) (a : Told) (w : SeatView) → SwapsOrInstalls start f v a w → BeginsFew 2 v w
commits_few start f v _ _ (by_swap r after a w is comes ends) = begins_more 0 2 v w (omega arith) (comes_few start v _ a w comes)
commits_few start f v _ _ (behind_swap r after i u a w is told installs) = begins_on 0 2 v u w (did_few v _ u told.did) (installs_few start f u a w installs)
commits_few start f v _ _ (by_install a w at_once installs) = installs_few start f v a w installs

looks_few : (start v : SeatView) (es : List Seen) (w : SeatView) → Looks (Sees start) v es w → BeginsFew 0 v w
looks_few start v [] w e = subst (BeginsFew 0 v) e (begins_none v)
looks_few start v (e ∷ es) w (b, one, rest) = begins_on 0 0 v b w (did_few v _ b one.did) (looks_few start b es w rest)

tried_few : (start : SeatView) (f : Footprint) (t : Tried) (v u : SeatView) (es : List Seen) (w : SeatView) → LooksIn (Sees start) t v es u → CommitsAfter t start f u w → BeginsFew 2 v w
tried_few start f tried.Busy v u es w (b, looks, fails) is = subst (BeginsFew 2 v) (sym is) (begins_more 0 2 v u (omega arith) (begins_on 0 0 v b u (looks_few start v es b looks) (comes_few start b _ _ u fails.fails)))
tried_few start f (tried.Done r) v u es w looks (a, commits) = begins_on 0 2 v u w (looks_few start v es u looks) (commits_few start f u a w commits)
tried_few start f tried.Later v u es w looks (a, commits) = begins_on 0 2 v u w (looks_few start v es u looks) (commits_few start f u a w commits)
tried_few start f tried.TooLarge v u es w looks (a, commits) = begins_on 0 2 v u w (looks_few start v es u looks) (commits_few start f u a w commits)
tried_few start f (tried.Worn loc) v u es w looks (a, commits) = begins_on 0 2 v u w (looks_few start v es u looks) (commits_few start f u a w commits)

pub tries_few : (m : Meaning) (f : Footprint) (v w : SeatView) → Tries m f v w → BeginsFew 2 v w
tries_few m f v w t = tried_few v t.plan t.tried v t.seen t.looked.looks w t.looked.made t.commits

pub learns_none : (v w : SeatView) → Learns v w → commits_by v.number w.past ≡ commits_by v.number v.past
learns_none v w l =
    let (rest, is, none) = l.on in
    let whole = ap (commits_by v.number) is in
    let join = commits_join v.number v.past rest in
    let nothing = none_commit v.number rest none in
    omega (arith, whole, join, nothing)
