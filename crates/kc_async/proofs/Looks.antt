-- The tries of a commit, one after another.
use Rattle.std.proofs.Common.{◌≡◌, ◌++◌, ℕ, Option, Some, [], ◌∷◌, refl, sym, ap, subst, ◌∙◌, append_assoc, append-nil}
use Rattle.std.specs.Prelude.{All}
use Rattle.std.proofs.lemmas.List.Elements.{All-nil, All-cons, All-append}
use Rattle.kc_async.specs.Attempts.{EndsSo, HasLooked}
use Rattle.futures.specs.Poll.{OnPending}
use Rattle.futures.specs.declared.task.Poll.{Poll}
use Rattle.futures.specs.declared.task.Poll.TheVariants.{Ready, Pending}
use Rattle.kc_async.specs.Futures.{AnswersByTurns, LooksThenEnds, GivesAnswer}
use Rattle.kc_async.specs.declared.committed.Committed.{Committed}
use Rattle.kc_callers.specs.declared.borrowed.Borrowed.{Borrowed}
use Rattle.kc_callers.specs.declared.callers.Callers.{Callers}
use Rattle.kc_await.specs.Adds.{IsLookOf}
use Rattle.kc_model.specs.declared.footprint.Entry.{Entry}
use Rattle.kc_model.specs.declared.footprint.Footprint.{Footprint}
use Rattle.kc_store.proofs.Remembering.{learns_same, remembers_on}
use Rattle.kc_store.specs.Knows.{IsTold, Remembers, entry_of}
use Rattle.kc_store.specs.Views.{CallerView}
use Rattle.kc_store.specs.declared.verdict.Answered.{Answered}
use Rattle.kc_store.specs.declared.verdict.Verdict.TheVariants as verdict
use Rattle.kc_xt.specs.Meaning.{Meaning}

-- what holds at any poll holds at one that is pending
pub while_pending : {A : Type 0} {P : Type 0} (r : Poll A) → P → OnPending r P
while_pending (Ready x) p = tt
while_pending Pending p = p

module _ (m : Meaning) where
  -- a try that came to nothing
  pub came_to_nothing : (c d : CallerView) → Remembers c d → d.own ≡ c.own → d.worn ≡ c.worn → HasLooked m c d
  came_to_nothing c d remembers own worn = record {
    remembers = remembers;
    looks = record { looks = []; each = All-nil (IsLookOf c.number m); own = own ∙ sym (append-nil c.own) };
    worn = worn;
  }

  pub not_looked : (c : CallerView) → HasLooked m c c
  not_looked c = came_to_nothing c c (learns_same c).remembers refl refl

  -- a try that would wait
  pub looked_once : (c d : CallerView) (f : Footprint) → IsTold m verdict.Later c f d → Remembers c d → d.worn ≡ c.worn → HasLooked m c d
  looked_once c d f told remembers worn =
      let e : Entry = entry_of c.number told.1.1.0 f in
      let look : IsLookOf c.number m e = record { own = refl; puts_nothing = told.1.0; waits = told.0 } in
      record {
        remembers = remembers;
        looks = record { looks = e ∷ []; each = All-cons (IsLookOf c.number m) e [] look (All-nil (IsLookOf c.number m)); own = told.1.1.1 };
        worn = worn;
      }

  -- tries, and then more
  pub looked_on : (c d e : CallerView) → HasLooked m c d → HasLooked m d e → HasLooked m c e
  looked_on c d e h k = record {
    remembers = remembers_on c d e h.remembers k.remembers;
    looks = record {
      looks = h.looks.looks ++ k.looks.looks;
      each = All-append (IsLookOf c.number m) h.looks.looks k.looks.looks h.looks.each (subst (λ n. All (IsLookOf n m) k.looks.looks) h.remembers.number k.looks.each);
      own = k.looks.own ∙ ap (λ l. l ++ k.looks.looks) h.looks.own ∙ append_assoc c.own h.looks.looks k.looks.looks;
    };
    worn = k.worn ∙ h.worn;
  }

  pub ends_at_once : (end : ℕ) (a : Answered) (c : CallerView) (f : Footprint) (d : CallerView) → EndsSo m end a c f d → LooksThenEnds m end a c f d
  ends_at_once end a c f d ends = record { last = c; looked = not_looked c; ends = ends }

  pub ends_later : (end : ℕ) (a : Answered) (c d : CallerView) (f : Footprint) (e : CallerView) → HasLooked m c d → LooksThenEnds m end a d f e → LooksThenEnds m end a c f e
  ends_later end a c d f e h ends = record { last = ends.last; looked = looked_on c d ends.last h ends.looked; ends = ends.ends }

  -- ---- what the futures give

  answered : (end : ℕ) (out : Committed) (f : Footprint) (c : CallerView) → out.footprint ≡ f → EndsSo m end out.answered c f out.one.caller → EndsSo m end out.answered c out.footprint out.one.caller
  answered end out f c same ends = subst (λ g. EndsSo m end out.answered c g out.one.caller) (sym same) ends

  -- by this try
  pub gives_at_once : (end : ℕ) (o : Option Borrowed) (one : Borrowed) (out : Committed) (f : Footprint) → Some one ≡ o → out.footprint ≡ f → EndsSo m end out.answered one.caller f out.one.caller → out.one.callers.now ≡ one.callers.now → GivesAnswer m end o out
  gives_at_once end o one out f is same ends callers = subst (λ o. GivesAnswer m end o out) is (ends_at_once end out.answered one.caller out.footprint out.one.caller (answered end out f one.caller same ends), callers)

  -- by a later one
  pub gives_later : (end : ℕ) (o p : Option Borrowed) (one two : Borrowed) → Some one ≡ o → p ≡ Some two → HasLooked m one.caller two.caller → two.callers.now ≡ one.callers.now → (out : Committed) → GivesAnswer m end p out → GivesAnswer m end o out
  gives_later end o p one two is then looked callers out gives =
      let g = subst (λ p. GivesAnswer m end p out) then gives in
      subst (λ o. GivesAnswer m end o out) is (ends_later end out.answered one.caller two.caller out.footprint out.one.caller looked g.0, g.1 ∙ callers)

  pub gives_by_turns : (end : ℕ) (callers : Callers) (one : Borrowed) (out : Committed) (f : Footprint) → one.callers.now ≡ callers → out.footprint ≡ f → EndsSo m end out.answered one.caller f out.one.caller → out.one.callers.now ≡ one.callers.now → AnswersByTurns m end callers out
  gives_by_turns end callers one out f is same ends still = (still ∙ is, (one.caller, answered end out f one.caller same ends))
