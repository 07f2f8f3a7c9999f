use Rattle.std.proofs.Common.{◌≡◌, ◌∙◌, ◌+◌, ◌++◌, ◌∷◌, List, ℕ, [], ap, arith, length, subst, sym}
use Rattle.std.specs.Prelude.{All}
use Rattle.kc_lasting.proofs.Dealing.{all_new, all_opened, as_many_opened}
use Rattle.kc_lasting.specs.Ends.{IsNewCaller}
use Rattle.kc_lasting.specs.Opening.{IsFirst}
use Rattle.kc_store.specs.Knows.{OpensWith}
use Rattle.kc_store.specs.Views.{CallerView, StoreView}
use Rattle.kc_lasting.proofs.opening.opened_at.Goals as goal

pub first_of-requires-clause-of : goal.first_of-requires-clause-of
first_of-requires-clause-of c = subst (λ (cs : List CallerView). All (λ (x : CallerView). x.of ≡ c.in-Ok.pair.0) cs) (sym c.in-Ok.ensures.ok.1) (all_opened c.in-Ok.pair.0 0 _)

pub first_of-requires-clause-new : goal.first_of-requires-clause-new
first_of-requires-clause-new c = subst (λ (cs : List CallerView). All IsNewCaller cs) (sym c.in-Ok.ensures.ok.1) (all_new c.in-Ok.pair.0 0 _)

pub returns : goal.returns
returns c =
    let z = c.in-Ok.pair.0 in
    let k = c.args.callers in
    let roll = c.in_ok-roll.roll in
    let dealt = ap length c.in-Ok.ensures.ok.1 in let opened = as_many_opened z 0 (k + 1) in let clients = c.in_ok-roll.ensures.count in let handles = c.in_ok-given.ensures.count in
    record {
      store = z;
      roll = roll;
      opens = subst (λ (vs : List ℕ). OpensWith vs (c.args.versions.now ++ 0 ∷ []) (k + 1) z) (c.as_slice.ensures.value ∙ c.in_ok-all.ensures) (subst (λ (ws : List ℕ). OpensWith c.as_slice.result.now ws (k + 1) z) (c.as_slice-2.ensures.value ∙ c.in_ok-at.ensures) c.in-Ok.ensures.opens);
      count = omega (arith, dealt, opened, clients, handles);
      all = subst (λ (y : StoreView). All (IsFirst roll y) c.in_ok-given.given.items) c.in_ok-roll.ensures.keeper c.in_ok-given.ensures.all;
    }
