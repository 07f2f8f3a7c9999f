use Rattle.std.proofs.Common.{◌≡◌, Some, ℕ, arith, rules, subst, sym}
use Rattle.kc_lasting.proofs.Chains.{store_on}
use Rattle.kc_lasting.specs.Eras.{store_at}
use Rattle.kc_store.specs.Views.{StoreView}
use Rattle.kc_lasting.proofs.crossing.go_over.Goals as goal

pub returns-clause-at : goal.returns-clause-at
returns-clause-at c = λ _.
    let e = c.args.eras.now in
    let seen = c.args.place.now.page.seen in
    let same : c.leave.new.self.number ≡ e.number = search rules in
    let fresh : c.in-Some.field-0.client.caller.of ≡ e.keeper.caller.of = search rules in
    let later = c.requires.later in (
      subst (λ (k : ℕ). store_at seen k ≡ Some c.in-Some.field-0.client.caller.of) (sym same) (subst (λ (z : StoreView). store_at seen e.number ≡ Some z) (sym fresh) (store_on e.page.seen seen c.requires.sees e.number e.keeper.caller.of c.requires.kept.last)),
      omega (arith, later, same),
    )
