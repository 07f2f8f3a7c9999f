use Rattle.std.proofs.Common.{◌∙◌, sym, subst, refl, arith}
use Rattle.std.proofs.lemmas.List.Elements.{All-more}
use Rattle.kc_history.proofs.Kept.{blank, print_is}
use Rattle.kc_history.proofs.Tallies.{all_taken}
use Rattle.kc_history.specs.Ends.{CanStand}
use Rattle.kc_history.specs.declared.record.Record.{Record}
use Rattle.kc_history.proofs.arranging.all_well_made.Goals as goal

pub returns-then-not-can_stand : goal.returns-then-not-can_stand
returns-then-not-can_stand c = (
  λ e. absurd (cc),
  λ all. absurd (
      let here : CanStand c.fill.new.footprint = subst CanStand (print_is c.args.list.now.items c.loop-i.i blank (let a = c.len-i-end.ensures in let b = c.loop-i-test.true in omega arith) ∙ sym c.fill.ensures) (all c.loop-i.i blank (let a = c.len-i-end.ensures in let b = c.loop-i-test.true in omega arith)) in
      let yes = c.can_stand.ensures.1 here in
      cc (yes, c.if-not-can_stand.true)),
)

pub loop-i-preserved : goal.loop-i-preserved
loop-i-preserved c =
    All-more (λ (r : Record). CanStand r.footprint) c.args.list.now.items c.loop-i.i blank (let a = c.len-i-end.ensures in let b = c.loop-i-test.true in omega arith) c.loop-i.invariant
    (subst CanStand (c.fill.ensures ∙ sym (print_is c.args.list.now.items c.loop-i.i blank (let a = c.len-i-end.ensures in let b = c.loop-i-test.true in omega arith))) (c.can_stand.ensures.0 c.if-not-can_stand.false))

pub returns : goal.returns
returns c = (λ _. all_taken (λ (r : Record). CanStand r.footprint) c.args.list.now.items c.loop-i.i (let a = c.len-i-end.ensures in let b = c.loop-i-test.false in omega arith) c.loop-i.invariant, λ _. refl)
