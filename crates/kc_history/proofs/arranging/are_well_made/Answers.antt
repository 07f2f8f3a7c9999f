use Rattle.std.proofs.Common.{All, sym, subst, refl}
use Rattle.std.proofs.lemmas.List.Elements.{All-more}
use Rattle.kc_history.specs.RecordsValue.{RecordsValue}
use Rattle.kc_history.proofs.Opening.{all_lists, by_lists}
use Rattle.kc_history.proofs.Tallies.{all_taken}
use Rattle.kc_history.proofs.Totals.{same_footprints}
use Rattle.kc_history.specs.Ends.{AreWellMade, CanStand}
use Rattle.kc_history.specs.declared.record.Record.{Record}
use Rattle.kc_history.proofs.arranging.are_well_made.Goals as goal

pub returns-then-not-all_well_made : goal.returns-then-not-all_well_made
returns-then-not-all_well_made c = (
  λ e. absurd (cc),
  λ made. absurd (
      let all = all_lists CanStand c.args.records.now (subst AreWellMade (same_footprints c.args.records.now) made) in
      let here : All (λ (r : Record). CanStand r.footprint) c.list-item.result.items = subst (λ (v : RecordsValue). All (λ (r : Record). CanStand r.footprint) v.items) (sym c.list-item.is) (all c.loop-list.list-index c.list-item.result c.loop-list-test.true) in
      let yes = c.all_well_made.ensures.1 here in
      cc (yes, c.if-not-all_well_made.true)),
)

pub loop-list-preserved : goal.loop-list-preserved
loop-list-preserved c = All-more (λ (v : RecordsValue). All (λ (r : Record). CanStand r.footprint) v.items) c.args.records.now c.loop-list.list-index c.list-item.result c.loop-list-test.true c.loop-list.invariant (subst (λ (v : RecordsValue). All (λ (r : Record). CanStand r.footprint) v.items) c.list-item.is (c.all_well_made.ensures.0 c.if-not-all_well_made.false))

pub returns : goal.returns
returns c = (λ _. subst AreWellMade (sym (same_footprints c.args.records.now)) (by_lists CanStand c.args.records.now (all_taken (λ (v : RecordsValue). All (λ (r : Record). CanStand r.footprint) v.items) c.args.records.now c.loop-list.list-index c.loop-list-test.false c.loop-list.invariant)), λ _. refl)
