use Rattle.std.proofs.Common.{◌≡◌, ℕ, arith, subst, sym, take, drop, length, ◌++◌}
use Rattle.std.specs.Prelude.{IfErr}
use Rattle.kc_history.proofs.Opening.{put_back}
use Rattle.kc_history.proofs.Totals.{same_footprints, all_well_made}
use Rattle.kc_history.specs.Counts.{AllWellMade}
use Rattle.kc_history.specs.Ends.{IsStuck, HasLegalList}
use Rattle.kc_history.specs.Order.{Footprints}
use Rattle.kc_history.proofs.arranging.arrange.Goals as goal

pub find_order-placed-requires-clause-made : goal.find_order-placed-requires-clause-made
find_order-placed-requires-clause-made c =
    let size : length c.as_mut_slice-3.result.now ≡ 65536 = (let a = c.as_mut_slice-3.ensures.len in let b = c.room.invariant.0 in omega arith) in
    subst (λ (n : ℕ). AllWellMade n c.args.records.now) (sym size) (all_well_made c.args.records.now c.requires.made)

pub returns-clause-arranged : goal.returns-clause-arranged
returns-clause-arranged c =
    let r = c.room.inside.order in
    let o = r.ok.0 in
    let order : take r.len (c.find_order-placed.new.order ++ drop (length c.find_order-placed.new.order) r.items) ≡ c.find_order-placed.new.order = put_back c.find_order-placed.new.order r.items r.len (omega arith) (omega arith) in
    rw (same_footprints c.args.records.now, order) c.find_order-placed.ensures.arranged

pub returns-clause-stuck : goal.returns-clause-stuck
returns-clause-stuck c = subst (λ (a : Footprints). IfErr c.find_order-placed.result.1 (λ cycle. IsStuck a cycle)) (sym (same_footprints c.args.records.now)) c.find_order-placed.ensures.stuck

pub returns-clause-never : goal.returns-clause-never
returns-clause-never c h = c.find_order-placed.ensures.never (subst HasLegalList (same_footprints c.args.records.now) h)
