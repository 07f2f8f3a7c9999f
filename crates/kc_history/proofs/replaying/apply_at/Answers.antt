use Rattle.std.proofs.Common.{rules, ◌≡◌, ◌∙◌, subst, sym}
use Rattle.kc_history.proofs.Applied.{some_record}
use Rattle.kc_history.proofs.Choice.{some_is}
use Rattle.kc_history.proofs.Places.{footprint_read, index_within}
use Rattle.kc_history.specs.Records.{lists_of, record_print}
use Rattle.kc_model.specs.Store.{Finds, store_of, after}
use Rattle.kc_model.specs.declared.footprint.Footprint.{Footprint}
use Rattle.kc_history.proofs.replaying.apply_at.Goals as goal

pub fill-requires : goal.fill-requires
fill-requires c =
    let (f, at, finds) = c.requires.finds in
    search (rules, index_within c.args.records.now c.args.place.thread c.args.place.index c.index-records-place.result c.index-records-place.is (some_record (lists_of c.args.records.now) c.args.place.thread c.args.place.index f at))

pub apply-requires-clause-made : goal.apply-requires-clause-made
apply-requires-clause-made c =
    let (f, at, finds) = c.requires.finds in
    rw c.fill.ensures (c.requires.made c.args.place.thread c.args.place.index (record_print c.index-records-place.result.items c.args.place.index) (footprint_read c.args.records.now _ _ c.index-records-place.result c.index-records-place.is (some_record (lists_of c.args.records.now) c.args.place.thread c.args.place.index f at))).0

pub apply-requires-clause-within : goal.apply-requires-clause-within
apply-requires-clause-within c =
    let (f, at, finds) = c.requires.finds in
    rw c.fill.ensures (c.requires.made c.args.place.thread c.args.place.index (record_print c.index-records-place.result.items c.args.place.index) (footprint_read c.args.records.now _ _ c.index-records-place.result c.index-records-place.is (some_record (lists_of c.args.records.now) c.args.place.thread c.args.place.index f at))).1

pub unreachable-requires : goal.unreachable-requires
unreachable-requires c =
    let (f, at, finds) = c.requires.finds in
    let same : f ≡ (record_print c.index-records-place.result.items c.args.place.index) = some_is f _ (sym at ∙ footprint_read c.args.records.now _ _ c.index-records-place.result c.index-records-place.is (some_record (lists_of c.args.records.now) c.args.place.thread c.args.place.index f at)) in
    let ok = (rw c.fill.ensures at c.apply.ensures.stands) (subst (λ (g : Footprint). Finds g (store_of c.args.store.now)) same finds) in
    search (rules, ok, c.if-is_err.true, c.is_err.ensures.value)

pub returns-clause-after : goal.returns-clause-after
returns-clause-after c =
    λ g there.
    let (f, at, finds) = c.requires.finds in
    let same : (record_print c.index-records-place.result.items c.args.place.index) ≡ g = some_is _ g (sym (footprint_read c.args.records.now _ _ c.index-records-place.result c.index-records-place.is (some_record (lists_of c.args.records.now) c.args.place.thread c.args.place.index f at)) ∙ there) in
    subst (λ (h : Footprint). store_of c.apply.new.self ≡ after h (store_of c.args.store.now)) same (search (rules, rw c.fill.ensures at c.apply.ensures.ok, c.if-is_err.false, c.is_err.ensures.value))
