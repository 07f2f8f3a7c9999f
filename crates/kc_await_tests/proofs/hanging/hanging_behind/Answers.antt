use Rattle.std.proofs.Common.{rules, ◌≡◌, ◌<◌, ◌≤◌, ◌∙◌, arith, subst, sym}
use Rattle.kc_model.specs.Footprint.{IsBelow}
use Rattle.kc_store.specs.Views.{StoreView}
use Rattle.kc_await_tests.proofs.hanging.hanging_behind.Goals as goal

pub begin-requires-clause-below : goal.begin-requires-clause-below
begin-requires-clause-below g c = λ r i.
    let below : IsBelow c.bound.result c.try_commit_into.new.footprint = c.is_below.ensures.0 (search rules) in
    let lt : r.loc.0 < c.bound.result = below r i in
    let end = c.bound.ensures in
    let within = c.requires.within in
    subst (λ (s : StoreView). r.loc.0 < s.locations) (sym (c.try_commit_into.ensures.remembers.of ∙ c.requires.caller)) (omega (arith, lt, end, within))
