use Rattle.std.proofs.Common.{rules, not, is_some, ap, ◌∙◌}
use Rattle.kc_script_lines.specs.Tests.{wants}
use Rattle.kc_script_lines.specs.declared.fault.Why.TheVariants.{RepeatedName}
use Rattle.kc_script_verbs.proofs.Names.{put, none_at, some_at}
use Rattle.kc_script_verbs.proofs.objects.add_new.Goals as goal

pub returns-in-Vacant-clause-new : goal.returns-in-Vacant-clause-new
returns-in-Vacant-clause-new c =
    let none = none_at c.args.objects.now c.in_ok-from_str.field-0 c.args.name.now c.in_ok-from_str.ensures.ok (rw c.in-Vacant.is at c.in_ok-place.ensures.found) in
    ap (λ o. wants (not (is_some o)) RepeatedName) none

pub returns-in-Vacant-clause-added : goal.returns-in-Vacant-clause-added
returns-in-Vacant-clause-added c =
    let none = none_at c.args.objects.now c.in_ok-from_str.field-0 c.args.name.now c.in_ok-from_str.ensures.ok (rw c.in-Vacant.is at c.in_ok-place.ensures.found) in
    let up = rw c.in-Vacant.is at (c.in_ok-place.ensures.update.1 c.args.object) in
    put c.args.objects.now c.insert_entry-placed.result.map.now _ c.in_ok-from_str.field-0 c.args.object c.args.name.now (search rules) (ap (λ m. m.entries) c.insert_entry-placed.ensures.1 ∙ up) c.in_ok-from_str.ensures.ok none

pub returns-in-Occupied-clause-new : goal.returns-in-Occupied-clause-new
returns-in-Occupied-clause-new c =
    let there = some_at c.args.objects.now c.in_ok-from_str.field-0 c.args.name.now c.in_ok-from_str.ensures.ok (rw c.in-Occupied.is at c.in_ok-place.ensures.found).0 in
    ap (λ b. wants (not b) RepeatedName) there
