use Rattle.std.proofs.Common.{rules, ◌≤◌, ◌<◌, get_or, length}
use Rattle.kc_lasting.proofs.Firsts.{first_put}
use Rattle.kc_model.specs.declared.footprint.Put.{Put}
use Rattle.kc_lasting.proofs.settling.side_of.Goals as goal

pub returns-then-puts-versions : goal.returns-then-puts-versions
returns-then-puts-versions c =
    let d : Put = record { loc = record { 0 = 0 }; version = 0; after = 0 } in
    let ps = c.args.footprint.now.puts.items in
    let some : 0 < length ps = search rules in
    let within : (get_or ps 0 d).loc.0 < length c.args.versions.now = search rules in
    let below : (get_or ps 0 d).version < get_or c.args.versions.now (get_or ps 0 d).loc.0 0 = search rules in
    record { at = (get_or ps 0 d).loc.0; put = get_or ps 0 d; puts = first_put ps d some; within = within; below = below }

pub returns-else-puts-versions : goal.returns-else-puts-versions
returns-else-puts-versions c = λ _.
    let d : Put = record { loc = record { 0 = 0 }; version = 0; after = 0 } in
    let ps = c.args.footprint.now.puts.items in
    let some : 0 < length ps = search rules in
    let within : (get_or ps 0 d).loc.0 < length c.args.versions.now = search rules in
    let above : get_or c.args.versions.now (get_or ps 0 d).loc.0 0 ≤ (get_or ps 0 d).version = search rules in
    record { at = (get_or ps 0 d).loc.0; put = get_or ps 0 d; puts = first_put ps d some; within = within; above = above }
