use Rattle.std.proofs.Common.{◌≡◌, ℕ, ◌+◌, ◌≤◌, List, [], ◌∷◌}
use Rattle.kc_script_bundle.specs.Script.{Names, base, cells, LieFrom, next_from}
use Rattle.kc_script_bundle.specs.declared.object.Object.{Object}
use Rattle.kc_script_tests.proofs.states.opens.Goals as goal

-- one object that begins at location 1
one_lies : (names : Names) (entry : List ℕ × Object) → names ≡ entry ∷ [] → base entry.1 ≡ 1 → LieFrom 1 names
unfolding LieFrom
one_lies names entry e h = rw e (h, tt)

one_within : (names : Names) (entry : List ℕ × Object) → names ≡ entry ∷ [] → 1 + cells entry.1 ≤ 65536 → next_from 1 names ≤ 65536
unfolding next_from
one_within names entry e h = rw e h

pub opening-requires-clause-lies : goal.opening-requires-clause-lies
opening-requires-clause-lies g c =
    let only = c.in_ok-bundle.ensures.object in
    record { lie = one_lies _ _ only.1 c.requires.first; within = one_within _ _ only.1 c.requires.within }
