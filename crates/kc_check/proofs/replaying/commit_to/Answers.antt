use Rattle.std.proofs.Common.{arith}
use Rattle.kc_model.specs.Store.{store_of}
use Rattle.kc_check.proofs.Ages.{young_to}
use Rattle.kc_check.proofs.replaying.commit_to.Goals as goal

pub returns-in-Done-clause-commits : goal.returns-in-Done-clause-commits
returns-in-Done-clause-commits g c =
    let came = rw c.in-Done.is at c.commit_over.ensures.came in
    let w = c.requires.within in
    record { finds = c.commit_over.ensures.finds; answers = came; made = (came.well_made, λ r inside. (let h = c.commit_over.ensures.bound r inside in omega arith)); store = c.commit_over.ensures.store }

pub returns-in-TooLarge-clause-commits : goal.returns-in-TooLarge-clause-commits
returns-in-TooLarge-clause-commits g c =
    let came = rw c.in-TooLarge.is at c.commit_over.ensures.came in
    let w = c.requires.within in
    record { finds = c.commit_over.ensures.finds; answers = came; made = (came.well_made, λ r inside. (let h = c.commit_over.ensures.bound r inside in omega arith)); store = c.commit_over.ensures.store }

pub returns-in-Done-clause-young : goal.returns-in-Done-clause-young
returns-in-Done-clause-young g c = young_to c.args.age (store_of c.args.store.now) (store_of c.commit_over.new.store) c.commit_over.new.footprint c.requires.young c.commit_over.ensures.store

pub returns-in-TooLarge-clause-young : goal.returns-in-TooLarge-clause-young
returns-in-TooLarge-clause-young g c = young_to c.args.age (store_of c.args.store.now) (store_of c.commit_over.new.store) c.commit_over.new.footprint c.requires.young c.commit_over.ensures.store
