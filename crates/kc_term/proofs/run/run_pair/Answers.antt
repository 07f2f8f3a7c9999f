use Rattle.std.proofs.Common.{◌++◌, [], arith, length-append}
use Rattle.kc_term.proofs.TermLaw.{answers_one, obeys_nothing, obeys_part, obeys_part_stops}
use Rattle.kc_term.specs.Meaning.{items_of}
use Rattle.kc_term.specs.Tree.{op, none, more}
use Rattle.kc_xt.proofs.Composed.{obeys_exits, obeys_wider}
use Rattle.kc_term.proofs.run.run_pair.Goals as goal

pub returns-in_err-first-clause-law : goal.returns-in_err-first-clause-law
returns-in_err-first-clause-law g c =
    obeys_exits {z = c.run.new.xt} c.from_residual.ensures.1 (obeys_part_stops _ g.O.Transact.meaning (op c.args.a.now) (more (op c.args.b.now) none) [] _ _ _ (obeys_wider (g.O.Transact.end c.args.a.now) _ (omega arith) _ _ _ _ c.in_err-first.ensures.law))

pub returns-in_err-second-clause-law : goal.returns-in_err-second-clause-law
returns-in_err-second-clause-law g c =
    obeys_exits {z = c.run-2.new.xt} c.from_residual-in_err-second.ensures.1 (obeys_part _ g.O.Transact.meaning (op c.args.a.now) (more (op c.args.b.now) none) [] _ _ _ _ _ (obeys_wider (g.O.Transact.end c.args.a.now) _ (omega arith) _ _ _ _ c.in_ok-first.ensures.law)
    (obeys_part_stops _ g.O.Transact.meaning (op c.args.b.now) none ([] ++ items_of c.in_ok-first.first) _ _ _ (obeys_wider (g.O.Transact.end c.args.b.now) _ (omega arith) _ _ _ _ c.in_err-second.ensures.law)))

pub add-requires-2 : goal.add-requires-2
add-requires-2 g c =
    let one = answers_one _ _ _ _ _ c.requires.fit.single.0 c.in_ok-first.ensures.law in
    let two = answers_one _ _ c.run.new.xt _ _ c.requires.fit.single.1.0 c.in_ok-second.ensures.law in
    rw (c.add.ensures, c.new-items.ensures) (omega (arith, one, two))

pub returns-clause-law : goal.returns-clause-law
returns-clause-law g c =
    rw (c.add-2.ensures, c.add.ensures, c.new-items.ensures) (obeys_part _ g.O.Transact.meaning (op c.args.a.now) (more (op c.args.b.now) none) [] _ _ _ _ _ (obeys_wider (g.O.Transact.end c.args.a.now) _ (omega arith) _ _ _ _ c.in_ok-first.ensures.law)
    (obeys_part _ g.O.Transact.meaning (op c.args.b.now) none ([] ++ items_of c.in_ok-first.first) _ _ _ _ _ (obeys_wider (g.O.Transact.end c.args.b.now) _ (omega arith) _ _ _ _ c.in_ok-second.ensures.law) (obeys_nothing _ g.O.Transact.meaning _ _)))

pub returns-clause-items : goal.returns-clause-items
returns-clause-items g c =
    let one = answers_one _ _ _ _ _ c.requires.fit.single.0 c.in_ok-first.ensures.law in
    let two = answers_one _ _ c.run.new.xt _ _ c.requires.fit.single.1.0 c.in_ok-second.ensures.law in
    rw (c.add-2.ensures, c.add.ensures, c.new-items.ensures) (omega (arith, one, two, length-append (items_of c.in_ok-first.first) (items_of c.in_ok-second.second)))
