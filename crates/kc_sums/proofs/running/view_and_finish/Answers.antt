use Rattle.std.proofs.Common.{Contains, arith, refl}
use Rattle.kc_sums.proofs.Opened.{opens}
use Rattle.kc_sums.proofs.Totals.{view_exact}
use Rattle.kc_sums.proofs.running.view_and_finish.Goals as goal

pub finish_kept-requires-clause-all : goal.finish_kept-requires-clause-all
finish_kept-requires-clause-all g c = c.serving_adds_up.ensures.all c.args.store _ (rw c.in-Ok.ensures.all (c.serving_adds_up.ensures.then _ _ _ c.requires.first c.in_ok-sum.ensures.serves, (c.requires.second, c.requires.opens.callers_are)))

pub finish_kept-requires-clause-only : goal.finish_kept-requires-clause-only
finish_kept-requires-clause-only g c = c.serving_adds_up.ensures.only c.args.store _ (rw c.in-Ok.ensures.all (c.serving_adds_up.ensures.then _ _ _ c.requires.first c.in_ok-sum.ensures.serves, (c.requires.second, c.requires.opens.callers_are)))

pub finish_kept-requires-clause-opens : goal.finish_kept-requires-clause-opens
finish_kept-requires-clause-opens g c = opens c.args.bank.now c.args.store _ _ c.requires.bank.total c.requires.opens

pub returns-clause-throughout : goal.returns-clause-throughout
returns-clause-throughout g c = record {
  store = c.args.store;
  opens = c.requires.opens;
  legal = c.finish_kept.ensures.history.legal;
  exact = λ before behind t e legal. (c.finish_kept.ensures.throughout before behind t e legal).1;
}

pub returns-clause-sum : goal.returns-clause-sum
returns-clause-sum g c =
    let among : Contains c.in-Ok.callers.items c.read_all.new.caller = rw c.in-Ok.ensures.all (0, omega arith, refl) in
    view_exact c.args.bank.now _ _ _ _ _ c.in_ok-sum.ensures.saw
    (λ seen. c.finish_kept.ensures.views _ _ _ _ _ seen (c.what_is_known_stays_known.ensures.same _).remembers seen.ended among)
    (λ said. c.finish_kept.ensures.commits _ _ _ _ _ said (c.serving_adds_up.ensures.same _) among)
