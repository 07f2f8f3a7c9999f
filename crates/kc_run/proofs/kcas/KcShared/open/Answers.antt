use Rattle.std.proofs.Common.{◌≡◌, ◌<◌, arith, get_or}
use Rattle.kc_run.proofs.Passes.{first_shows, opens}
use Rattle.kc_run.proofs.kcas.KcShared.open.Goals as goal

pub returns-clause-ok : goal.returns-clause-ok
returns-clause-ok c =
    let o = c.in_ok-store.ensures.ok in
    let some : 0 < c.args.callers = let ne = c.if-callers-eq0.false in omega (arith, ne) in
    opens c.args.values.now c.in_ok-store.store c.in_ok-store.callers.items c.args.callers o.0 (first_shows c.in_ok-store.store c.args.callers c.in_ok-store.callers.items c.index.result.now _ o.1 some c.index.ensures c.shows.ensures.view) o.1
