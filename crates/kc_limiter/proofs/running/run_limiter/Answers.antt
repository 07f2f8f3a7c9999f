use Rattle.kc_limiter.proofs.Windows.{limited, rises}
use Rattle.kc_store.specs.Views.{last, store_opening}
use Rattle.kc_limiter.proofs.running.run_limiter.Goals as goal

pub returns : goal.returns
returns g c =
    let p = c.finish_served-past in
    record {
      opening = store_opening c.in_ok-store.store;
      opens = c.in_ok-store.ensures.opens.cells;
      legal = p.ensures.legal;
      counts = p.ensures.throughout;
      goes = p.ensures.steps;
      rises = rises c.args.limiter.now (store_opening c.in_ok-store.store) (last p.result) p.result.history p.ensures.throughout p.ensures.steps;
      windows = λ window client lt. limited c.args.limiter.now (store_opening c.in_ok-store.store) (last p.result) p.result.history p.ensures.throughout p.ensures.steps window client lt p.ensures.legal;
    }
