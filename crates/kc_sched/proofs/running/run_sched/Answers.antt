use Rattle.std.proofs.Common.{refl}
use Rattle.kc_keep.proofs.Lasting.{lasting}
use Rattle.kc_sched.proofs.Acts.{settled, two_settled}
use Rattle.kc_sched.specs.Sched.{EachGoes, EndsStay}
use Rattle.kc_store.specs.Views.{store_opening}
use Rattle.kc_sched.proofs.running.run_sched.Goals as goal

pub returns : goal.returns
returns g c = record {
  opening = store_opening c.in_ok-store.store;
  opens = c.in_ok-store.ensures.opens.cells;
  legal = c.finish_served-past.ensures.legal;
  goes = c.finish_served-past.ensures.steps;
  stay = lasting (EachGoes c.args.sched.now) (EndsStay c.args.sched.now) (settled c.args.sched.now) (λ m job lt e. refl) (two_settled c.args.sched.now) (store_opening c.in_ok-store.store) c.finish_served-past.result.history c.finish_served-past.ensures.steps;
}
