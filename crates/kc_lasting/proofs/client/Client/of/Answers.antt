use Rattle.std.proofs.Common.{subst, sym}
use Rattle.kc_lasting.proofs.Holding.{seen_new}
use Rattle.kc_lasting.specs.Ends.{HasSeen}
use Rattle.kc_store.specs.Views.{CallerView}
use Rattle.kc_lasting.proofs.client.Client.of.Goals as goal

pub invariant_of-result-clause-early : goal.invariant_of-result-clause-early
invariant_of-result-clause-early c = subst (λ (s : CallerView). ∥ HasSeen c.args.locations 0 s c.args.caller ∥₁) (sym c.of-seen.ensures) ∣ seen_new c.args.locations 0 c.args.caller c.shows.ensures.view c.requires.new.past ∣₁
