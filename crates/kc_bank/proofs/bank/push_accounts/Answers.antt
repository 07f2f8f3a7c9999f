use Rattle.std.proofs.Common.{rules}
use Rattle.kc_bank.proofs.OpeningLemmas.{values_more}
use Rattle.kc_hash.specs.Content.{hash_opening}
use Rattle.kc_bank.proofs.bank.push_accounts.Goals as goal

pub loop-index-preserved : goal.loop-index-preserved
loop-index-preserved c =
    values_more (hash_opening c.args.accounts.now) c.loop-index.index c.args.values.now.items c.loop-index.values.items _ c.loop-index.invariant (search rules)
