use Rattle.std.proofs.Common.{◌≡◌, ◌++◌}
use Rattle.kc_bank.specs.Opening.{cell_values}
use Rattle.kc_hash.specs.Content.{hash_opening}
use Rattle.kc_bank.proofs.bank.push_accounts.Given as goal

abbrev pub invariant-loop-index : goal.invariant-loop-index
invariant-loop-index l = l.values.items ≡ l.initial.values.items ++ cell_values (hash_opening l.accounts) l.index
