use Rattle.kc_sums.proofs.Totals.{each_keeps}
use Rattle.kc_sums.proofs.bank.BankInvariant.is_kept.Goals as goal

pub returns : goal.returns
returns c = each_keeps c.args.self.now
