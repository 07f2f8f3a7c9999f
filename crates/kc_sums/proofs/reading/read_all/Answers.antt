use Rattle.std.proofs.Common.{inr}
use Rattle.kc_sums.proofs.Seen.{if_number, reading_of, within}
use Rattle.kc_sums.proofs.Totals.{all_read}
use Rattle.kc_sums.proofs.reading.read_all.Goals as goal

pub view_kept-requires-clause-within : goal.view_kept-requires-clause-within
view_kept-requires-clause-within g c = within c.layout-accounts.result _ _ c.layout-accounts.ensures.base c.layout-accounts.ensures.cells c.requires.size

pub view_kept-requires-clause-one : goal.view_kept-requires-clause-one
view_kept-requires-clause-one g c = inr (reading_of c.args.bank.now c.layout-accounts.result c.layout-accounts.ensures.base c.layout-accounts.ensures.cells)

pub returns-clause-saw : goal.returns-clause-saw
returns-clause-saw g c =
    let x = c.layout-accounts.result in
    let reading = reading_of c.args.bank.now x c.layout-accounts.ensures.base c.layout-accounts.ensures.cells in
    if_number _ _ _ _ (λ n saw. record { meaning = all_read x; reading = reading; saw = saw }) c.view_kept.ensures.says c.number_of.ensures
