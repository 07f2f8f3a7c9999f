use Rattle.kc_model.proofs.Pens.{puts_then}
use Rattle.kc_script_storm.proofs.summary.put_summary.Goals as goal

pub returns : goal.returns
returns g c =
    let oks = rw c.ok_commands.ensures at c.put_number-3.ensures in
    let commits = rw c.commits.ensures at c.put_number-2.ensures in
    puts_then (puts_then (puts_then (puts_then (puts_then (puts_then (puts_then c.put.ensures c.put_number.ensures) c.put-2.ensures) commits) c.put-3.ensures) oks) c.put-4.ensures) c.put_state.ensures
