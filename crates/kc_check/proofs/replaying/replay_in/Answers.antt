use Rattle.std.proofs.Common.{◌≡◌, ◌+◌, ◌<◌, Some, get_or, length, sym, ap, ◌∙◌, subst, arith}
use Rattle.std.specs.Prelude.{slice_get}
use Rattle.kc_check.proofs.Replays.{labels_at, labels_end, meanings_at, meanings_end}
use Rattle.kc_history.specs.declared.record.Mark.TheVariants as mark
use Rattle.kc_model.specs.declared.footprint.TheConstants.{MOST}
use Rattle.kc_script_bundle.specs.Meaning.{end_meaning}
use Rattle.kc_script_bundle.specs.declared.operation.Command.{Command}
use Rattle.kc_script_runs.proofs.Limits.{command_few, end_few}
use Rattle.kc_script_runs.specs.Labels.{labels}
use Rattle.kc_script_runs.specs.Threads.{asked, meanings}
use Rattle.kc_xt.specs.Meaning.{limited}
use Rattle.kc_check.proofs.replaying.replay_in.Goals as goal

pub add_commit-requires-clause-lines : goal.add_commit-requires-clause-lines
add_commit-requires-clause-lines c = λ s. (let few = end_few s in let some = c.requires.limit.0 in let same = c.requires.room.2 in omega (arith, few, some, same))

pub add_commit-requires-2-clause-lines : goal.add_commit-requires-2-clause-lines
add_commit-requires-2-clause-lines c = λ s. (let few = command_few c.args.limit c.args.thread c.index-commands-index.result s in let same = c.requires.room.2 in omega (arith, few, same))

pub returns-then-index-commands-clause-commits : goal.returns-then-index-commands-clause-commits
returns-then-index-commands-clause-commits c = λ ok.
    let at : length c.args.records.now.items ≡ length c.args.commands.now = omega arith in
    record {
      meaning = limited MOST (end_meaning 0);
      means = ap (slice_get (meanings c.args.limit c.args.thread c.args.commands.now)) at ∙ meanings_end c.args.limit c.args.thread c.args.commands.now;
      mark = mark.End;
      labelled = ap (slice_get (labels c.args.thread 1 c.args.commands.now)) at ∙ labels_end c.args.thread 1 c.args.commands.now;
      adds = c.add_commit.ensures.adds ok;
    }

pub returns-then-index-commands-clause-waits : goal.returns-then-index-commands-clause-waits
returns-then-index-commands-clause-waits c = λ no.
    let at : length c.args.records.now.items ≡ length c.args.commands.now = omega arith in
    record { meaning = limited MOST (end_meaning 0); means = ap (slice_get (meanings c.args.limit c.args.thread c.args.commands.now)) at ∙ meanings_end c.args.limit c.args.thread c.args.commands.now; waits = c.add_commit.ensures.waits no }

pub returns-clause-commits : goal.returns-clause-commits
returns-clause-commits c = λ ok.
    let command : Command = c.index-commands-index.result in
    let below : length c.args.records.now.items < length c.args.commands.now = (let le = c.requires.index in omega arith) in
    let means : slice_get (meanings c.args.limit c.args.thread c.args.commands.now) (length c.args.records.now.items) ≡ Some (asked c.args.limit c.args.thread command) =
    meanings_at c.args.limit c.args.thread c.args.commands.now (length c.args.records.now.items) command below ∙ ap (λ (x : Command). Some (asked c.args.limit c.args.thread x)) (sym (subst (λ k. command ≡ get_or c.args.commands.now k command) c.len-index.ensures c.index-commands-index.is)) in
    record {
      meaning = asked c.args.limit c.args.thread command;
      means = means;
      mark = mark.Command (c.len-index.result + 1);
      labelled = labels_at c.args.thread 1 c.args.commands.now (length c.args.records.now.items) (c.len-index.result + 1) below (let e = c.len-index.ensures in omega (arith, e));
      adds = c.add_commit-2.ensures.adds ok;
    }

pub returns-clause-waits : goal.returns-clause-waits
returns-clause-waits c = λ no.
    let command : Command = c.index-commands-index.result in
    let below : length c.args.records.now.items < length c.args.commands.now = (let le = c.requires.index in omega arith) in
    let means : slice_get (meanings c.args.limit c.args.thread c.args.commands.now) (length c.args.records.now.items) ≡ Some (asked c.args.limit c.args.thread command) =
    meanings_at c.args.limit c.args.thread c.args.commands.now (length c.args.records.now.items) command below ∙ ap (λ (x : Command). Some (asked c.args.limit c.args.thread x)) (sym (subst (λ k. command ≡ get_or c.args.commands.now k command) c.len-index.ensures c.index-commands-index.is)) in
    record { meaning = asked c.args.limit c.args.thread command; means = means; waits = c.add_commit-2.ensures.waits no }
