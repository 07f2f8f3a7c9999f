use Rattle.std.proofs.Common.{◌≡◌, ◌+◌, ◌∙◌, List, length, refl, sym, subst, arith}
use Rattle.kc_history.specs.declared.record.Mark.TheVariants as mark
use Rattle.kc_history.specs.declared.record.Record.{Record}
use Rattle.kc_model.specs.declared.footprint.TheConstants.{MOST}
use Rattle.kc_run.proofs.Jobs.{can_row, row_is}
use Rattle.kc_script_runs.proofs.Limits.{command_few, end_few, few_lines}
use Rattle.kc_run.proofs.Threads.{is_answered, ran_end, ran_first, ran_more}
use Rattle.kc_run.specs.Jobs.{PassRan, JobReady, row_at}
use Rattle.kc_run.specs.Run.{CanRun}
use Rattle.kc_run.specs.Shared.{commit_gives}
use Rattle.kc_script_bundle.specs.Meaning.{end_meaning}
use Rattle.kc_script_bundle.specs.declared.operation.Command.{Command}
use Rattle.kc_script_runs.specs.Threads.{IsAnswered, asked}
use Rattle.kc_xt.specs.Meaning.{limited}
use Rattle.kc_run.proofs.thread.run_thread.Goals as goal

pub loop-i-init : goal.loop-i-init
loop-i-init g c =
    let cs = c.as_slice-commands.result.now in
    let row : row_at c.args.threads.now c.args.place ≡ cs = row_is _ _ c.index-threads-place.result c.requires.thread.0 c.index-threads-place.is ∙ sym c.as_slice-commands.ensures.value in
    let ready = subst (λ (l : List Command). JobReady g.S.Shared.belongs g.S.Shared.number g.S.Shared.left g.S.Shared.own c.args.limit c.args.shared.now c.args.place l c.args.job.now) row c.requires.ready in
    ran_first c.args.limit (c.args.place + 1) (commit_gives g.S.Shared.enters_looks) g.S.Shared.belongs g.S.Shared.number g.S.Shared.left g.S.Shared.own g.S.Shared.opening c.args.shared.now cs c.args.job.now.pass c.args.job.now.records
    ready.may.belongs_to ready.may.share ready.may.fresh ready.room

pub add-requires-clause-reads : goal.add-requires-clause-reads
add-requires-clause-reads g c =
    let m = asked c.args.limit (c.args.place + 1) c.index-commands-i.result in
    let lines = few_lines m c.commit_command-answer.result c.commit_command-answer.new.footprint c.args.limit c.commit_command-answer.ensures.answers (command_few c.args.limit (c.args.place + 1) c.index-commands-i.result) in
    omega (arith, lines.0, c.loop-i.invariant.most)

pub add-requires-clause-puts : goal.add-requires-clause-puts
add-requires-clause-puts g c =
    let m = asked c.args.limit (c.args.place + 1) c.index-commands-i.result in
    let lines = few_lines m c.commit_command-answer.result c.commit_command-answer.new.footprint c.args.limit c.commit_command-answer.ensures.answers (command_few c.args.limit (c.args.place + 1) c.index-commands-i.result) in
    omega (arith, lines.1, c.loop-i.invariant.most)

pub loop-i-preserved : goal.loop-i-preserved
loop-i-preserved g c =
    let n = length (g.S.Shared.opening c.args.shared.now) in
    let thread = c.args.place + 1 in
    let cs = c.as_slice-commands.result.now in
    let d = c.index-commands-i.result in
    let e = c.commit_command-answer.ensures in
    let r : Record = record { thread = thread; mark = mark.Command (c.loop-i.i + 1); answer = c.commit_command-answer.result; footprint = c.commit_command-answer.new.footprint } in
    let all = can_row n c.args.threads.now c.args.place c.index-threads-place.result cs c.requires.thread.0 c.index-threads-place.is c.as_slice-commands.ensures.value c.requires.commands in
    let can = subst (CanRun n) (sym c.index-commands-i.is) (all.each c.loop-i.i d c.loop-i-test.true) in
    let answers = subst (λ (x : Command). IsAnswered n (asked c.args.limit thread x) r) c.index-commands-i.is (is_answered (asked c.args.limit thread d) r e.answers e.bound can.within) in
    let given = subst (λ (x : Command). commit_gives g.S.Shared.enters_looks (g.S.Shared.number c.loop-i.job.pass) (asked c.args.limit thread x) (g.S.Shared.own c.loop-i.job.pass) r.footprint (g.S.Shared.own c.commit_command-answer.new.pass)) c.index-commands-i.is e.own in
    ran_more c.args.limit thread (commit_gives g.S.Shared.enters_looks) g.S.Shared.belongs g.S.Shared.number g.S.Shared.left g.S.Shared.own g.S.Shared.opening c.args.shared.now cs c.args.job.now.pass c.loop-i.job.pass c.commit_command-answer.new.pass c.loop-i.job.records c.add.new.self c.loop-i.i d r
    c.loop-i.invariant c.loop-i-test.true e.pass e.left given answers c.add.ensures.items c.add.ensures.spare c.add.ensures.limit refl refl

pub add-requires-2-clause-reads : goal.add-requires-2-clause-reads
add-requires-2-clause-reads g c =
    let lines = few_lines (limited MOST (end_meaning 0)) c.commit_command-answer-2.result c.commit_command-answer-2.new.footprint 1 c.commit_command-answer-2.ensures.answers end_few in
    omega (arith, lines.0, c.loop-i.invariant.most, c.requires.limit.0)

pub add-requires-2-clause-puts : goal.add-requires-2-clause-puts
add-requires-2-clause-puts g c =
    let lines = few_lines (limited MOST (end_meaning 0)) c.commit_command-answer-2.result c.commit_command-answer-2.new.footprint 1 c.commit_command-answer-2.ensures.answers end_few in
    omega (arith, lines.1, c.loop-i.invariant.most, c.requires.limit.0)

pub returns : goal.returns
returns g c =
    let thread = c.args.place + 1 in
    let cs = c.as_slice-commands.result.now in
    let e = c.commit_command-answer-2.ensures in
    let r : Record = record { thread = thread; mark = mark.End; answer = c.commit_command-answer-2.result; footprint = c.commit_command-answer-2.new.footprint } in
    let row : row_at c.args.threads.now c.args.place ≡ cs = row_is _ _ c.index-threads-place.result c.requires.thread.0 c.index-threads-place.is ∙ sym c.as_slice-commands.ensures.value in
    let answered = is_answered (limited MOST (end_meaning 0)) r e.answers e.bound c.requires.locations in
    let past = c.loop-i-test.false in
    let ran = ran_end c.args.limit thread (commit_gives g.S.Shared.enters_looks) g.S.Shared.belongs g.S.Shared.number g.S.Shared.left g.S.Shared.own g.S.Shared.opening c.args.shared.now cs c.args.job.now.pass c.loop-i.job.pass c.commit_command-answer-2.new.pass c.loop-i.job.records c.add-2.new.self c.loop-i.i c.args.place r
    c.loop-i.invariant (omega (arith, past)) c.requires.ready.may.number_is refl e.pass e.own answered c.add-2.ensures.items refl refl in
    subst (λ (l : List Command). PassRan c.args.limit (commit_gives g.S.Shared.enters_looks) g.S.Shared.belongs g.S.Shared.number g.S.Shared.own g.S.Shared.opening c.args.shared.now c.args.place l c.commit_command-answer-2.new.pass c.add-2.new.self.items) (sym row) ran
