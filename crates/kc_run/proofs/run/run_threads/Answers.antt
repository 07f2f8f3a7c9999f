use Rattle.std.proofs.Common.{◌≡◌, List, length, map, refl, sym, ap, subst, ◌∙◌, arith}
use Rattle.std.specs.Prelude.{All}
use Rattle.std.specs.Global.{Vec}
use Rattle.kc_history.specs.Callers.{of_caller}
use Rattle.kc_history.specs.Records.{lists_of}
use Rattle.kc_history.specs.RecordsValue.{RecordsValue}
use Rattle.kc_run.proofs.Jobs.{jobs_ready, ran_done}
use Rattle.kc_run.specs.Jobs.{paired}
use Rattle.kc_run.specs.Shared.{commit_gives}
use Rattle.kc_script_bundle.specs.declared.operation.Command.{Command}
use Rattle.kc_script_runs.proofs.Given.{run_by_threads}
use Rattle.kc_script_runs.specs.Threads.{AreRunBy}
use Rattle.kc_run.proofs.run.run_threads.Goals as goal

pub pair-requires-clause-same : goal.pair-requires-clause-same
pair-requires-clause-same g c = (jobs_ready g.S.Shared.belongs g.S.Shared.number g.S.Shared.left g.S.Shared.own c.args.shared c.args.limit c.args.threads.now c.args.passes.items c.in-Ok-Ok-Ok-Ok.space.items (paired c.args.passes.items c.in-Ok-Ok-Ok-Ok.space.items) c.requires.passes c.in-Ok-Ok-Ok-Ok.ensures refl).rooms

pub pair-requires-clause-room : goal.pair-requires-clause-room
pair-requires-clause-room g c =
    let m = (jobs_ready g.S.Shared.belongs g.S.Shared.number g.S.Shared.left g.S.Shared.own c.args.shared c.args.limit c.args.threads.now c.args.passes.items c.in-Ok-Ok-Ok-Ok.space.items (paired c.args.passes.items c.in-Ok-Ok-Ok-Ok.space.items) c.requires.passes c.in-Ok-Ok-Ok-Ok.ensures refl).passes in
    let k = c.in-Ok-Ok-Ok-Ok.ensures'.capacity in omega (arith, m, k)

pub run_jobs-jobs-requires-clause-threads : goal.run_jobs-jobs-requires-clause-threads
run_jobs-jobs-requires-clause-threads g c κs within = ((jobs_ready g.S.Shared.belongs g.S.Shared.number g.S.Shared.left g.S.Shared.own c.args.shared c.args.limit c.args.threads.now c.args.passes.items c.in-Ok-Ok-Ok-Ok.space.items c.pair.result.items c.requires.passes c.in-Ok-Ok-Ok-Ok.ensures c.pair.ensures).jobs, c.requires.few)

pub run_jobs-jobs-requires-clause-some : goal.run_jobs-jobs-requires-clause-some
run_jobs-jobs-requires-clause-some g c κs within =
    let e = (jobs_ready g.S.Shared.belongs g.S.Shared.number g.S.Shared.left g.S.Shared.own c.args.shared c.args.limit c.args.threads.now c.args.passes.items c.in-Ok-Ok-Ok-Ok.space.items c.pair.result.items c.requires.passes c.in-Ok-Ok-Ok-Ok.ensures c.pair.ensures).jobs in
    let s = c.requires.some in omega (arith, e, s)

pub run_jobs-jobs-requires-clause-ready : goal.run_jobs-jobs-requires-clause-ready
run_jobs-jobs-requires-clause-ready g c κs within = (jobs_ready g.S.Shared.belongs g.S.Shared.number g.S.Shared.left g.S.Shared.own c.args.shared c.args.limit c.args.threads.now c.args.passes.items c.in-Ok-Ok-Ok-Ok.space.items c.pair.result.items c.requires.passes c.in-Ok-Ok-Ok-Ok.ensures c.pair.ensures).each

pub part-passes-requires-clause-room : goal.part-passes-requires-clause-room
part-passes-requires-clause-room g c =
    let e = (jobs_ready g.S.Shared.belongs g.S.Shared.number g.S.Shared.left g.S.Shared.own c.args.shared c.args.limit c.args.threads.now c.args.passes.items c.in-Ok-Ok-Ok-Ok.space.items c.pair.result.items c.requires.passes c.in-Ok-Ok-Ok-Ok.ensures c.pair.ensures).jobs in
    let l = c.run_jobs-jobs.ensures.len in
    let a = c.in-Ok-Ok-Ok-Ok.ensures''.capacity in
    let b = c.in-Ok-Ok-Ok-Ok.ensures'''.capacity in (omega (arith, e, l, a), omega (arith, e, l, b))

pub finish-requires-clause-passes : goal.finish-requires-clause-passes
finish-requires-clause-passes g c =
    let q = jobs_ready g.S.Shared.belongs g.S.Shared.number g.S.Shared.left g.S.Shared.own c.args.shared c.args.limit c.args.threads.now c.args.passes.items c.in-Ok-Ok-Ok-Ok.space.items c.pair.result.items c.requires.passes c.in-Ok-Ok-Ok-Ok.ensures c.pair.ensures in
    let done = ran_done c.args.limit (commit_gives g.S.Shared.enters_looks) g.S.Shared.belongs g.S.Shared.number g.S.Shared.left g.S.Shared.own g.S.Shared.opening c.args.shared c.args.threads.now c.args.passes.items c.in-Ok-Ok-Ok-Ok.space.items c.pair.result.items c.run_jobs-jobs.result.items (g.S.Shared.callers c.args.shared) q c.run_jobs-jobs.ensures.len c.run_jobs-jobs.ensures.ran c.requires.callers in
    subst (All (g.S.Shared.belongs c.args.shared)) (sym c.part-passes.ensures.passes) done.belong

pub finish-requires-clause-all : goal.finish-requires-clause-all
finish-requires-clause-all g c =
    let q = jobs_ready g.S.Shared.belongs g.S.Shared.number g.S.Shared.left g.S.Shared.own c.args.shared c.args.limit c.args.threads.now c.args.passes.items c.in-Ok-Ok-Ok-Ok.space.items c.pair.result.items c.requires.passes c.in-Ok-Ok-Ok-Ok.ensures c.pair.ensures in
    let done = ran_done c.args.limit (commit_gives g.S.Shared.enters_looks) g.S.Shared.belongs g.S.Shared.number g.S.Shared.left g.S.Shared.own g.S.Shared.opening c.args.shared c.args.threads.now c.args.passes.items c.in-Ok-Ok-Ok-Ok.space.items c.pair.result.items c.run_jobs-jobs.result.items (g.S.Shared.callers c.args.shared) q c.run_jobs-jobs.ensures.len c.run_jobs-jobs.ensures.ran c.requires.callers in
    ap (map g.S.Shared.number) c.part-passes.ensures.passes ∙ done.numbered

pub returns-clause-run : goal.returns-clause-run
returns-clause-run g c =
    let q = jobs_ready g.S.Shared.belongs g.S.Shared.number g.S.Shared.left g.S.Shared.own c.args.shared c.args.limit c.args.threads.now c.args.passes.items c.in-Ok-Ok-Ok-Ok.space.items c.pair.result.items c.requires.passes c.in-Ok-Ok-Ok-Ok.ensures c.pair.ensures in
    let done = ran_done c.args.limit (commit_gives g.S.Shared.enters_looks) g.S.Shared.belongs g.S.Shared.number g.S.Shared.left g.S.Shared.own g.S.Shared.opening c.args.shared c.args.threads.now c.args.passes.items c.in-Ok-Ok-Ok-Ok.space.items c.pair.result.items c.run_jobs-jobs.result.items (g.S.Shared.callers c.args.shared) q c.run_jobs-jobs.ensures.len c.run_jobs-jobs.ensures.ran c.requires.callers in
    let history = g.S.Shared.history c.finish.result in
    subst (λ (l : List RecordsValue). AreRunBy (commit_gives g.S.Shared.enters_looks) c.args.limit (length (g.S.Shared.opening c.args.shared)) 0 history (map (λ (v : Vec Command). v.items) c.args.threads.now) (lists_of l)) (sym c.part-passes.ensures.records) (done.run history (subst (All (λ p. of_caller (g.S.Shared.number p) history ≡ g.S.Shared.own p)) c.part-passes.ensures.passes c.finish.ensures.own))

pub returns-clause-threads : goal.returns-clause-threads
returns-clause-threads g c = run_by_threads c.args.limit (commit_gives g.S.Shared.enters_looks) _ 0 1 refl (g.S.Shared.history c.finish.result) _ _ (returns-clause-run g c)
