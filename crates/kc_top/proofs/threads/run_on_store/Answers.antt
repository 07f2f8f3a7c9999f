use Rattle.std.proofs.Common.{refl}
use Rattle.kc_script_bundle.specs.Script.{script_of}
use Rattle.kc_top.proofs.Bundles.{commands_fit, threads_fit, values_fit}
use Rattle.kc_top.proofs.Commits.{locked_commits, locked_past, looked_commits, looked_past}
use Rattle.kc_top.proofs.threads.run_on_store.Goals as goal

pub run_locked-requires-clause-values : goal.run_locked-requires-clause-values
run_locked-requires-clause-values g c κs within = values_fit c.args.bundle.now c.args.values.now c.deref.result.now c.requires.can c.requires.values c.deref.ensures.value

pub run_locked-requires-clause-threads : goal.run_locked-requires-clause-threads
run_locked-requires-clause-threads g c κs within = threads_fit c.args.bundle.now c.args.values.now c.deref.result.now c.requires.can c.requires.values c.deref.ensures.value c.requires.some

pub run_locked-requires-clause-commands : goal.run_locked-requires-clause-commands
run_locked-requires-clause-commands g c κs within = commands_fit c.args.bundle.now c.args.values.now c.deref.result.now c.requires.can c.requires.values c.deref.ensures.value

pub run_kcas-requires-clause-values : goal.run_kcas-requires-clause-values
run_kcas-requires-clause-values g c κs within = values_fit c.args.bundle.now c.args.values.now c.deref-in-Kcas.result.now c.requires.can c.requires.values c.deref-in-Kcas.ensures.value

pub run_kcas-requires-clause-threads : goal.run_kcas-requires-clause-threads
run_kcas-requires-clause-threads g c κs within = threads_fit c.args.bundle.now c.args.values.now c.deref-in-Kcas.result.now c.requires.can c.requires.values c.deref-in-Kcas.ensures.value c.requires.some

pub run_kcas-requires-clause-commands : goal.run_kcas-requires-clause-commands
run_kcas-requires-clause-commands g c κs within = commands_fit c.args.bundle.now c.args.values.now c.deref-in-Kcas.result.now c.requires.can c.requires.values c.deref-in-Kcas.ensures.value

pub returns-in_ok-records-in-Lock-clause-served : goal.returns-in_ok-records-in-Lock-clause-served
returns-in_ok-records-in-Lock-clause-served g c =
    let ran = c.in_ok-records-in-Lock.ensures in
    (c.in-Lock.is, locked_past c.args.bundle.now c.args.values.now c.deref.result.now _ c.in_ok-records-in-Lock.past.history c.requires.values c.deref.ensures.value ran.legal ran.nobody_else ran.run c.in_ok-records-in-Lock.past ran.opening refl c.requires.some)

pub returns-in_ok-records-in-Lock-clause-commits : goal.returns-in_ok-records-in-Lock-clause-commits
returns-in_ok-records-in-Lock-clause-commits g c =
    let ran = c.in_ok-records-in-Lock.ensures in
    locked_commits c.args.bundle.now c.args.values.now c.deref.result.now _ c.in_ok-records-in-Lock.past.history c.requires.values c.deref.ensures.value ran.legal ran.nobody_else ran.run

pub returns-in_ok-records-in-Kcas-clause-served : goal.returns-in_ok-records-in-Kcas-clause-served
returns-in_ok-records-in-Kcas-clause-served g c =
    let ran = c.in_ok-records-in-Kcas.ensures in
    let past = c.in_ok-records-in-Kcas.past in
    (c.in-Kcas.is, looked_past c.args.bundle.now c.args.values.now c.deref-in-Kcas.result.now _ past.history c.requires.values c.deref-in-Kcas.ensures.value ran.legal ran.nobody_else ran.run past.opening ran.opening c.requires.some)

pub returns-in_ok-records-in-Kcas-clause-commits : goal.returns-in_ok-records-in-Kcas-clause-commits
returns-in_ok-records-in-Kcas-clause-commits g c =
    let ran = c.in_ok-records-in-Kcas.ensures in
    let past = c.in_ok-records-in-Kcas.past in
    let script = script_of c.args.bundle.now in
    looked_commits script _ past.opening past.history (looked_past c.args.bundle.now c.args.values.now c.deref-in-Kcas.result.now _ past.history c.requires.values c.deref-in-Kcas.ensures.value ran.legal ran.nobody_else ran.run past.opening ran.opening c.requires.some)
