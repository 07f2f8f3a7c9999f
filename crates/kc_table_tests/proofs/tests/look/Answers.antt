use Rattle.std.proofs.Common.{Some, sym, ap, ◌∙◌, rules}
use Rattle.kc_machine_steps.specs.declared.task.Task.TheVariants as task
use Rattle.kc_table_tests.proofs.Trying.{first_looks, next_looks, saw_known, reads_begun, reads_step}
use Rattle.kc_table_tests.proofs.tests.look.Goals as goal

pub loop-init : goal.loop-init
loop-init c =
    let s = c.step.ensures.stepped in
    let t = task.Look c.args.loc in
    record {
      table = s.of ∙ ap (λ v. v.of) c.begin.ensures ∙ c.requires.table;
      began = s.began;
      does = first_looks c.args.seat.now c.begin.new.self c.step.new.seat c.args.loc (search rules) c.requires.location c.begin.ensures s;
      reads = reads_step c.begin.new.self c.step.new.seat c.args.reads.now s (reads_begun c.args.seat.now c.begin.new.self t c.args.reads.now c.begin.ensures c.requires.reads);
    }

pub loop-preserved : goal.loop-preserved
loop-preserved c =
    let s = c.step-in-loop.ensures.stepped in
    let i = c.loop.invariant in
    record {
      table = s.of ∙ i.table;
      began = s.began;
      does = next_looks c.args.seat.now c.loop.seat c.step-in-loop.new.seat c.args.loc i.does i.began s;
      reads = reads_step c.loop.seat c.step-in-loop.new.seat c.args.reads.now s i.reads;
    }

pub returns-in-Some-Seen-clause-seen : goal.returns-in-Some-Seen-clause-seen
returns-in-Some-Seen-clause-seen c = saw_known c.args.seat.now c.loop.seat c.args.loc c.in-Some-Seen.seen c.loop.invariant.does c.requires.location (sym c.told.ensures ∙ c.in-Some-Seen.is ∙ ap Some c.in-Some-Seen.field-0-is)
