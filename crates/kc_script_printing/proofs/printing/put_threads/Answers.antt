use Rattle.std.proofs.Common.{◌<◌, ◌≤◌, length, refl, ap, ◌∙◌, arith}
use Rattle.kc_model.proofs.Pens.{puts_then, owes_all, owes_next, owes_last}
use Rattle.kc_script_printing.proofs.Texts.{thread_text, threads_text, flat_map_seen}
use Rattle.kc_script_bundle.specs.Script.{names_of}
use Rattle.kc_script_printing.proofs.printing.put_threads.Goals as goal

pub loop-commands-init : goal.loop-commands-init
loop-commands-init g c = record { same_sink = refl; owes = owes_all _ _ }

pub loop-commands-preserved : goal.loop-commands-preserved
loop-commands-preserved g c =
    let names = names_of c.args.objects.now in
    let here : c.loop-commands.commands-index < length c.args.threads.now = omega arith in
    let items = c.deref.ensures.value ∙ ap (λ commands. commands.items) c.commands-item.is in
    let puts = puts_then c.put.ensures (rw items at c.put_commands.ensures) in
    record {
      same_sink = puts.same_sink ∙ c.loop-commands.invariant.same_sink;
      owes = owes_next (λ commands. thread_text names commands.items) c.args.threads.now c.loop-commands.commands-index c.commands-item.result here puts.asks c.loop-commands.invariant.owes;
    }

pub returns : goal.returns
returns g c =
    let names = names_of c.args.objects.now in
    let past : length c.args.threads.now ≤ c.loop-commands.commands-index = omega arith in
    rw (threads_text names, flat_map_seen (thread_text names) (λ commands. commands.items) c.args.threads.now) (record { same_sink = c.loop-commands.invariant.same_sink; asks = owes_last (λ commands. thread_text names commands.items) c.args.threads.now c.loop-commands.commands-index past c.loop-commands.invariant.owes })
