use Rattle.std.proofs.Common.{◌≡◌, ◌+◌, ◌≤◌, [], length, All, sym, ap, ◌∙◌, subst, arith, rules}
use Rattle.std.specs.Prelude.{sum_by}
use Rattle.std.specs.Global.{Vec}
use Rattle.kc_history.specs.Counts.{records_in}
use Rattle.kc_model.specs.Store.{store_of, opened}
use Rattle.kc_script_bundle.specs.Script.{script_of}
use Rattle.kc_script_bundle.specs.State.{opening_values}
use Rattle.kc_script_bundle.specs.declared.operation.Command.{Command}
use Rattle.kc_top.proofs.Bundles.{length-opening_values, store_length, all_few, settles, run_of_none, no_thread}
use Rattle.kc_top.proofs.run.run_bundle.Goals as goal

pub open_store-requires : goal.open_store-requires
open_store-requires g c = rw (c.deref.ensures.value, c.in_ok-values.ensures, length-opening_values (script_of c.args.bundle.now)) c.requires.lies.within

pub room_for-requires-clause-commands : goal.room_for-requires-clause-commands
room_for-requires-clause-commands g c =
    subst (All (λ (v : Vec Command). length v.items ≤ 4096)) (sym c.deref-2.ensures.value) (all_few (script_of c.args.bundle.now) c.args.bundle.now.threads.items c.requires.threads)

pub returns-then-is_empty-clause-run : goal.returns-then-is_empty-clause-run
returns-then-is_empty-clause-run g c =
    let script = script_of c.args.bundle.now in
    let stored : c.in_ok-store.store ≡ opened (opening_values script) = c.in_ok-store.ensures ∙ ap opened (c.deref.ensures.value ∙ c.in_ok-values.ensures) in
    let none : script.threads ≡ [] = no_thread c.args.bundle.now.threads.items (search (rules, c.is_empty.ensures, c.if-is_empty.true, c.args.bundle.now.threads.ok.0)) in
    record {
      run = rw (c.new.ensures.items, c.in_ok-room.ensures.order, stored) (run_of_none script none);
      size = store_length script c.in_ok-store.store stored;
    }

pub returns-then-is_empty-clause-served : goal.returns-then-is_empty-clause-served
returns-then-is_empty-clause-served g c = no_thread c.args.bundle.now.threads.items (search (rules, c.is_empty.ensures, c.if-is_empty.true, c.args.bundle.now.threads.ok.0))

pub run_on_store-requires-clause-values : goal.run_on_store-requires-clause-values
run_on_store-requires-clause-values g c κs within = c.deref-3.ensures.value ∙ c.in_ok-values.ensures

pub settle-requires-clause-made : goal.settle-requires-clause-made
settle-requires-clause-made g c =
    let stored : c.in_ok-store.store ≡ opened (opening_values (script_of c.args.bundle.now)) = c.in_ok-store.ensures ∙ ap opened (c.deref.ensures.value ∙ c.in_ok-values.ensures) in
    let s = settles c.args.bundle.now c.in_ok-store.store c.in_ok-records.records.items stored c.in_ok-records.ensures.commits in
    rw c.deref-4.ensures.value s.made

pub settle-requires-clause-opens : goal.settle-requires-clause-opens
settle-requires-clause-opens g c =
    let stored : c.in_ok-store.store ≡ opened (opening_values (script_of c.args.bundle.now)) = c.in_ok-store.ensures ∙ ap opened (c.deref.ensures.value ∙ c.in_ok-values.ensures) in
    let s = settles c.args.bundle.now c.in_ok-store.store c.in_ok-records.records.items stored c.in_ok-records.ensures.commits in
    s.opens

pub settle-requires-clause-legal : goal.settle-requires-clause-legal
settle-requires-clause-legal g c =
    let stored : c.in_ok-store.store ≡ opened (opening_values (script_of c.args.bundle.now)) = c.in_ok-store.ensures ∙ ap opened (c.deref.ensures.value ∙ c.in_ok-values.ensures) in
    let s = settles c.args.bundle.now c.in_ok-store.store c.in_ok-records.records.items stored c.in_ok-records.ensures.commits in
    rw c.deref-4.ensures.value s.legal

pub settle-requires-clause-threads : goal.settle-requires-clause-threads
settle-requires-clause-threads g c =
    let stored : c.in_ok-store.store ≡ opened (opening_values (script_of c.args.bundle.now)) = c.in_ok-store.ensures ∙ ap opened (c.deref.ensures.value ∙ c.in_ok-values.ensures) in
    let s = settles c.args.bundle.now c.in_ok-store.store c.in_ok-records.records.items stored c.in_ok-records.ensures.commits in
    let room = c.in_ok-room.ensures.threads in
    let same = ap length c.deref-2.ensures.value in
    let here = ap length c.deref-4.ensures.value in
    omega (arith, s.lists, room, same, here)

pub settle-requires-clause-records : goal.settle-requires-clause-records
settle-requires-clause-records g c =
    let stored : c.in_ok-store.store ≡ opened (opening_values (script_of c.args.bundle.now)) = c.in_ok-store.ensures ∙ ap opened (c.deref.ensures.value ∙ c.in_ok-values.ensures) in
    let s = settles c.args.bundle.now c.in_ok-store.store c.in_ok-records.records.items stored c.in_ok-records.ensures.commits in
    let room = c.in_ok-room.ensures.records ∙ ap (sum_by (λ (v : Vec Command). length v.items + 1)) c.deref-2.ensures.value in
    let here = ap records_in c.deref-4.ensures.value in
    omega (arith, s.counted, room, here)

pub returns-clause-run : goal.returns-clause-run
returns-clause-run g c =
    let script = script_of c.args.bundle.now in
    let stored : c.in_ok-store.store ≡ opened (opening_values script) = c.in_ok-store.ensures ∙ ap opened (c.deref.ensures.value ∙ c.in_ok-values.ensures) in
    let s = settles c.args.bundle.now c.in_ok-store.store c.in_ok-records.records.items stored c.in_ok-records.ensures.commits in
    let canonical = rw c.deref-4.ensures.value at c.settle.ensures.canonical in
    let legal = rw c.deref-4.ensures.value at c.settle.ensures.legal in
    record {
      run = s.run c.settle.new.room.order (store_of c.settle.new.store) canonical legal;
      size = c.settle.ensures.size ∙ store_length script c.in_ok-store.store stored;
    }
