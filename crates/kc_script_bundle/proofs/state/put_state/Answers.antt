use Rattle.std.proofs.Common.{◌∙◌, ◌<◌, ◌≤◌, ℕ, List, length, refl, arith}
use Rattle.std.proofs.lemmas.List.{length-map}
use Rattle.kc_model.proofs.Pens.{owes_all, owes_next, owes_last}
use Rattle.kc_model.specs.Store.{store_of}
use Rattle.kc_script_bundle.proofs.Entries.{entry_at, entry_within}
use Rattle.kc_script_bundle.specs.Script.{named, names_of}
use Rattle.kc_script_bundle.specs.State.{shown, state_line}
use Rattle.kc_script_bundle.specs.declared.object.Object.{Object}
use Rattle.kc_xt.specs.Meaning.{values}
use Rattle.kc_script_bundle.proofs.state.put_state.Goals as goal

pub loop-i-init : goal.loop-i-init
loop-i-init g c = record { same_sink = refl; owes = owes_all _ _ }

pub put_line-requires : goal.put_line-requires
put_line-requires g c =
    let m = c.args.bundle.now.objects in
    let at = entry_at named m.entries c.loop-i.i (c.in-Some.name.now, c.in-Some.object.now) c.in-Some.ensures.entry in
    let lt : c.loop-i.i < length (names_of m) = omega (arith, length-map m.entries named, c.len-i-end.ensures.len) in
    rw at at (entry_within _ (names_of m) c.loop-i.i (named (c.in-Some.name.now, c.in-Some.object.now)) lt c.requires)

pub loop-i-preserved : goal.loop-i-preserved
loop-i-preserved g c =
    let entries = c.args.bundle.now.objects.entries in
    let names = names_of c.args.bundle.now.objects in
    let i = c.loop-i.i in
    let e = named (c.in-Some.name.now, c.in-Some.object.now) in
    let lt : i < length names = omega (arith, length-map entries named, c.len-i-end.ensures.len) in
    let at = entry_at named entries i (c.in-Some.name.now, c.in-Some.object.now) c.in-Some.ensures.entry in
    let line : List ℕ × Object → List ℕ = λ entry. state_line entry.0 (shown entry.1 (values (store_of c.args.store.now))) in
    record {
      same_sink = c.put_line.ensures.same_sink ∙ c.loop-i.invariant.same_sink;
      owes = owes_next line names i e lt (rw at (rw c.as_str.ensures.value at c.put_line.ensures.asks)) c.loop-i.invariant.owes;
    }

pub returns : goal.returns
returns g c =
    let le : length (names_of c.args.bundle.now.objects) ≤ c.loop-i.i = omega (arith, length-map c.args.bundle.now.objects.entries named, c.len-i-end.ensures.len) in
    record { same_sink = c.loop-i.invariant.same_sink; asks = owes_last (λ entry. state_line entry.0 (shown entry.1 (values (store_of c.args.store.now)))) (names_of c.args.bundle.now.objects) c.loop-i.i le c.loop-i.invariant.owes }
