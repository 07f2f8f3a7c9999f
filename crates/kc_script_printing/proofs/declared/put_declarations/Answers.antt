use Rattle.std.proofs.Common.{◌∙◌, ◌<◌, ◌≤◌, length, refl, arith}
use Rattle.std.proofs.lemmas.List.{length-map}
use Rattle.kc_model.proofs.Pens.{puts_then, owes_all, owes_next, owes_last}
use Rattle.kc_script_printing.proofs.Texts.{declaration_text, declarations_text}
use Rattle.kc_script_bundle.proofs.Entries.{entry_at}
use Rattle.kc_script_bundle.specs.Script.{named, names_of}
use Rattle.kc_script_printing.proofs.declared.put_declarations.Goals as goal

pub loop-i-init : goal.loop-i-init
loop-i-init g c = record { same_sink = refl; owes = owes_all _ _ }

pub loop-i-preserved : goal.loop-i-preserved
loop-i-preserved g c =
    let entries = c.args.objects.now.entries in
    let names = names_of c.args.objects.now in
    let i = c.loop-i.i in
    let e = named (c.in-Some.name.now, c.in-Some.object.now) in
    let lt : i < length names = omega (arith, length-map entries named, c.len-i-end.ensures.len) in
    let at = entry_at named entries i (c.in-Some.name.now, c.in-Some.object.now) c.in-Some.ensures.entry in
    let puts = puts_then (rw c.as_bytes.ensures.value at c.put_declaration.ensures) c.put.ensures in
    record {
      same_sink = puts.same_sink ∙ c.loop-i.invariant.same_sink;
      owes = owes_next declaration_text names i e lt (rw at puts.asks) c.loop-i.invariant.owes;
    }

pub returns : goal.returns
returns g c =
    let le : length (names_of c.args.objects.now) ≤ c.loop-i.i = omega (arith, length-map c.args.objects.now.entries named, c.len-i-end.ensures.len) in
    rw declarations_text (record { same_sink = c.loop-i.invariant.same_sink; asks = owes_last declaration_text (names_of c.args.objects.now) c.loop-i.i le c.loop-i.invariant.owes })
