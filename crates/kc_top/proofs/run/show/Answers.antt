use Rattle.kc_history.specs.Records.{lists_of}
use Rattle.kc_script_bundle.specs.Script.{script_of}
use Rattle.kc_top.proofs.Shown.{shown_formed, shown_named, shown_text, shown_within, writes_of, writes_part_of}
use Rattle.kc_top.proofs.Stormed.{few_commits, summed_up}
use Rattle.kc_top.specs.Statuses.{IsShown}
use Rattle.kc_top.specs.declared.command_line.Origin.TheVariants as origin
use Rattle.kc_top.proofs.run.show.Goals as goal

pub write_run-requires-clause-cells : goal.write_run-requires-clause-cells
write_run-requires-clause-cells g c = shown_within (script_of c.args.bundle.now) c.args.ran.now c.requires.can c.requires.has

pub write_run-requires-clause-named : goal.write_run-requires-clause-named
write_run-requires-clause-named g c = shown_named (script_of c.args.bundle.now) c.args.ran.now c.requires.can c.requires.has

pub write_run-requires-in-Files-clause-cells : goal.write_run-requires-in-Files-clause-cells
write_run-requires-in-Files-clause-cells g c = shown_within (script_of c.args.bundle.now) c.args.ran.now c.requires.can c.requires.has

pub write_run-requires-in-Files-clause-named : goal.write_run-requires-in-Files-clause-named
write_run-requires-in-Files-clause-named g c = shown_named (script_of c.args.bundle.now) c.args.ran.now c.requires.can c.requires.has

pub write_summary-requires-clause-cells : goal.write_summary-requires-clause-cells
write_summary-requires-clause-cells g c = shown_within (script_of c.args.bundle.now) c.args.ran.now c.requires.can c.requires.has

pub write_summary-requires-clause-few : goal.write_summary-requires-clause-few
write_summary-requires-clause-few g c =
    let own = rw c.in-Storm.is at c.requires.own in
    rw c.deref.ensures.value (few_commits c.in-Storm.number c.args.ran.now (script_of c.args.bundle.now) own c.requires.has)

pub returns-in-Source-clause-whole : goal.returns-in-Source-clause-whole
returns-in-Source-clause-whole g c =
    let script = script_of c.args.bundle.now in
    let ran = c.args.ran.now in
    let formed = shown_formed script ran c.requires.can c.requires.has in
    rw c.in-Source.is (writes_of g.K.Sink.written g.K.Sink.faults g.K.Sink.write_gives (IsShown origin.Source script (lists_of ran.records.items)) c.write_run.result _ (shown_text script ran c.requires.can c.requires.has formed.0 formed.1) (c.write_run.ensures formed.0 formed.1))

pub returns-in-Source-clause-front : goal.returns-in-Source-clause-front
returns-in-Source-clause-front g c =
    let script = script_of c.args.bundle.now in
    let ran = c.args.ran.now in
    let formed = shown_formed script ran c.requires.can c.requires.has in
    rw c.in-Source.is (writes_part_of g.K.Sink.written g.K.Sink.faults g.K.Sink.write_gives (IsShown origin.Source script (lists_of ran.records.items)) c.write_run.result _ (shown_text script ran c.requires.can c.requires.has formed.0 formed.1) (c.write_run.ensures formed.0 formed.1))

pub returns-in-Files-clause-whole : goal.returns-in-Files-clause-whole
returns-in-Files-clause-whole g c =
    let script = script_of c.args.bundle.now in
    let ran = c.args.ran.now in
    let formed = shown_formed script ran c.requires.can c.requires.has in
    rw c.in-Files.is (writes_of g.K.Sink.written g.K.Sink.faults g.K.Sink.write_gives (IsShown (origin.Files c.in-Files.setup) script (lists_of ran.records.items)) c.write_run-in-Files.result _ (shown_text script ran c.requires.can c.requires.has formed.0 formed.1) (c.write_run-in-Files.ensures formed.0 formed.1))

pub returns-in-Files-clause-front : goal.returns-in-Files-clause-front
returns-in-Files-clause-front g c =
    let script = script_of c.args.bundle.now in
    let ran = c.args.ran.now in
    let formed = shown_formed script ran c.requires.can c.requires.has in
    rw c.in-Files.is (writes_part_of g.K.Sink.written g.K.Sink.faults g.K.Sink.write_gives (IsShown (origin.Files c.in-Files.setup) script (lists_of ran.records.items)) c.write_run-in-Files.result _ (shown_text script ran c.requires.can c.requires.has formed.0 formed.1) (c.write_run-in-Files.ensures formed.0 formed.1))

pub returns-in-Storm-clause-whole : goal.returns-in-Storm-clause-whole
returns-in-Storm-clause-whole g c =
    let script = script_of c.args.bundle.now in
    let ran = c.args.ran.now in
    let own = rw c.in-Storm.is at c.requires.own in
    rw c.in-Storm.is (writes_of g.K.Sink.written g.K.Sink.faults g.K.Sink.write_gives (IsShown (origin.Storm c.in-Storm.number) script (lists_of c.args.ran.now.records.items)) c.write_summary.result _ (summed_up c.in-Storm.number ran script own c.requires.has) (rw c.deref.ensures.value at c.write_summary.ensures))

pub returns-in-Storm-clause-front : goal.returns-in-Storm-clause-front
returns-in-Storm-clause-front g c =
    let script = script_of c.args.bundle.now in
    let ran = c.args.ran.now in
    let own = rw c.in-Storm.is at c.requires.own in
    rw c.in-Storm.is (writes_part_of g.K.Sink.written g.K.Sink.faults g.K.Sink.write_gives (IsShown (origin.Storm c.in-Storm.number) script (lists_of c.args.ran.now.records.items)) c.write_summary.result _ (summed_up c.in-Storm.number ran script own c.requires.has) (rw c.deref.ensures.value at c.write_summary.ensures))
