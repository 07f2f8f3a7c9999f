use Rattle.kc_history.specs.Records.{lists_of}
use Rattle.kc_script_bundle.specs.Script.{script_of}
use Rattle.kc_top.proofs.Shown.{shows_of}
use Rattle.kc_top.proofs.run.perform.Goals as goal

pub returns-clause-shows : goal.returns-clause-shows
returns-clause-shows g c =
    let ran = c.in_ok-ran.ran in
    shows_of g.K.Sink.written g.K.Sink.faults g.K.Sink.write_gives c.args.name c.args.origin (script_of c.args.bundle.now) (lists_of ran.records.items) ran.served _ _ c.show-shown.result c.in_ok-ran.ensures.served c.show-shown.ensures.whole c.show-shown.ensures.front
