use Rattle.std.proofs.Common.{subst}
use Rattle.kc_script_bundle.specs.Script.{Script}
use Rattle.kc_script_storm.proofs.Drawn.{storm_commits, summary_is}
use Rattle.kc_top.proofs.Causes.{one_command}
use Rattle.kc_top.specs.declared.command_line.Command.{Command}
use Rattle.kc_top.specs.declared.status.Status.TheVariants as status
use Rattle.kc_top.specs.Served.{IsServed}
use Rattle.kc_top.specs.Statuses.{SaysOf}
use Rattle.kc_top.specs.Words.{store_named}
use Rattle.kc_top.proofs.laws.storms_write_their_summary.Goals as goal

pub returns-clause-summary : goal.returns-clause-summary
returns-clause-summary g c = λ words s s' f f' k k' served n is h.
    let ran = subst (λ (x : Command). SaysOf g.S.Source.left g.S.Source.faults g.S.Source.read_gives g.F.Shelf.files g.F.Shelf.faults g.F.Shelf.sure g.F.Shelf.fetch_gives g.K.Sink.written g.K.Sink.faults g.K.Sink.write_gives words x s s' f f' k k' served status.Done) (one_command words h.1 is) h.2 in
    let shows = ran.shows in
    record { text = shows.shows.text; such = summary_is n shows.records shows.shows.text shows.shows.such; took = shows.shows.took }

pub returns-clause-served : goal.returns-clause-served
returns-clause-served g c = λ words s s' f f' k k' served n is h.
    let ran = subst (λ (x : Command). SaysOf g.S.Source.left g.S.Source.faults g.S.Source.read_gives g.F.Shelf.files g.F.Shelf.faults g.F.Shelf.sure g.F.Shelf.fetch_gives g.K.Sink.written g.K.Sink.faults g.K.Sink.write_gives words x s s' f f' k k' served status.Done) (one_command words h.1 is) h.2 in
    let shows = ran.shows in
    let summary = shows.shows.such in
    (shows.records, storm_commits n shows.records summary.order summary.last summary.run, subst (λ (x : Script). IsServed (store_named words) x shows.records served) ran.reads.0 shows.serves)
