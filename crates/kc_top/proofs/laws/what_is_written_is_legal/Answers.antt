use Rattle.std.proofs.Common.{subst}
use Rattle.kc_top.proofs.Causes.{one_command}
use Rattle.kc_top.specs.declared.command_line.Command.{Command}
use Rattle.kc_top.specs.declared.status.Status.TheVariants as status
use Rattle.kc_top.specs.Statuses.{SaysOf}
use Rattle.kc_top.proofs.laws.what_is_written_is_legal.Goals as goal

pub returns-clause-source : goal.returns-clause-source
returns-clause-source g c = λ words s s' f f' k k' served asked h.
    let ran = subst (λ (x : Command). SaysOf g.S.Source.left g.S.Source.faults g.S.Source.read_gives g.F.Shelf.files g.F.Shelf.faults g.F.Shelf.sure g.F.Shelf.fetch_gives g.K.Sink.written g.K.Sink.faults g.K.Sink.write_gives words x s s' f f' k k' served status.Done) (one_command words h.1 asked) h.2 in
    let shows = ran.shows in
    (ran.script, ran.reads.0, record { text = shows.shows.text; such = record { records = shows.records; is = shows.shows.such }; took = shows.shows.took })

pub returns-clause-files : goal.returns-clause-files
returns-clause-files g c = λ words s s' f f' k k' served setup asked h.
    let ran = subst (λ (x : Command). SaysOf g.S.Source.left g.S.Source.faults g.S.Source.read_gives g.F.Shelf.files g.F.Shelf.faults g.F.Shelf.sure g.F.Shelf.fetch_gives g.K.Sink.written g.K.Sink.faults g.K.Sink.write_gives words x s s' f f' k k' served status.Done) (one_command words h.1 asked) h.2 in
    let shows = ran.shows in
    (ran.script, ran.reads.0, record { text = shows.shows.text; such = record { records = shows.records; is = shows.shows.such }; took = shows.shows.took })
