use Rattle.std.proofs.Common.{subst}
use Rattle.kc_top.proofs.Causes.{both_lacking, both_longer, both_rises, one_command, front_rises, fails_rises, fails_lacking, passes_longer}
use Rattle.kc_top.specs.Statuses.{SaysOf}
use Rattle.kc_top.specs.declared.command_line.Command.{Command}
use Rattle.kc_top.specs.declared.status.Status.TheVariants as status
use Rattle.kc_top.proofs.laws.reading_fails_for_a_cause.Goals as goal

pub returns-clause-source : goal.returns-clause-source
returns-clause-source g c = λ words s s' f f' k k' served asked h.
    let says = subst (λ (x : Command). SaysOf g.S.Source.left g.S.Source.faults g.S.Source.read_gives g.F.Shelf.files g.F.Shelf.faults g.F.Shelf.sure g.F.Shelf.fetch_gives g.K.Sink.written g.K.Sink.faults g.K.Sink.write_gives words x s s' f f' k k' served status.ReadFault) (one_command words h.1 asked) h.2 in
    front_rises says.refuses.0

pub returns-clause-shelf : goal.returns-clause-shelf
returns-clause-shelf g c = λ words s s' f f' k k' served setup asked h.
    let says = subst (λ (x : Command). SaysOf g.S.Source.left g.S.Source.faults g.S.Source.read_gives g.F.Shelf.files g.F.Shelf.faults g.F.Shelf.sure g.F.Shelf.fetch_gives g.K.Sink.written g.K.Sink.faults g.K.Sink.write_gives words x s s' f f' k k' served status.ReadFault) (one_command words h.1 asked) h.2 in
    fails_rises says.refuses.0

pub returns-clause-lacking : goal.returns-clause-lacking
returns-clause-lacking g c = λ words s s' f f' k k' served setup asked h.
    let says = subst (λ (x : Command). SaysOf g.S.Source.left g.S.Source.faults g.S.Source.read_gives g.F.Shelf.files g.F.Shelf.faults g.F.Shelf.sure g.F.Shelf.fetch_gives g.K.Sink.written g.K.Sink.faults g.K.Sink.write_gives words x s s' f f' k k' served status.ReadFault) (one_command words h.1 asked) h.2 in
    fails_lacking says.refuses.0

pub returns-clause-longer : goal.returns-clause-longer
returns-clause-longer g c = λ words s s' f f' k k' served setup asked h.
    let says = subst (λ (x : Command). SaysOf g.S.Source.left g.S.Source.faults g.S.Source.read_gives g.F.Shelf.files g.F.Shelf.faults g.F.Shelf.sure g.F.Shelf.fetch_gives g.K.Sink.written g.K.Sink.faults g.K.Sink.write_gives words x s s' f f' k k' served status.TooLong) (one_command words h.1 asked) h.2 in
    passes_longer says.refuses.0

pub returns-clause-unchecked : goal.returns-clause-unchecked
returns-clause-unchecked g c = λ words s s' f f' k k' served asked h.
    let says = subst (λ (x : Command). SaysOf g.S.Source.left g.S.Source.faults g.S.Source.read_gives g.F.Shelf.files g.F.Shelf.faults g.F.Shelf.sure g.F.Shelf.fetch_gives g.K.Sink.written g.K.Sink.faults g.K.Sink.write_gives words x s s' f f' k k' served status.ReadFault) (one_command words h.1 asked) h.2 in
    both_rises says.ends.0

pub returns-clause-missing : goal.returns-clause-missing
returns-clause-missing g c = λ words s s' f f' k k' served asked h.
    let says = subst (λ (x : Command). SaysOf g.S.Source.left g.S.Source.faults g.S.Source.read_gives g.F.Shelf.files g.F.Shelf.faults g.F.Shelf.sure g.F.Shelf.fetch_gives g.K.Sink.written g.K.Sink.faults g.K.Sink.write_gives words x s s' f f' k k' served status.ReadFault) (one_command words h.1 asked) h.2 in
    both_lacking says.ends.0

pub returns-clause-either_longer : goal.returns-clause-either_longer
returns-clause-either_longer g c = λ words s s' f f' k k' served asked h.
    let says = subst (λ (x : Command). SaysOf g.S.Source.left g.S.Source.faults g.S.Source.read_gives g.F.Shelf.files g.F.Shelf.faults g.F.Shelf.sure g.F.Shelf.fetch_gives g.K.Sink.written g.K.Sink.faults g.K.Sink.write_gives words x s s' f f' k k' served status.TooLong) (one_command words h.1 asked) h.2 in
    both_longer says.ends.0

pub returns-clause-unpicked : goal.returns-clause-unpicked
returns-clause-unpicked g c = λ words s s' f f' k k' served asked h.
    let says = subst (λ (x : Command). SaysOf g.S.Source.left g.S.Source.faults g.S.Source.read_gives g.F.Shelf.files g.F.Shelf.faults g.F.Shelf.sure g.F.Shelf.fetch_gives g.K.Sink.written g.K.Sink.faults g.K.Sink.write_gives words x s s' f f' k k' served status.ReadFault) (one_command words h.1 asked) h.2 in
    both_rises says.ends.0

pub returns-clause-absent : goal.returns-clause-absent
returns-clause-absent g c = λ words s s' f f' k k' served asked h.
    let says = subst (λ (x : Command). SaysOf g.S.Source.left g.S.Source.faults g.S.Source.read_gives g.F.Shelf.files g.F.Shelf.faults g.F.Shelf.sure g.F.Shelf.fetch_gives g.K.Sink.written g.K.Sink.faults g.K.Sink.write_gives words x s s' f f' k k' served status.ReadFault) (one_command words h.1 asked) h.2 in
    both_lacking says.ends.0

pub returns-clause-file_longer : goal.returns-clause-file_longer
returns-clause-file_longer g c = λ words s s' f f' k k' served asked h.
    let says = subst (λ (x : Command). SaysOf g.S.Source.left g.S.Source.faults g.S.Source.read_gives g.F.Shelf.files g.F.Shelf.faults g.F.Shelf.sure g.F.Shelf.fetch_gives g.K.Sink.written g.K.Sink.faults g.K.Sink.write_gives words x s s' f f' k k' served status.TooLong) (one_command words h.1 asked) h.2 in
    both_longer says.ends.0
