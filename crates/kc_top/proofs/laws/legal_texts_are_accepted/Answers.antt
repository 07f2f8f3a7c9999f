use Rattle.std.proofs.Common.{subst}
use Rattle.kc_top.proofs.Causes.{one_command}
use Rattle.kc_top.proofs.Complete.{none_rejected}
use Rattle.kc_top.specs.Statuses.{SaysOf}
use Rattle.kc_top.specs.declared.command_line.Command.{Command}
use Rattle.kc_top.specs.declared.status.Status.TheVariants as status
use Rattle.kc_top.proofs.laws.legal_texts_are_accepted.Goals as goal

pub returns : goal.returns
returns g c = λ words s s' f f' k k' served line why asked given legal h.
    let says = subst (λ (x : Command). SaysOf g.S.Source.left g.S.Source.faults g.S.Source.read_gives g.F.Shelf.files g.F.Shelf.faults g.F.Shelf.sure g.F.Shelf.fetch_gives g.K.Sink.written g.K.Sink.faults g.K.Sink.write_gives words x s s' f f' k k' served (status.Illegal line why)) (one_command words h.1 asked) h.2 in
    none_rejected given legal says.ends.0
