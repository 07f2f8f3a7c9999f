use Rattle.std.proofs.Common.{◌≡◌}
use Rattle.std.proofs.lemmas.List.Elements.{All-pop}
use Rattle.kc_table_moves.specs.Views.{SeatView}
use Rattle.kc_table_tests.proofs.contending.next_pair.Goals as goal

pub returns-clause-rest : goal.returns-clause-rest
returns-clause-rest c =
    let P = λ (s : SeatView). s.of ≡ c.args.table.now in
    (All-pop P c.pop.new.self.items c.pop-2.new.self.items c.pop-2.result c.pop-2.ensures.items (All-pop P c.args.seats.now.items c.pop.new.self.items c.pop.result c.pop.ensures.items c.requires).0).0
