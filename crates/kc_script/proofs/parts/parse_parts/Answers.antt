use Rattle.std.proofs.lemmas.List.{length-map}
use Rattle.kc_script.proofs.PartFaults.{parse_spells, parse_refuses}
use Rattle.kc_script.proofs.parts.parse_parts.Goals as goal

pub returns-clause-spells : goal.returns-clause-spells
returns-clause-spells c = parse_spells c.args.setup.now _ c.read_parts.result (rw length-map c.requires.few) c.read_parts.ensures

pub returns-clause-refused : goal.returns-clause-refused
returns-clause-refused c = parse_refuses c.args.setup.now _ c.read_parts.result c.read_parts.ensures
