use Rattle.kc_script.proofs.FirstFaults.{parse_spells, parse_refuses}
use Rattle.kc_script.proofs.parser.parse.Goals as goal

pub returns-clause-spells : goal.returns-clause-spells
returns-clause-spells c = parse_spells c.args.bytes.now c.read.result c.read.ensures

pub returns-clause-refused : goal.returns-clause-refused
returns-clause-refused c = parse_refuses c.args.bytes.now c.read.result c.read.ensures
