use Rattle.kc_store.proofs.Remembering.{remembers_on}
use Rattle.kc_shelf.proofs.reading.read_at.Goals as goal

pub returns-in-Done-Value-default-clause-remembers : goal.returns-in-Done-Value-default-clause-remembers
returns-in-Done-Value-default-clause-remembers g c = remembers_on c.args.caller.now c.commit_on.new.caller c.drop_name-back.new.caller c.commit_on.ensures.remembers c.drop_name-back.ensures.remembers
