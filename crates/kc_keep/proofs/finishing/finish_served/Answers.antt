use Rattle.kc_keep.proofs.finishing.finish_served.Goals as goal

pub finish_stepped-requires-clause-all : goal.finish_stepped-requires-clause-all
finish_stepped-requires-clause-all g c = c.serving_adds_up.ensures.all c.args.store _ c.requires.served

pub finish_stepped-requires-clause-only : goal.finish_stepped-requires-clause-only
finish_stepped-requires-clause-only g c = c.serving_adds_up.ensures.only c.args.store _ c.requires.served

pub finish_stepped-requires-clause-opens : goal.finish_stepped-requires-clause-opens
finish_stepped-requires-clause-opens g c = c.requires.opens.at_opening _ c.requires.laid
