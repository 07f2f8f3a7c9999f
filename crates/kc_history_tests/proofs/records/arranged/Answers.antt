use Rattle.kc_history_tests.proofs.records.arranged.Goals as goal

pub arrange-ended-requires-clause-made : goal.arrange-ended-requires-clause-made
arrange-ended-requires-clause-made c = c.are_well_made.ensures.0 c.if-not-are_well_made.false
