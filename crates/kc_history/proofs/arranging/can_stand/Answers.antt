use Rattle.kc_history.proofs.arranging.can_stand.Goals as goal

pub returns-then-not-is_well_made : goal.returns-then-not-is_well_made
returns-then-not-is_well_made c = (λ e. absurd (cc), λ h. absurd (let yes = c.is_well_made.ensures.1 h.0 in cc (yes, c.if-not-is_well_made.true)))

pub returns : goal.returns
returns c = (λ e. (c.is_well_made.ensures.0 c.if-not-is_well_made.false, c.is_below.ensures.0 e), λ h. c.is_below.ensures.1 h.1)
