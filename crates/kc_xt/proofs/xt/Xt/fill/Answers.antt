use Rattle.std.proofs.Common.{ap, sym, ◌∙◌}
use Rattle.kc_xt.proofs.Footprints.{none_worn, well_made, worn_among_puts}
use Rattle.kc_xt.specs.Lines.{puts, seens, worn_put}
use Rattle.kc_xt.proofs.xt.Xt.fill.Goals as goal

pub returns-clause-made : goal.returns-clause-made
returns-clause-made g c = λ can. well_made c.self.inside.room.now _ c.self.invariant.2 c.self.invariant.3 (c.fill_reads.ensures ∙ ap seens c.as_slice.ensures.value) (c.fill_puts.ensures ∙ ap puts c.as_slice-2.ensures.value) (rw (← c.self.view_is) at can)

pub returns-clause-worn : goal.returns-clause-worn
returns-clause-worn g c = rw (← c.self.view_is) (c.worn_among.ensures ∙ ap worn_put (c.as_slice-3.ensures.value ∙ (c.fill_puts.ensures ∙ ap puts c.as_slice-2.ensures.value)) ∙ worn_among_puts c.self.inside.room.now)

pub returns-clause-none : goal.returns-clause-none
returns-clause-none g c = λ none. rw (← c.self.view_is)
    (none_worn c.self.inside.room.now c.self.invariant.3 (sym (c.worn_among.ensures ∙ ap worn_put (c.as_slice-3.ensures.value ∙ (c.fill_puts.ensures ∙ ap puts c.as_slice-2.ensures.value)) ∙ worn_among_puts c.self.inside.room.now) ∙ none))
