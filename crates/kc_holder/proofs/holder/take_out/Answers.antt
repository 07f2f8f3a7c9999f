use Rattle.std.proofs.Common.{◌∷◌, Some, sym, ap, ◌∙◌}
use Rattle.atomic_table.specs.Table.{rest}
use Rattle.kc_holder.proofs.holder.take_out.Goals as goal

pub exchange-requires : goal.exchange-requires
exchange-requires g c = let h = c.requires.has in (c.requires.table, (Some h.0, h.1 ∙ ap (λ l. (0, Some h.0) ∷ rest l) (sym h.1)))
