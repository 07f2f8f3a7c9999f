-- Where a kitchen lies.
use Rattle.std.specs.Prelude.{ℕ, ◌≤◌}
use Rattle.kc_cells.specs.Mvar.{mvar_cells_end}
use Rattle.kc_kitchen.specs.declared.kitchen.Kitchen.{Kitchen}
use Rattle.kc_queue.specs.Meaning.{queue_cells_end}

-- its parts lie one behind the other, in a store of so many locations
pub record HasKitchen (k : Kitchen) (size : ℕ) : Type 0 where
  pub hatch : queue_cells_end k.orders ≤ k.hatch.base.0
  pub within : mvar_cells_end k.hatch ≤ size
