-- What closing comes to.
use Rattle.std.specs.Prelude.{◌≡◌}
use Rattle.kc_callers.specs.declared.callers.Callers.{Callers}
use Rattle.kc_callers.specs.declared.closed.Closed.{Closed}
use Rattle.kc_callers.specs.declared.closed.Closed.TheVariants as closed
use Rattle.kc_store.specs.Backs.{AreAllCallers}

-- the store comes back, with all its callers; or all stands as it stood
abbrev pub ClosesSo : Callers → Closed → Type 0
ClosesSo c (closed.All store callers) = (store ≡ c.store) × AreAllCallers c.store callers.items
ClosesSo c (closed.NoMemory d) = (d.store ≡ c.store) × (d.desk ≡ c.desk)
ClosesSo c (closed.Missing store) = store ≡ c.store
