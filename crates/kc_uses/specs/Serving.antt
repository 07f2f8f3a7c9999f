-- A store that has the server.
use Rattle.std.specs.Prelude.{◌≡◌, ℕ, ◌+◌, ◌<◌, ◌≤◌}
use Rattle.kc_cache.specs.Meaning.{cache_cells_end}
use Rattle.kc_model.specs.declared.plain_store.TheConstants.{MOST_LOCATIONS}
use Rattle.kc_queue.specs.Meaning.{queue_cells_end}
use Rattle.kc_uses.specs.declared.server.Server.{Server}

-- Its parts lie one right behind another, in a store of so many locations.
pub record HasServer (s : Server) (size : ℕ) : Type 0 where
  pub requests : s.requests.0 ≡ 0
  pub jobs : s.jobs.base.0 ≡ s.requests.0 + 1
  pub urgent : s.urgent.base.0 ≡ queue_cells_end s.jobs
  pub results : s.results.base.0 ≡ queue_cells_end s.urgent
  pub closed : s.closed.0 ≡ cache_cells_end s.results
  pub within : s.closed.0 < size
  pub most : size ≤ MOST_LOCATIONS
