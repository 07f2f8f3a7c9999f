-- What users see of a pool.
use Rattle.kc_shelf.specs.declared.shelf.Shelf.{Shelf}
use Rattle.kc_store.specs.Views.{StoreView}

-- the store that has the cells of its shelf, and the shelf
pub record PoolView : Type 0 where
  pub of : StoreView
  pub shelf : Shelf
