-- A caller that is to hang on reads of its store.
use Rattle.std.proofs.Common.{◌≡◌, ℕ, ◌<◌, All, Some, subst, sym, ap}
use Rattle.std.specs.Prelude.{unwrap_or}
use Rattle.std.proofs.lemmas.List.Elements.{All-contains}
use Rattle.kc_c.specs.Standings.{HangsOnStore, store_in}
use Rattle.kc_c.specs.declared.standing.Standing.{Standing}
use Rattle.kc_c.specs.declared.standing.Standing.TheVariants as standing
use Rattle.kc_model.specs.declared.footprint.Footprint.{Footprint}
use Rattle.kc_store.specs.Views.{StoreView}

pub hangs_on_store : (s : Standing) (z : StoreView) (n : ℕ) (f : Footprint) → store_in s ≡ Some z → n ≡ z.locations → All (λ r. r.loc.0 < n) f.reads.items → HangsOnStore f s
hangs_on_store (standing.Rests c) z n f of size all = λ r reads. subst (λ m. r.loc.0 < m) (subst (λ x. n ≡ x.locations) (sym (ap (λ o. unwrap_or o z) of)) size) (All-contains (λ r. r.loc.0 < n) f.reads.items r all reads)
hangs_on_store (standing.Hangs h) z n f of size all = tt
hangs_on_store standing.Away z n f of size all = tt
