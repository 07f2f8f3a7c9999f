-- A commit that is told that a location is worn comes behind as many puts of it as it has versions.
use Rattle.std.proofs.Common.{◌++◌, arith}
use Rattle.kc_await.specs.Adds.{IsToldAtLast}
use Rattle.kc_model.specs.declared.footprint.Footprint.{Footprint}
use Rattle.kc_model.specs.declared.footprint.Loc.{Loc}
use Rattle.kc_run.specs.Kcas.{LastIsWorn}
use Rattle.kc_store.proofs.Placing.{finds_behind}
use Rattle.kc_store.proofs.PutCount.{rises}
use Rattle.kc_store.specs.Knows.{entry_of}
use Rattle.kc_store.specs.Views.{CallerView, store_opening}
use Rattle.kc_store.specs.declared.verdict.Answered.TheVariants as answered
use Rattle.kc_xt.specs.Meaning.{Meaning}

pub last_is_worn : (m : Meaning) (loc : Loc) (c : CallerView) (f : Footprint) (d : CallerView) → IsToldAtLast m (answered.WornLocation loc) c f d → LastIsWorn loc.0 d
last_is_worn m loc c f d told =
    let wears = told.0 in
    let adds = told.1.1 in
    let x = entry_of c.number adds.number f in
    record {
      others = c.own ++ adds.looks;
      last = x;
      own = adds.own;
      puts = λ t e before behind first legal.
          let at = (wears.run t (finds_behind (store_opening d.of) t e before behind x first legal)).1.last in
          let up = rises (store_opening d.of) t before loc.0 first in omega (arith, at, up);
    }
