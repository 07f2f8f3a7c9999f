-- Which cells an operation keeps to.
use Rattle.std.proofs.Common.{ℕ, ◌+◌, ◌≤◌, arith}
use Rattle.kc_loc.specs.declared.operation.LocOp.{LocOp}
use Rattle.kc_model.specs.declared.footprint.Loc.{Loc}
use Rattle.kc_model.specs.declared.plain_store.TheConstants.{MOST_LOCATIONS}
use Rattle.kc_xt.specs.Program.{replies}
use Rattle.kc_xt.specs.Stays.{Stays}
use Rattle.kc_loc.specs.declared.operation.LocOp.TheVariants as loc
use Rattle.kc_cache.proofs.CacheLaw.{cache_stays}
use Rattle.kc_cache.specs.Meaning.{cache_cells_end}
use Rattle.kc_cells.proofs.AccLaw.{acc_stays}
use Rattle.kc_cells.proofs.MvarLaw.{mvar_stays}
use Rattle.kc_cells.proofs.PromiseLaw.{promise_stays}
use Rattle.kc_cells.specs.Accumulator.{acc_cells_end}
use Rattle.kc_cells.specs.Mvar.{mvar_cells_end}
use Rattle.kc_cells.specs.Promise.{promise_cells_end}
use Rattle.kc_grow.proofs.GrowLaw.{grow_stays}
use Rattle.kc_grow.specs.Meaning.{grow_end_of}
use Rattle.kc_hash.proofs.HashLaw.{hash_stays}
use Rattle.kc_hash.specs.Meaning.{hash_cells_end}
use Rattle.kc_loc.proofs.LocLaw.{loc_stays}
use Rattle.kc_loc.specs.Meaning.{loc_begin, loc_last}
use Rattle.kc_queue.proofs.QueueLaw.{queue_stays}
use Rattle.kc_queue.specs.Meaning.{queue_cells_end}
use Rattle.kc_stack.proofs.StackLaw.{stack_stays}
use Rattle.kc_stack.specs.Meaning.{stack_cells_end}
use Rattle.kc_script_bundle.specs.declared.object.Object.TheVariants as object
use Rattle.kc_script_bundle.specs.declared.operation.Op.{Op}
use Rattle.kc_script_bundle.specs.declared.operation.Op.TheVariants as op
use Rattle.kc_script_bundle.proofs.Having.{has_place}
use Rattle.kc_script_bundle.proofs.Places.{next_from-above}
use Rattle.kc_script_bundle.specs.Meaning.{cancel_op, op_program, op_end, OpIsFit}
use Rattle.kc_script_bundle.specs.On.{IsLocation, LocIsOn, IsOn}
use Rattle.kc_script_bundle.specs.Script.{Names, LieFrom, next_from}

-- the first cell, and the one behind the last
abbrev pub first_of : Op → ℕ
first_of (op.Loc o) = loc_begin o
first_of (op.Stack o) = o.stack.base.0
first_of (op.Queue o) = o.queue.base.0
first_of (op.Mvar o) = o.mvar.base.0
first_of (op.Promise o) = o.promise.base.0
first_of (op.Acc o) = o.acc.base.0
first_of (op.Hash o) = o.hash.base.0
first_of (op.Grow o) = o.grow.base.0
first_of (op.Cache o) = o.cache.base.0
first_of (op.Cancel c) = c.live.0

abbrev pub behind_of : Op → ℕ
behind_of (op.Loc o) = loc_last o + 1
behind_of (op.Stack o) = stack_cells_end o.stack
behind_of (op.Queue o) = queue_cells_end o.queue
behind_of (op.Mvar o) = mvar_cells_end o.mvar
behind_of (op.Promise o) = promise_cells_end o.promise
behind_of (op.Acc o) = acc_cells_end o.acc
behind_of (op.Hash o) = hash_cells_end o.hash
behind_of (op.Grow o) = grow_end_of o.grow
behind_of (op.Cache o) = cache_cells_end o.cache
behind_of (op.Cancel c) = c.live.0 + 1

-- it is no cancel
abbrev pub IsOnObject : Op → Type 0
IsOnObject (op.Cancel c) = ⊥
IsOnObject _ = Unit {0}

-- it keeps to these
pub op_stays : (o : Op) → Stays (first_of o) (behind_of o) (op_program o replies)
op_stays (op.Loc o) = loc_stays o
op_stays (op.Stack o) = stack_stays o
op_stays (op.Queue o) = queue_stays o
op_stays (op.Mvar o) = mvar_stays o
op_stays (op.Promise o) = promise_stays o
op_stays (op.Acc o) = acc_stays o
op_stays (op.Hash o) = hash_stays o
op_stays (op.Grow o) = grow_stays o
op_stays (op.Cache o) = cache_stays o
op_stays (op.Cancel c) = loc_stays (cancel_op c)

module _ (names : Names) (lie : LieFrom 1 names) where
  -- a location's place
  loc_place : (l : Loc) → IsLocation names l → (1 ≤ l.0) × (l.0 + 1 ≤ next_from 1 names)
  loc_place l (value, has) = has_place 1 names (object.Loc l value) lie has

  loc_within : (o : LocOp) → LocIsOn names o → (1 ≤ loc_begin o) × (loc_last o + 1 ≤ next_from 1 names)
  loc_within (loc.Get l) on = loc_place l on
  loc_within (loc.Set l v) on = loc_place l on
  loc_within (loc.Exchange l v) on = loc_place l on
  loc_within (loc.Swap a b) on =
      let p = loc_place a on.0 in
      let q = loc_place b on.1 in
      (omega (arith, p.0, q.0), omega (arith, p.1, q.1))
  loc_within (loc.Cas l before after) on = loc_place l on
  loc_within (loc.FetchAdd l k) on = loc_place l on
  loc_within (loc.Incr l) on = loc_place l on
  loc_within (loc.Decr l) on = loc_place l on
  loc_within (loc.Update l f) on = loc_place l on
  loc_within (loc.Modify l f) on = loc_place l on
  loc_within (loc.Check l r k) on = loc_place l on

  -- its cells lie behind location 0, and before the next one
  pub op_within : (o : Op) → IsOnObject o → IsOn names o → (1 ≤ first_of o) × (behind_of o ≤ next_from 1 names)
  op_within (op.Loc o) is on = loc_within o on
  op_within (op.Stack o) is on = let p = has_place 1 names (object.Stack o.stack) lie on in (p.0, omega (arith, p.1))
  op_within (op.Queue o) is on = let p = has_place 1 names (object.Queue o.queue) lie on in (p.0, omega (arith, p.1))
  op_within (op.Mvar o) is on = has_place 1 names (object.Mvar o.mvar) lie on
  op_within (op.Promise o) is on = has_place 1 names (object.Promise o.promise) lie on
  op_within (op.Acc o) is on = has_place 1 names (object.Acc o.acc) lie on
  op_within (op.Hash o) is on = let p = has_place 1 names (object.Hash o.hash) lie on in (p.0, omega (arith, p.1))
  op_within (op.Grow o) is on = let p = has_place 1 names (object.Grow o.grow) lie on in (p.0, omega (arith, p.1))
  op_within (op.Cache o) is on = let p = has_place 1 names (object.Cache o.cache) lie on in (p.0, omega (arith, p.1))
  op_within (op.Cancel c) is on = absurd is

  pub op_end_within : (o : Op) → IsOn names o → op_end o ≤ next_from 1 names
  op_end_within (op.Loc o) on = let p = op_within (op.Loc o) tt on in omega (arith, p.1)
  op_end_within (op.Stack o) on = (op_within (op.Stack o) tt on).1
  op_end_within (op.Queue o) on = (op_within (op.Queue o) tt on).1
  op_end_within (op.Mvar o) on = (op_within (op.Mvar o) tt on).1
  op_end_within (op.Promise o) on = (op_within (op.Promise o) tt on).1
  op_end_within (op.Acc o) on = (op_within (op.Acc o) tt on).1
  op_end_within (op.Hash o) on = let p = op_within (op.Hash o) tt on in omega (arith, p.1)
  op_end_within (op.Grow o) on = (op_within (op.Grow o) tt on).1
  op_end_within (op.Cache o) on = let p = op_within (op.Cache o) tt on in omega (arith, p.1)
  op_end_within (op.Cancel c) on = omega (arith, on.0, next_from-above 1 names)

  module _ (within : next_from 1 names ≤ MOST_LOCATIONS) where
    pub op_fits : (o : Op) → IsOn names o → OpIsFit o
    op_fits (op.Loc o) on = omega (arith, within, (op_within (op.Loc o) tt on).1)
    op_fits (op.Stack o) on = tt
    op_fits (op.Queue o) on = tt
    op_fits (op.Mvar o) on = tt
    op_fits (op.Promise o) on = tt
    op_fits (op.Acc o) on = tt
    op_fits (op.Hash o) on = tt
    op_fits (op.Grow o) on = tt
    op_fits (op.Cache o) on = tt
    op_fits (op.Cancel c) on = (omega (arith, on.0), on.1)
