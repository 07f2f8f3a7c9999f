-- Operations that wait for room.
use Rattle.std.proofs.Common.{Bool, true, false, List, cond}
use Rattle.kc_compose.proofs.Lines.{queue_touches, stack_touches}
use Rattle.kc_compose.proofs.Locations.{loc_touches}
use Rattle.kc_compose.proofs.Places.{acc_touches, mvar_touches, promise_touches}
use Rattle.kc_compose.proofs.Tables.{cache_touches, hash_touches}
use Rattle.kc_compose.proofs.Touches.{touches_first}
use Rattle.kc_compose.specs.Meaning.{TouchesWhereItReplies, wait_meaning, wait_run}
use Rattle.kc_compose.specs.Sort.{is_of}
use Rattle.kc_compose.specs.declared.sort.Sort.{Sort}
use Rattle.kc_grow.specs.Meaning.{grow_meaning, grow_program}
use Rattle.kc_grow.specs.declared.grow.Grow.{Grow}
use Rattle.kc_grow.specs.declared.operation.GrowAct.{GrowAct}
use Rattle.kc_grow.specs.declared.operation.GrowAct.TheVariants as grow
use Rattle.kc_grow.specs.declared.operation.GrowOp.{GrowOp}
use Rattle.kc_script_bundle.specs.Meaning.{cancel_op, op_meaning}
use Rattle.kc_script_bundle.specs.declared.operation.Op.{Op}
use Rattle.kc_script_bundle.specs.declared.operation.Op.TheVariants as op
use Rattle.kc_xt.specs.Meaning.{Meaning, Outcome, Touch, replied, retried, too_large}
use Rattle.kc_xt.specs.Program.{replies}
use Rattle.kc_xt.specs.Single.{RepliesOne}
use Rattle.kc_xt.specs.Structure.{RepliesOneItem}

grow_touches : (g : Grow) (a : GrowAct) → (let o : GrowOp = record { grow = g; act = a } in TouchesWhereItReplies (grow_meaning o))
grow_touches g (grow.Put key value) = touches_first (grow_program g (grow.Put key value) replies) tt
grow_touches g (grow.Find key) = touches_first (grow_program g (grow.Find key) replies) tt
grow_touches g (grow.Del key) = touches_first (grow_program g (grow.Del key) replies) tt
grow_touches g grow.Len = touches_first (grow_program g grow.Len replies) tt

-- where an operation replies, it has touched something
pub op_touches : (o : Op) → TouchesWhereItReplies (op_meaning o)
op_touches (op.Loc o) = loc_touches o
op_touches (op.Stack o) = stack_touches o.stack o.act
op_touches (op.Queue o) = queue_touches o.queue o.act
op_touches (op.Mvar o) = mvar_touches o.mvar o.act
op_touches (op.Promise o) = promise_touches o.promise o.act
op_touches (op.Acc o) = acc_touches o.acc o.act
op_touches (op.Hash o) = hash_touches o.hash o.act
op_touches (op.Grow o) = grow_touches o.grow o.act
op_touches (op.Cache o) = cache_touches o.cache o.act
op_touches (op.Cancel c) = loc_touches (cancel_op c)

-- ---- one that waits replies one item, as the one that doesn't

waited_one : (s : Sort) (o : Outcome) (ts : List Touch) → RepliesOne o → RepliesOne (wait_run s o ts).outcome
waited_one s (replied a) ts h = by (is_of s a)
  where
    by : (t : Bool) → RepliesOne (cond t retried (replied a))
    by true = tt
    by false = h
waited_one s retried ts h = tt
waited_one s too_large ts h = tt

pub wait_one : (s : Sort) (p : Meaning) → RepliesOneItem p → RepliesOneItem (wait_meaning s p)
wait_one s p h n m ks = waited_one s (p n m ks).outcome (p n m ks).touches (h n m ks)
