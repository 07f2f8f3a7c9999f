-- What are operations of a transaction may be run.
use Rattle.std.proofs.Common.{◌≡◌, ℕ, zero, suc, length, get_or, ◌==◌, ◌≤◌, ◌<◌, Bool, true, false, cond, List, [], ◌∷◌, Option, Some, None, ap, arith}
use Rattle.std.specs.Option.{option_map, option_and_then, option_or}
use Rattle.kc_calls.specs.Meaning.{call_end, meaning_said, said_end, end_said, FitIfSaid, SaidIsFit, CallsAreFit, IsOperation, calls_end}
use Rattle.kc_calls.specs.Operations.{AreOperations}
use Rattle.kc_calls.specs.Said.{call_said, done_to, acted, plain_verb, waits_for_room, loc_said, stack_said, queue_said, table_said, grow_said, cache_said, mvar_said, promise_said, accumulator_said}
use Rattle.kc_calls.specs.Structures.{structure_of}
use Rattle.kc_calls.specs.declared.call.Call.{Call}
use Rattle.kc_calls.specs.declared.call.Call.TheVariants as call
use Rattle.kc_calls.specs.declared.operation.KcasOp.{KcasOp}
use Rattle.kc_calls.specs.declared.verbs.TheConstants.{SAY}
use Rattle.kc_calls.proofs.Room.{wait_one}
use Rattle.kc_compose.specs.declared.sort.Sort.TheVariants.{Full}
use Rattle.kc_model.specs.declared.plain_store.TheConstants.{MOST_LOCATIONS}
use Rattle.kc_model.specs.declared.reply.Reply.TheVariants as reply
use Rattle.kc_script_bundle.proofs.Own.{IsOnObject, first_of, behind_of, op_stays}
use Rattle.kc_script_bundle.specs.Meaning.{op_program, op_meaning, op_end, OpIsFit}
use Rattle.kc_script_bundle.specs.declared.object.Object.{Object}
use Rattle.kc_script_bundle.specs.declared.object.Object.TheVariants as object
use Rattle.kc_script_bundle.specs.declared.operation.Op.{Op}
use Rattle.kc_script_bundle.specs.declared.operation.Op.TheVariants as op
use Rattle.kc_term.proofs.Ones.{means_one}
use Rattle.kc_term.specs.Fit.{Each}
use Rattle.kc_xt.proofs.Stay.{stays_one}
use Rattle.kc_xt.specs.Program.{replies, retries}
use Rattle.kc_xt.specs.Structure.{RepliesOneItem}

-- ---- what is said is no cancel

abbrev OnObject : Option Op → Type 0
OnObject (Some p) = IsOnObject p
OnObject None = Unit {0}

mapped : {A : Type 0} (f : A → Op) (x : Option A) → ((a : A) → IsOnObject (f a)) → OnObject (option_map f x)
mapped f (Some a) h = h a
mapped f None h = tt

acted_on : (s : Object) (verb a b : ℕ) → OnObject (acted s verb a b)
acted_on (object.Loc at value) verb a b = mapped _ (loc_said at verb a b) (λ x. tt)
acted_on (object.Stack s) verb a b = mapped _ (stack_said verb a) (λ x. tt)
acted_on (object.Queue q) verb a b = mapped _ (queue_said verb a) (λ x. tt)
acted_on (object.Hash h) verb a b = mapped _ (table_said verb a b) (λ x. tt)
acted_on (object.Grow g) verb a b = mapped _ (grow_said verb a b) (λ x. tt)
acted_on (object.Cache c) verb a b = mapped _ (cache_said verb a b) (λ x. tt)
acted_on (object.Mvar x) verb a b = mapped _ (mvar_said verb a) (λ x. tt)
acted_on (object.Promise p) verb a b = mapped _ (promise_said verb a) (λ x. tt)
acted_on (object.Acc x) verb a b = mapped _ (accumulator_said verb a b) (λ x. tt)

abbrev CallOnObject : Option Call → Type 0
CallOnObject (Some (call.Say n)) = Unit {0}
CallOnObject (Some (call.Act p)) = IsOnObject p
CallOnObject (Some (call.WaitForRoom p)) = IsOnObject p
CallOnObject None = Unit {0}

wait_on : (s : Object) (a b : ℕ) (plain : Option ℕ) → OnObject (option_and_then (λ v. acted s v a b) plain)
wait_on s a b (Some v) = acted_on s v a b
wait_on s a b None = tt

act_on : (x y : Option Op) → OnObject x → OnObject y → CallOnObject (option_or (option_map call.Act x) (option_map call.WaitForRoom y))
act_on (Some p) y h g = h
act_on None (Some p) h g = g
act_on None None h g = tt

on_object : (o : KcasOp) → CallOnObject (call_said o)
unfolding call_said done_to
on_object o = by (o.verb == SAY) (structure_of o.on)
  where
    by : (t : Bool) (s : Option Object) → CallOnObject (cond t (Some (call.Say o.a)) (option_and_then (λ s. done_to s o.verb o.a o.b) s))
    by true s = tt
    by false None = tt
    by false (Some s) = act_on (acted s o.verb o.a o.b) (waits_for_room s o.verb o.a o.b) (acted_on s o.verb o.a o.b) (wait_on s o.a o.b (plain_verb o.verb))

-- ---- it may be run below the end of a store

op_fit : (p : Op) → IsOnObject p → op_end p ≤ MOST_LOCATIONS → OpIsFit p
op_fit (op.Loc o) on le = omega (arith, le)
op_fit (op.Stack o) on le = tt
op_fit (op.Queue o) on le = tt
op_fit (op.Mvar o) on le = tt
op_fit (op.Promise o) on le = tt
op_fit (op.Acc o) on le = tt
op_fit (op.Hash o) on le = tt
op_fit (op.Grow o) on le = tt
op_fit (op.Cache o) on le = tt
op_fit (op.Cancel c) on le = absurd on

call_fit : (x : Option Call) → CallOnObject x → (c : Call) → x ≡ Some c → call_end c ≤ MOST_LOCATIONS → FitIfSaid x
call_fit (Some (call.Say n)) on c e le = tt
call_fit (Some (call.Act p)) on c e le = op_fit p on (let f : op_end p ≡ end_said (Some c) = ap end_said e in omega (arith, f, le))
call_fit (Some (call.WaitForRoom p)) on c e le = op_fit p on (let f : op_end p ≡ end_said (Some c) = ap end_said e in omega (arith, f, le))
call_fit None on c e le = absurd cc

pub fits_below : (o : KcasOp) (c : Call) → call_said o ≡ Some c → call_end c ≤ MOST_LOCATIONS → SaidIsFit o
fits_below o c e le = call_fit (call_said o) (on_object o) c e le

pub operation_fits : (o : KcasOp) → IsOperation MOST_LOCATIONS o → SaidIsFit o
operation_fits o (mark, may, c, e, le) = fits_below o c e le

module _ (locations : ℕ) where
  pub said_within : (o : KcasOp) → IsOperation locations o → said_end o ≤ locations
  said_within o (mark, may, c, e, le) = let f : said_end o ≡ call_end c = ap end_said e in omega (arith, f, le)

  each_fit : locations ≤ MOST_LOCATIONS → (os : List KcasOp) → Each (IsOperation locations) os → Each (IsOperation MOST_LOCATIONS) os
  each_fit most [] h = tt
  each_fit most (o ∷ os) h = ((h.0.0, h.0.1, h.0.2, h.0.3, omega (arith, h.0.4, most)), each_fit most os h.1)

  pub ends_within : (os : List KcasOp) → Each (IsOperation locations) os → calls_end os ≤ locations
  ends_within [] h = omega arith
  ends_within (o ∷ os) h = omega (arith, said_within o h.0, ends_within os h.1)

-- ---- each replies one item

op_one : (p : Op) → RepliesOneItem (op_meaning p)
op_one p = stays_one (first_of p) (behind_of p) (op_program p replies) (op_stays p)

pub one_said : (x : Option Call) → RepliesOneItem (meaning_said x)
one_said (Some (call.Say n)) = means_one (replies (reply.Value n)) tt
one_said (Some (call.Act p)) = op_one p
one_said (Some (call.WaitForRoom p)) = wait_one Full (op_meaning p) (op_one p)
one_said None = means_one retries tt

pub are_fit : (locations : ℕ) → locations ≤ MOST_LOCATIONS → (os : List KcasOp) → AreOperations locations os → CallsAreFit os
are_fit locations most os h = record { few = h.few; each = each_fit locations most os h.each }

-- what holds of each holds of the one at a place
pub each_there : {X : Type 0} (P : X → Type 0) (xs : List X) (i : ℕ) (d : X) → i < length xs → Each P xs → P (get_or xs i d)
each_there P [] i d lt h = absurd (omega arith)
each_there P (x ∷ xs) zero d lt h = h.0
each_there P (x ∷ xs) (suc i) d lt h = each_there P xs i d (omega arith) h.1
