-- Programs that read small numbers write and reply small ones.
use Rattle.std.proofs.Common.{ℕ, zero, suc, ◌+◌, ◌-◌, ◌==◌, Bool, true, false, not, cond, List, [], ◌∷◌, arith}
use Rattle.std.proofs.Math.Nat.{mod-lt}
use Rattle.std.proofs.lemmas.Nat.{and_le_l, or_lt, xor_lt}
use Rattle.kc_cells.specs.Accumulator.{acc_program, sums}
use Rattle.kc_cells.specs.Mvar.{mvar_program}
use Rattle.kc_cells.specs.OnePlace.{fill_program, is_full_program, look_program, take_program}
use Rattle.kc_cells.specs.Promise.{promise_program}
use Rattle.kc_cells.specs.declared.accumulator.AccAct.{AccAct}
use Rattle.kc_cells.specs.declared.accumulator.AccAct.TheVariants as acc
use Rattle.kc_cells.specs.declared.accumulator.Accumulator.{Accumulator}
use Rattle.kc_cells.specs.declared.mvar.Mvar.{Mvar}
use Rattle.kc_cells.specs.declared.mvar.MvarAct.{MvarAct}
use Rattle.kc_cells.specs.declared.mvar.MvarAct.TheVariants as mvar
use Rattle.kc_cells.specs.declared.promise.Promise.{Promise}
use Rattle.kc_cells.specs.declared.promise.PromiseAct.{PromiseAct}
use Rattle.kc_cells.specs.declared.promise.PromiseAct.TheVariants as promise
use Rattle.kc_loc.specs.Kinds.{holds, result_of}
use Rattle.kc_loc.specs.Meaning.{loc_program}
use Rattle.kc_loc.specs.declared.kinds.Fun.{Fun}
use Rattle.kc_loc.specs.declared.kinds.Fun.TheVariants as fun
use Rattle.kc_loc.specs.declared.operation.LocOp.{LocOp}
use Rattle.kc_loc.specs.declared.operation.LocOp.TheVariants as loc
use Rattle.kc_model.specs.declared.reply.Reply.{Reply}
use Rattle.kc_model.specs.declared.reply.Reply.TheVariants as reply
use Rattle.kc_queue.specs.Meaning.{queue_counted, queue_head_in, queue_program, queue_second_of}
use Rattle.kc_queue.specs.declared.operation.QueueAct.{QueueAct}
use Rattle.kc_queue.specs.declared.operation.QueueAct.TheVariants as queue
use Rattle.kc_queue.specs.declared.queue.Queue.{Queue}
use Rattle.kc_script_small.specs.Small.{IsSmall}
use Rattle.kc_script_verbs.specs.Canonical.{Part, acc_words, fun_words, loc_words, mvar_words, promise_words, queue_words, stack_words}
use Rattle.kc_stack.specs.Meaning.{stack_counted, stack_program}
use Rattle.kc_stack.specs.declared.operation.StackAct.{StackAct}
use Rattle.kc_stack.specs.declared.operation.StackAct.TheVariants as stack
use Rattle.kc_stack.specs.declared.stack.Stack.{Stack}
use Rattle.kc_xt.specs.Meaning.{Outcome, replied, retried, too_large}
use Rattle.kc_xt.specs.Program.{Program, ends, read, write, wrapped}

-- a reply of at most one item, which is small
abbrev pub OneSmall : Reply → Type 0
OneSmall (reply.Value n) = IsSmall n
OneSmall (reply.Many items) = ⊥
OneSmall other = Unit {0}

abbrev pub EndsSmall : Outcome → Type 0
EndsSmall (replied a) = OneSmall a
EndsSmall retried = Unit {0}
EndsSmall too_large = Unit {0}

-- where it reads small numbers, it writes and replies small ones
abbrev pub StaysSmall : Program → Type 0
StaysSmall (ends o) = EndsSmall o
StaysSmall (read l k) = (v : ℕ) → IsSmall v → StaysSmall (k v)
StaysSmall (write l v p) = IsSmall v × StaysSmall p

-- what comes behind a small reply
abbrev pub Behind : (Reply → Program) → Type 0
Behind k = (a : Reply) → OneSmall a → StaysSmall (k a)

-- the numbers that words spell
abbrev pub NumbersFit : List Part → Type 0
NumbersFit [] = Unit {0}
NumbersFit (Part.numeral n ∷ parts) = IsSmall n × NumbersFit parts
NumbersFit (Part.text w ∷ parts) = NumbersFit parts
NumbersFit (Part.object_name o ∷ parts) = NumbersFit parts
NumbersFit (Part.place_name x ∷ parts) = NumbersFit parts

pub small_if : (t : Bool) (p q : Program) → StaysSmall p → StaysSmall q → StaysSmall (cond t p q)
small_if true p q h k = h
small_if false p q h k = k

pub zero_small : IsSmall 0
zero_small = omega arith

pub one_small : IsSmall 1
one_small = omega arith

pub wrapped_small : (n : ℕ) → IsSmall (wrapped n)
wrapped_small n = omega arith

-- ---- locations

small_result : (f : Fun) (v : ℕ) → NumbersFit (fun_words f) → IsSmall v → IsSmall (result_of f v)
small_result (fun.Add n) v h k = omega arith
small_result (fun.Max n) v h k = let small = h.0 in omega (arith, small, k)
small_result (fun.Min n) v h k = let small = h.0 in omega (arith, small, k)
small_result (fun.And n) v h k = let le = and_le_l v n in omega (arith, le, k)
small_result (fun.Or n) v h k = or_lt 32 v n k h.0
small_result (fun.Xor n) v h k = xor_lt 32 v n k h.0

pub loc_small : (o : LocOp) (k : Reply → Program) → NumbersFit (loc_words o) → Behind k → StaysSmall (loc_program o k)
unfolding loc_program
loc_small (loc.Get l) k h b = λ v small. b (reply.Value v) small
loc_small (loc.Set l v) k h b = (h.0, b reply.Unit tt)
loc_small (loc.Exchange l v) k h b = λ u small. (h.0, b (reply.Value u) small)
loc_small (loc.Swap x y) k h b = λ v small w also. (also, (small, b reply.Unit tt))
loc_small (loc.Cas l before after) k h b = λ v small. small_if (v == before) _ _ (h.1.0, b (reply.Bool true) tt) (b (reply.Bool false) tt)
loc_small (loc.FetchAdd l n) k h b = λ v small. (wrapped_small (v + n), b (reply.Value v) small)
loc_small (loc.Incr l) k h b = λ v small. (wrapped_small (v + 1), b reply.Unit tt)
loc_small (loc.Decr l) k h b = λ v small. (wrapped_small (v + 4294967295), b reply.Unit tt)
loc_small (loc.Update l f) k h b = λ v small. (small_result f v h small, b (reply.Value v) small)
loc_small (loc.Modify l f) k h b = λ v small. (small_result f v h small, b reply.Unit tt)
loc_small (loc.Check l r n) k h b = λ v small. small_if (holds r v n) _ _ (b reply.Unit tt) tt

-- ---- two cells with room for one value

module _ (base : ℕ) (k : Reply → Program) (b : Behind k) where
  fill_small : (waits : Bool) (v : ℕ) → IsSmall v → StaysSmall (fill_program base waits v k)
  fill_small waits v h = λ flag small. small_if (flag == 0) _ _ (h, (one_small, b reply.Unit tt)) (small_if waits _ _ tt (b (reply.Bool false) tt))

  look_small : (waits : Bool) → StaysSmall (look_program base waits k)
  look_small waits = λ flag small. small_if (flag == 0) _ _ (small_if waits _ _ tt (b reply.Empty tt)) (λ v also. b (reply.Value v) also)

  take_small : StaysSmall (take_program base k)
  take_small = λ flag small. small_if (flag == 0) _ _ tt (λ v also. (zero_small, b (reply.Value v) also))

  is_full_small : StaysSmall (is_full_program base k)
  is_full_small = λ flag small. b (reply.Bool (not (flag == 0))) tt

pub mvar_small : (x : Mvar) (a : MvarAct) (k : Reply → Program) → NumbersFit (mvar_words x a) → Behind k → StaysSmall (mvar_program x a k)
mvar_small x (mvar.Put v) k h b = fill_small x.base.0 k b true v h.0
mvar_small x mvar.Take k h b = take_small x.base.0 k b
mvar_small x mvar.Peek k h b = look_small x.base.0 k b false

pub promise_small : (p : Promise) (a : PromiseAct) (k : Reply → Program) → NumbersFit (promise_words p a) → Behind k → StaysSmall (promise_program p a k)
promise_small p (promise.Resolve v) k h b = fill_small p.base.0 k b false v h.0
promise_small p promise.Await k h b = look_small p.base.0 k b true
promise_small p promise.IsResolved k h b = is_full_small p.base.0 k b

-- ---- an accumulator

sums_small : (l n sum : ℕ) (k : Reply → Program) → IsSmall sum → Behind k → StaysSmall (sums l n sum k)
unfolding sums
sums_small l zero sum k h b = b (reply.Value sum) h
sums_small l (suc n) sum k h b = λ v small. sums_small (l + 1) n (wrapped (sum + v)) k (wrapped_small (sum + v)) b

pub acc_small : (x : Accumulator) (a : AccAct) (k : Reply → Program) → NumbersFit (acc_words x a) → Behind k → StaysSmall (acc_program x a k)
acc_small x (acc.Bump cell v) k h b = λ u small. (wrapped_small (u + v), b reply.Unit tt)
acc_small x acc.Total k h b = sums_small x.base.0 x.cells 0 k zero_small b

-- ---- a stack

module _ (s : Stack) where
  stack_less : (n : ℕ) → IsSmall n → IsSmall (stack_counted s n)
  stack_less n h = omega (arith, h)

  stack_more : (n : ℕ) → IsSmall (stack_counted s n + 1)
  stack_more n = let laid = s.laid in omega (arith, laid)

  stack_fewer : (n : ℕ) → IsSmall n → IsSmall (stack_counted s n - 1)
  stack_fewer n h = omega (arith, h)

  pub stack_small : (a : StackAct) (k : Reply → Program) → NumbersFit (stack_words s a) → Behind k → StaysSmall (stack_program s a k)
  stack_small (stack.Push v) k h b = λ n small. small_if (stack_counted s n == s.cap) _ _ (b reply.Full tt) (h.0, (stack_more n, b reply.Unit tt))
  stack_small stack.Pop k h b = λ n small. small_if (stack_counted s n == 0) _ _ (b reply.Empty tt) (λ v also. (stack_fewer n small, b (reply.Value v) also))
  stack_small stack.PopWait k h b = λ n small. small_if (stack_counted s n == 0) _ _ tt (λ v also. (stack_fewer n small, b (reply.Value v) also))
  stack_small stack.Top k h b = λ n small. small_if (stack_counted s n == 0) _ _ (b reply.Empty tt) (λ v also. b (reply.Value v) also)
  stack_small stack.Len k h b = λ n small. b (reply.Value (stack_counted s n)) (stack_less n small)

-- ---- a queue

module _ (q : Queue) where
  queue_less : (n : ℕ) → IsSmall n → IsSmall (queue_counted q n)
  queue_less n h = omega (arith, h)

  queue_more : (n : ℕ) → IsSmall (queue_counted q n + 1)
  queue_more n = let laid = q.laid in omega (arith, laid)

  queue_fewer : (n : ℕ) → IsSmall n → IsSmall (queue_counted q n - 1)
  queue_fewer n h = omega (arith, h)

  second_small : (h : ℕ) → IsSmall (queue_second_of q h)
  second_small h = let laid = q.laid in let lt = mod-lt (h + 1) q.some in omega (arith, laid, lt)

  deq_small : (n : ℕ) (k : Reply → Program) → IsSmall n → Behind k → (h : ℕ) → IsSmall h → (v : ℕ) → IsSmall v → IsSmall (queue_second_of q (queue_head_in q h)) × (IsSmall (queue_counted q n - 1) × StaysSmall (k (reply.Value v)))
  deq_small n k small b h also v third = (second_small (queue_head_in q h), (queue_fewer n small, b (reply.Value v) third))

  pub queue_small : (a : QueueAct) (k : Reply → Program) → NumbersFit (queue_words q a) → Behind k → StaysSmall (queue_program q a k)
  unfolding queue_program
  queue_small (queue.Enq v) k h b = λ n small. small_if (queue_counted q n == q.cap) _ _ (b reply.Full tt) (λ head also. (h.0, (queue_more n, b reply.Unit tt)))
  queue_small queue.Deq k h b = λ n small. small_if (queue_counted q n == 0) _ _ (b reply.Empty tt) (deq_small n k small b)
  queue_small queue.DeqWait k h b = λ n small. small_if (queue_counted q n == 0) _ _ tt (deq_small n k small b)
  queue_small queue.Front k h b = λ n small. small_if (queue_counted q n == 0) _ _ (b reply.Empty tt) (λ head also v third. b (reply.Value v) third)
  queue_small queue.Len k h b = λ n small. b (reply.Value (queue_counted q n)) (queue_less n small)
