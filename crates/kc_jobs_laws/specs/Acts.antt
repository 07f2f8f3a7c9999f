-- The acts on jobs, and what they mean.
use Rattle.std.specs.Prelude.{ℕ, false}
use Rattle.kc_cells.specs.Promise.{promise_meaning}
use Rattle.kc_cells.specs.declared.promise.Promise.{Promise}
use Rattle.kc_cells.specs.declared.promise.PromiseAct.TheVariants as promise
use Rattle.kc_cells.specs.declared.promise.PromiseOp.{PromiseOp}
use Rattle.kc_compose.specs.Found.{found_then}
use Rattle.kc_compose.specs.Meaning.{both_meaning, fed_meaning, give_meaning, say_meaning, unless_meaning, wait_meaning, when_meaning}
use Rattle.kc_compose.specs.declared.both.Both.{Both}
use Rattle.kc_compose.specs.declared.fed.Fed.{Fed}
use Rattle.kc_compose.specs.declared.give.Give.{Give}
use Rattle.kc_compose.specs.declared.moving.IntoQueue.{IntoQueue}
use Rattle.kc_compose.specs.declared.say.Say.{Say}
use Rattle.kc_compose.specs.declared.sort.Sort.TheVariants.{Empty, Full, Is}
use Rattle.kc_compose.specs.declared.unless.Unless.{Unless}
use Rattle.kc_compose.specs.declared.wait_on.WaitOn.{WaitOn}
use Rattle.kc_compose.specs.declared.when.When.{When}
use Rattle.kc_compose.specs.Waits.{enqueues_or_waits}
use Rattle.kc_hash.specs.Meaning.{hash_meaning}
use Rattle.kc_hash.specs.declared.hash.Hash.{Hash}
use Rattle.kc_hash.specs.declared.operation.HashAct.TheVariants as hash
use Rattle.kc_hash.specs.declared.operation.HashOp.{HashOp}
use Rattle.kc_jobs.specs.Begins.{begins_job}
use Rattle.kc_jobs.specs.declared.jobs.Begin.{Begin}
use Rattle.kc_jobs.specs.declared.jobs.TheConstants.{WAITING}
use Rattle.kc_jobs_laws.specs.declared.jobs.Jobs.{Jobs}
use Rattle.kc_model.specs.declared.reply.Reply.TheVariants as reply
use Rattle.kc_queue.specs.Meaning.{queue_meaning}
use Rattle.kc_queue.specs.declared.operation.QueueAct.TheVariants as queue
use Rattle.kc_queue.specs.declared.operation.QueueOp.{QueueOp}
use Rattle.kc_queue.specs.declared.queue.Queue.{Queue}
use Rattle.kc_xt.specs.Meaning.{Meaning}

-- ---- the acts

abbrev pub submits_job : Hash → Queue → ℕ → When HashOp (Give (Unless HashOp QueueOp)) Say
submits_job states line job = found_then states job Empty (record { of = record { first = record { hash = states; act = hash.Put job WAITING }; replies = Full; second = record { queue = line; act = queue.Enq job } }; back = Full }) (reply.Bool false)

-- of a job of which the table says one thing it says another then, and its end is told this
abbrev pub settles_job : Hash → Promise → ℕ → ℕ → ℕ → ℕ → When HashOp (Both HashOp PromiseOp) Say
settles_job states end job old state v = found_then states job (Is old) (record { first = record { hash = states; act = hash.Put job state }; second = record { promise = end; act = promise.Resolve v } }) (reply.Bool false)

abbrev pub starts_next : Jobs → Queue → Fed QueueOp Begin
starts_next s ready = record { first = record { queue = ready; act = queue.DeqWait }; behind = record { states = s.states } }

-- ---- what they mean

abbrev pub submits_meaning : When HashOp (Give (Unless HashOp QueueOp)) Say → Meaning
submits_meaning w = when_meaning w.is (hash_meaning w.ask) (give_meaning w.then.back (unless_meaning w.then.of.replies (hash_meaning w.then.of.first) (queue_meaning w.then.of.second))) (say_meaning w.otherwise.reply)

abbrev pub settles_meaning : When HashOp (Both HashOp PromiseOp) Say → Meaning
settles_meaning w = when_meaning w.is (hash_meaning w.ask) (both_meaning (hash_meaning w.then.first) (promise_meaning w.then.second)) (say_meaning w.otherwise.reply)

abbrev pub begins_meaning : When HashOp (Both HashOp Say) Say → Meaning
begins_meaning w = when_meaning w.is (hash_meaning w.ask) (both_meaning (hash_meaning w.then.first) (say_meaning w.then.second.reply)) (say_meaning w.otherwise.reply)

abbrev pub starts_meaning : Fed QueueOp Begin → Meaning
starts_meaning f = fed_meaning (queue_meaning f.first) (λ job. begins_meaning (begins_job f.behind job))

abbrev pub waits_meaning : WaitOn QueueOp → Meaning
waits_meaning w = wait_meaning w.at (queue_meaning w.of)

abbrev pub moves_meaning : Fed QueueOp IntoQueue → Meaning
moves_meaning f = fed_meaning (queue_meaning f.first) (λ item. waits_meaning (enqueues_or_waits f.behind.queue item))
