-- What follows the number of a job that a worker takes.
use Rattle.std.specs.Prelude.{ℕ}
use Rattle.kc_compose.specs.Found.{found_then}
use Rattle.kc_compose.specs.declared.both.Both.{Both}
use Rattle.kc_compose.specs.declared.say.Say.{Say}
use Rattle.kc_compose.specs.declared.sort.Sort.TheVariants.{Is}
use Rattle.kc_compose.specs.declared.when.When.{When}
use Rattle.kc_hash.specs.declared.operation.HashAct.TheVariants as hash
use Rattle.kc_hash.specs.declared.operation.HashOp.{HashOp}
use Rattle.kc_jobs.specs.declared.jobs.Begin.{Begin}
use Rattle.kc_jobs.specs.declared.jobs.TheConstants.{RUNNING, WAITING}
use Rattle.kc_model.specs.declared.reply.Reply.TheVariants as reply

abbrev pub begins_job : Begin → ℕ → When HashOp (Both HashOp Say) Say
begins_job b job = found_then b.states job (Is WAITING) (record { first = record { hash = b.states; act = hash.Put job RUNNING }; second = record { reply = reply.Value job } }) reply.Empty
