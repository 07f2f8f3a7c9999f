-- The operations of the tests: a loop on a log, one that waits while a number is 0, and one that waits while it is less.
use Rattle.std.specs.Prelude.{ℕ, zero, suc, ◌+◌, ◌-◌, ◌==◌, nat_lt, cond}
use Rattle.kc_model.specs.declared.reply.Reply.{Reply}
use Rattle.kc_model.specs.declared.reply.Reply.TheVariants as reply
use Rattle.kc_xt.specs.Program.{Program, read, write, retries, wrapped}

-- writes zero at n locations, from l on
unfoldable pub clears : ℕ → ℕ → (Reply → Program) → Program
clears l zero k = k reply.Unit
clears l (suc n) k = write l 0 (clears (l + 1) n k)

-- takes one from a number, and waits while that is 0; replies the number before
abbrev pub takes_one : ℕ → (Reply → Program) → Program
takes_one l k = read l (λ v. cond (v == 0) retries (write l (v - 1) (k (reply.Value v))))

-- waits while a location has less, and then adds there; replies the value before
abbrev pub add_program : ℕ → ℕ → ℕ → (Reply → Program) → Program
add_program l least n k = read l (λ v. cond (nat_lt v least) retries (write l (wrapped (v + n)) (k (reply.Value v))))
