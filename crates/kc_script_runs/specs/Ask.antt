-- The command of a thread, as it runs on a log.
use Rattle.std.specs.Prelude.{ℕ, ◌+◌, ◌-◌, ◌^◌, ◌==◌, cond, max, min}
use Rattle.kc_model.specs.declared.reply.Reply.{Reply}
use Rattle.kc_model.specs.declared.reply.Reply.TheVariants as reply
use Rattle.kc_script_bundle.specs.Live.{live_threads, is_flagged, cleared}
use Rattle.kc_script_bundle.specs.Meaning.{command_end}
use Rattle.kc_script_bundle.specs.declared.operation.Command.{Command}
use Rattle.kc_xt.specs.Program.{Program, read, write, retries}

-- a number above the locations of a command and the one of live threads, where a number of its type is
abbrev pub ask_end : ℕ → Command → ℕ
ask_end live c = max (command_end c) (min (live + 1) (2 ^ 32 - 1))

-- what comes of a command that would wait, and what comes behind its reply
abbrev pub ask_alone_program : ℕ → ℕ → (Reply → Program) → Program
ask_alone_program live thread k = read live (λ v. cond (is_flagged thread v) (write live (cleared thread v) (k reply.Cancelled)) (cond (live_threads v == 1) (k reply.Stranded) retries))
