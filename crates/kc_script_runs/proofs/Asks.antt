-- What a thread's command does on a log.
use Rattle.std.proofs.Common.{◌≡◌, ◌≢◌, ℕ, ◌+◌, ◌≤◌, ◌==◌, Result, Err, arith}
use Rattle.kc_model.specs.declared.reply.Reply.{Reply}
use Rattle.kc_model.specs.Rising.{IsRising}
use Rattle.kc_script_runs.specs.Ask.{ask_alone_program, ask_end}
use Rattle.kc_script_bundle.specs.Live.{live_threads, is_flagged}
use Rattle.kc_script_bundle.specs.Meaning.{command_meaning, command_end, alone_program, thread_meaning}
use Rattle.kc_script_bundle.specs.declared.operation.Command.{Command}
use Rattle.kc_xt.proofs.Composed.{obeys_first_stays, obeys_first_else, obeys_wider}
use Rattle.kc_xt.proofs.Laws.{below_if, law_of}
use Rattle.kc_xt.specs.Law.{Obeys}
use Rattle.kc_xt.specs.Lines.{locations, rolled_back}
use Rattle.kc_xt.specs.Log.{Log}
use Rattle.kc_xt.specs.Peeks.{Gives}
use Rattle.kc_xt.specs.Program.{meaning}
use Rattle.kc_xt.specs.Steps.{Does}
use Rattle.kc_xt.specs.declared.stop.Stop.{Stop}
use Rattle.kc_xt.specs.declared.stop.Stop.TheVariants.{Retry}

module _ {P : Type 0} (gives : Gives P) (live thread : ℕ) where
  alone_law : {x y : Log P} (r : Result Reply Stop) → Does gives (ask_alone_program live thread) x r y → Obeys gives (meaning (alone_program live thread)) (live + 1) x r y
  alone_law r d = law_of gives (ask_alone_program live thread) (live + 1) (omega arith, λ v. below_if _ (is_flagged thread v) _ _ (omega arith, tt) (below_if _ (live_threads v == 1) _ _ tt tt)) tt r d

  -- the command ended without waiting
  pub ask_ended : (c : Command) (r : Result Reply Stop) (x y : Log P) → r ≢ Err Retry → Obeys gives (command_meaning c) (command_end c) x r y → Obeys gives (thread_meaning live thread c) (ask_end live c) x r y
  ask_ended c r x y ended law = obeys_first_stays _ (command_meaning c) (meaning (alone_program live thread)) r x y ended (obeys_wider _ (ask_end live c) (omega arith) (command_meaning c) x r y law)

  -- it would wait, and its puts were forgotten
  pub ask_waited : live + 1 ≤ 65536 → (c : Command) (t r : Result Reply Stop) (x y w z : Log P) → t ≡ Err Retry → IsRising (locations x.lines) → Obeys gives (command_meaning c) (command_end c) x t y → w ≡ record y { lines = rolled_back x.lines y.lines }
      → Does gives (ask_alone_program live thread) w r z → Obeys gives (thread_meaning live thread c) (ask_end live c) x r z
  ask_waited fits c t r x y w z waited rising law back does =
      obeys_first_else _ (command_meaning c) (meaning (alone_program live thread)) x y w r z rising (obeys_wider _ (ask_end live c) (omega arith) (command_meaning c) x (Err Retry) y (rw waited at law)) back (obeys_wider _ (ask_end live c) (omega (arith, fits)) (meaning (alone_program live thread)) w r z (alone_law r does))
