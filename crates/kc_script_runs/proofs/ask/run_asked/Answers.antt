use Rattle.std.proofs.Common.{refl, arith, rules}
use Rattle.kc_script_runs.proofs.Asks.{ask_ended, ask_waited}
use Rattle.kc_script_runs.proofs.ask.run_asked.Goals as goal

pub snapshot-start-requires : goal.snapshot-start-requires
snapshot-start-requires g c = (omega (arith, c.requires.few), c.requires.room)

pub rollback-requires : goal.rollback-requires
rollback-requires g c = (omega (arith, c.requires.few), search rules)

pub returns-then-not-is_retry-clause-law : goal.returns-then-not-is_retry-clause-law
returns-then-not-is_retry-clause-law g c = ask_ended _ c.args.live.0 c.args.thread c.args.command.now c.run-tried.result c.args.xt.now c.run-tried.new.xt (λ e. absurd (cc (c.if-not-is_retry.ensures.1 e))) c.run-tried.ensures.law

pub returns-clause-law : goal.returns-clause-law
returns-clause-law g c =
    ask_waited _ c.args.live.0 c.args.thread c.requires.live c.args.command.now c.run-tried.result c.run_alone.result c.args.xt.now c.run-tried.new.xt c.rollback.new.self c.run_alone.new.xt (c.if-not-is_retry.ensures.0 refl) c.snapshot-start.ensures.rising c.run-tried.ensures.law (rw c.snapshot-start.ensures.lines at c.rollback.ensures) c.run_alone.ensures.goes
