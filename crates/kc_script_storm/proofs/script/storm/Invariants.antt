use Rattle.std.proofs.Common.{◌≡◌, ◌-◌, map, take}
use Rattle.kc_script_storm.specs.Storm.{storm_script}
use Rattle.kc_script_storm.proofs.script.storm.Given as goal

abbrev pub invariant-loop-thread : goal.invariant-loop-thread
invariant-loop-thread l = map (λ commands. commands.items) l.threads.items ≡ take (l.thread - 1) (storm_script l.number).threads
