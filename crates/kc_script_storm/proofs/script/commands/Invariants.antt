use Rattle.std.proofs.Common.{◌≡◌, ◌++◌, ◌-◌}
use Rattle.kc_script_storm.specs.Storm.{drawn_commands}
use Rattle.kc_script_storm.proofs.script.commands.Given as goal

abbrev pub invariant-loop : goal.invariant-loop
invariant-loop l = l.commands.items ++ drawn_commands l.thread (2000 - l.counter) l.draw ≡ drawn_commands l.thread 2000 l.fn.start
