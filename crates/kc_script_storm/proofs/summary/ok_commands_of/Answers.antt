use Rattle.std.proofs.Common.{◌≡◌, ◌+◌, ℕ, cond, take, sym, ap, ◌∙◌, arith}
use Rattle.std.specs.Prelude.{count_by}
use Rattle.kc_script_storm.proofs.Counting.{ok_more}
use Rattle.kc_script_storm.specs.Summary.{is_ok_command}
use Rattle.kc_script_storm.proofs.summary.ok_commands_of.Goals as goal
use Rattle.kc_script_storm.proofs.summary.ok_commands_of.Goals.{then-is_ok_command, else-is_ok_command}

pub loop-i-preserved : goal.loop-i-preserved
loop-i-preserved c =
    let rs = c.args.list.now.items in
    let i = c.loop-i.i in
    let n = count_by is_ok_command (take i rs) in
    let more = ok_more rs i c.head.result.now (let a = c.len-i-end.ensures in let b = c.loop-i-test.true in omega arith) c.head.ensures in
    elim c.if-is_ok_command.branch [
      | then-is_ok_command w ↦
          let one : count_by is_ok_command (take (i + 1) rs) ≡ n + 1 = more ∙ ap (λ b. n + cond {A = ℕ} b 1 0) (sym c.is_ok_command.ensures ∙ w.if-is_ok_command.true) in
          rw w.count-is (omega (arith, one, c.loop-i.invariant.0), omega (arith, c.loop-i.invariant.1))
      | else-is_ok_command w ↦
          let same : count_by is_ok_command (take (i + 1) rs) ≡ n + 0 = more ∙ ap (λ b. n + cond {A = ℕ} b 1 0) (sym c.is_ok_command.ensures ∙ w.if-is_ok_command.false) in
          rw w.count-is (omega (arith, same, c.loop-i.invariant.0), omega (arith, c.loop-i.invariant.1))
    ]
