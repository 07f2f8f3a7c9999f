use Rattle.std.proofs.Common.{◌≡◌, drop}
use Rattle.kc_xt.specs.Lines.{worn_put}
use Rattle.kc_xt.proofs.line.worn_among.Given as goal

abbrev pub invariant-loop-put : goal.invariant-loop-put
invariant-loop-put l = worn_put (drop l.put-index l.made) ≡ worn_put l.made
