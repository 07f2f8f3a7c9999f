-- Where C's operations are cut into alternatives.
use Rattle.std.specs.Prelude.{ℕ, suc, ◌==◌, List, [], ◌∷◌, if◌then◌else◌}
use Rattle.kc_calls.specs.declared.operation.KcasOp.{KcasOp}
use Rattle.kc_calls.specs.declared.verbs.TheConstants.{OR}

-- how many stand before the next one that begins an alternative
abbrev pub before_or : List KcasOp → ℕ
before_or [] = 0
before_or (o ∷ os) = if o.mark == OR then 0 else suc (before_or os)

-- how many the first alternative has: its first one begins it, marked or not
abbrev pub cut : List KcasOp → ℕ
cut [] = 0
cut (o ∷ os) = suc (before_or os)

-- how many are marked
abbrev pub ors : List KcasOp → ℕ
ors [] = 0
ors (o ∷ os) = if o.mark == OR then suc (ors os) else ors os
