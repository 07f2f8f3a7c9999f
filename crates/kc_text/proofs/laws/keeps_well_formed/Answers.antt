use Rattle.std.proofs.Common.{◌≡◌, ◌-◌, ℕ, ◌+◌, ap, sym, ◌∙◌, arith}
use Rattle.kc_text.proofs.Forming.{formed_same, opens_formed, op_keeps}
use Rattle.kc_text.specs.Forming.{IsCell}
use Rattle.kc_text.specs.declared.texts.Texts.{Texts}
use Rattle.kc_text.proofs.laws.keeps_well_formed.Goals as goal

-- a cell, counted from the first
from_first : (t : Texts) (l : ℕ) → IsCell t l → t.base.0 + (l - t.base.0) ≡ l
from_first t l cell = omega (arith, cell.0)

pub returns-clause-opens : goal.returns-clause-opens
returns-clause-opens c = λ t m zeros. opens_formed t m (λ l cell. ap m (sym (from_first t l cell)) ∙ zeros (l - t.base.0) (omega (arith, cell.0, cell.1)))

pub returns-clause-keeps : goal.returns-clause-keeps
returns-clause-keeps c = λ o fit n m ks formed small. (tt, op_keeps o fit n m ks formed.1 small)

pub returns-clause-own : goal.returns-clause-own
returns-clause-own c = λ t m w content same formed. formed_same t m w (λ l cell. sym (same l cell.0 cell.1)) formed
