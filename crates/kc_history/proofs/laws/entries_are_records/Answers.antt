use Rattle.std.proofs.Common.{ap, ◌∙◌, zero-add}
use Rattle.kc_history.proofs.Entries.{entries, just_legal}
use Rattle.kc_history.proofs.laws.entries_are_records.Goals as goal

pub returns-clause-any : goal.returns-clause-any
returns-clause-any c a s e h legal same = entries a e h (λ _. 0) s legal (λ u k. ap (a u) (zero-add k) ∙ same u k)

pub returns-clause-lists : goal.returns-clause-lists
returns-clause-lists c records s e h legal just = just_legal records s e h legal just
