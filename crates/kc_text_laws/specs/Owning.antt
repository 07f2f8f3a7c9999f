-- What each caller's own entries say of its leases.
use Rattle.std.specs.Prelude.{◌≡◌, ℕ, ◌+◌, ◌-◌, ◌<◌, cond, true, ◌⊎◌, List, [], ◌∷◌}
use Rattle.kc_model.specs.declared.footprint.Entry.{Entry}
use Rattle.kc_model.specs.declared.footprint.Footprint.{Footprint}
use Rattle.kc_model.specs.declared.reply.Answer.{Answer}
use Rattle.kc_text_laws.specs.Holding.{LeavesTexts, ends_lease, opens_lease}
use Rattle.kc_text.specs.Meaning.{IsFitAct, IsText, op, text_meaning}
use Rattle.kc_text.specs.declared.operation.TextAct.{TextAct}
use Rattle.kc_text.specs.declared.texts.Texts.{Texts}
use Rattle.kc_xt.specs.Commit.{Answers}

-- a footprint of an operation on the texts
pub record IsTextOperation (t : Texts) (f : Footprint) : Type 0 where
  pub act : TextAct
  pub fit : IsFitAct t act
  pub answer : Answer
  pub answers : Answers (text_meaning (op t act)) answer f

-- how many leases of text j a caller holds behind one of its entries that held n before
abbrev pub held_on : Texts → (text : ℕ) → Footprint → ℕ → ℕ
held_on t j f n = cond (opens_lease t j f) (n + 1) (cond (ends_lease t j f) (n - 1) n)

-- A caller's own entries, in order, where it holds so many leases before them: each is an operation's or puts none of the cells, and each lease that is ended it holds.
abbrev pub CallerKeeps : Texts → (ℕ → ℕ) → List Entry → Type 0
CallerKeeps t held [] = Unit {0}
CallerKeeps t held (e ∷ es) = (LeavesTexts t e.footprint ⊎ IsTextOperation t e.footprint) × ((j : ℕ) → IsText t j → ends_lease t j e.footprint ≡ true → 0 < held j) × CallerKeeps t (λ j. held_on t j e.footprint (held j)) es

abbrev pub none_held : ℕ → ℕ
none_held j = 0
