-- Picks: texts that a caller names at a place, one after another, and reads there.
use Rattle.std.specs.Prelude.{◌≡◌, ℕ, ◌/◌, List, [], ◌∷◌, ◌++◌, length, replicate, take, drop}
use Rattle.kc_history.specs.Callers.{IsBelowCallers, IsLegalFrom, of_caller}
use Rattle.kc_model.specs.declared.footprint.Entry.{Entry}
use Rattle.kc_model.specs.declared.reply.Answer.TheVariants as answer
use Rattle.kc_model.specs.declared.reply.Reply.{Reply}
use Rattle.kc_model.specs.declared.reply.Reply.TheVariants as reply
use Rattle.kc_run.specs.Kcas.{KcasPastView, OpensAtZero, values_of}
use Rattle.kc_store.specs.Views.{CallerView, StoreView}
use Rattle.kc_text.specs.Meaning.{texts_cells_end, op, text_meaning}
use Rattle.kc_text.specs.Pool.{IsTextOf}
use Rattle.kc_text.specs.declared.operation.TextAct.TheVariants as act
use Rattle.kc_text.specs.declared.texts.Texts.{Texts}
use Rattle.kc_xt.specs.Commit.{Answers}

-- ---- one caller

-- the entries of one pick: the place came to name it, it was leased there, and the lease ended
pub record IsPick (t : Texts) (place pick : ℕ) (name lease back : Entry) : Type 0 where
  pub names : Answers (text_meaning (op t (act.Name place pick))) (answer.Reply reply.Unit) name.footprint
  pub leases : Answers (text_meaning (op t (act.Lease place))) (answer.Reply (reply.Value pick)) lease.footprint
  pub replied : Reply
  pub ends : Answers (text_meaning (op t (act.Return pick))) (answer.Reply replied) back.footprint

-- pick by pick, and no other entry
abbrev pub ArePicks : Texts → (place : ℕ) → List ℕ → List Entry → Type 0
ArePicks t p [] [] = Unit {0}
ArePicks t p [] (e ∷ es) = ⊥
ArePicks t p (k ∷ ks) (a ∷ b ∷ c ∷ es) = IsPick t p k a b c × ArePicks t p ks es
ArePicks t p (k ∷ ks) es = ⊥

-- the caller has the entries of these picks more, and no other
pub record AddsPicks (t : Texts) (p : ℕ) (picks : List ℕ) (c d : CallerView) : Type 0 where
  pub added : List Entry
  pub own : d.own ≡ c.own ++ added
  pub are : ArePicks t p picks added

-- the texts of these numbers, one after another
abbrev pub AreTextsOf : List (List ℕ) → List ℕ → List (List ℕ) → Type 0
AreTextsOf pool [] [] = Unit {0}
AreTextsOf pool [] (x ∷ xs) = ⊥
AreTextsOf pool (k ∷ ks) [] = ⊥
AreTextsOf pool (k ∷ ks) (x ∷ xs) = IsTextOf pool k x × AreTextsOf pool ks xs

-- ---- two callers

-- a store of zeros for these texts and two callers, whose descriptors have all their lives
pub record IsForTwo (t : Texts) (z : StoreView) : Type 0 where
  pub zeros : values_of z ≡ replicate (texts_cells_end t) 0
  pub versions : OpensAtZero z
  pub lives : z.table.origin.generation ≡ 0
  pub locations : z.locations ≡ texts_cells_end t
  pub callers : z.callers ≡ 2

-- the store's caller of this number, which has no entry yet
abbrev pub IsFresh : StoreView → ℕ → CallerView → Type 0
IsFresh z k c = (c.of ≡ z) × (c.number ≡ k) × (c.own ≡ [])

-- where their number is odd, the second half has one more
abbrev pub first_half : List ℕ → List ℕ
first_half picks = take (length picks / 2) picks

abbrev pub second_half : List ℕ → List ℕ
second_half picks = drop (length picks / 2) picks

-- what is left of a store on which two callers read these picks: it opened with zeros, and of its one history, which is legal from them, the first caller has the entries of the first half at place 0, the second those of the rest at place 1, and nobody else has one
pub record IsPastOfPicks (t : Texts) (picks : List ℕ) (p : KcasPastView) : Type 0 where
  pub zeros : p.opening ≡ replicate (texts_cells_end t) 0
  pub legal : IsLegalFrom p.opening p.history
  pub first : ArePicks t 0 (first_half picks) (of_caller 0 p.history)
  pub second : ArePicks t 1 (second_half picks) (of_caller 1 p.history)
  pub nobody_else : IsBelowCallers 2 p.history

-- likewise, of so many texts that lie from location 0 on, with a place for each caller
pub record WereReadByTwo (n : ℕ) (picks : List ℕ) (p : KcasPastView) : Type 0 where
  pub texts : Texts
  pub base : texts.base.0 ≡ 0
  pub places : texts.places ≡ 2
  pub count : texts.texts ≡ n
  pub past : IsPastOfPicks texts picks p
