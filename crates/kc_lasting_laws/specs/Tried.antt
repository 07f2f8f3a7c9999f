-- The tries of a seat, one after another: what they begin, and by whose entries they were lost.
use Rattle.std.specs.Prelude.{◌≡◌, ℕ, suc, ◌+◌, ◌==◌, [], ◌∷◌, if◌then◌else◌}
use Rattle.kc_lasting_laws.specs.Lives.{commits_by}
use Rattle.kc_model.specs.declared.footprint.Footprint.{Footprint}
use Rattle.kc_store.specs.Answers.{Settles}
use Rattle.kc_store.specs.Tries.{Tries}
use Rattle.kc_store.specs.declared.verdict.Verdict.{Verdict}
use Rattle.kc_store.specs.declared.verdict.Verdict.TheVariants as verdict
use Rattle.kc_store.specs.kc_machine_traces.Histories.{History}
use Rattle.kc_store.specs.kc_table_laws.Tasks.{KeepsKnown}
use Rattle.kc_store.specs.kc_table_moves.Views.{SeatView}
use Rattle.kc_xt.specs.Meaning.{Meaning}

-- how many entries of a history are others' than seat k's
abbrev pub others_in : ℕ → History → ℕ
others_in k [] = 0
others_in k (x ∷ h) = (if x.entry.caller == k then 0 else 1) + others_in k h

-- it was lost
abbrev pub one_if_lost : Verdict → ℕ
one_if_lost (verdict.Lost loc version) = 1
one_if_lost (verdict.Done r) = 0
one_if_lost verdict.Later = 0
one_if_lost verdict.TooLarge = 0
one_if_lost (verdict.WornLocation loc) = 0
one_if_lost verdict.WornPool = 0
one_if_lost (verdict.Busy steps) = 0

-- the seat goes on, and begins no commit: it looks, hangs or learns
pub record BeginsNoCommit (v w : SeatView) : Type 0 where
  pub keeps : KeepsKnown v w
  pub none : commits_by v.number w.past ≡ commits_by v.number v.past

-- so many tries, of which so many were lost
pub data MakesTries (v : SeatView) : (tries lost : ℕ) → SeatView → Type 0 where
  none : MakesTries v 0 0 v
  rests : (n l : ℕ) (u w : SeatView) → MakesTries v n l u → BeginsNoCommit u w → MakesTries v n l w
  tries : (n l : ℕ) (u w : SeatView) (m : Meaning) (f : Footprint) (a : Verdict) → MakesTries v n l u → Tries m f u w → Settles m a u f w → KeepsKnown u w → MakesTries v (suc n) (one_if_lost a + l) w
