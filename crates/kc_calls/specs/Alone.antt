-- One operation alone, on one location.
use Rattle.std.specs.Prelude.{◌≡◌, ℕ, ◌==◌, ◌≤◌, Bool, true, false, List, [], ◌∷◌, length}
use Rattle.kc_calls.specs.Meaning.{calls_end, calls_meaning}
use Rattle.kc_calls.specs.Operations.{AreOperations}
use Rattle.kc_calls.specs.declared.operation.KcasOp.{KcasOp}
use Rattle.kc_loc.specs.Meaning.{LocIsFit, loc_end, loc_meaning}
use Rattle.kc_loc.specs.declared.operation.LocOp.{LocOp}
use Rattle.kc_loc.specs.declared.operation.LocOp.TheVariants as loc
use Rattle.kc_model.specs.declared.footprint.Seen.{Seen}
use Rattle.kc_model.specs.declared.reply.Reply.{Reply}
use Rattle.kc_model.specs.declared.reply.Reply.TheVariants as reply

abbrev pub has_one_location : LocOp → Bool
has_one_location (loc.Swap a b) = false
has_one_location _ = true

-- what it replies, where it does and reads this value
abbrev pub reply_on : LocOp → ℕ → Reply
reply_on (loc.Get l) v = reply.Value v
reply_on (loc.Set l new) v = reply.Unit
reply_on (loc.Exchange l new) v = reply.Value v
reply_on (loc.Swap a b) v = reply.Unit
reply_on (loc.Cas l before after) v = reply.Bool (v == before)
reply_on (loc.FetchAdd l n) v = reply.Value v
reply_on (loc.Incr l) v = reply.Unit
reply_on (loc.Decr l) v = reply.Unit
reply_on (loc.Update l f) v = reply.Value v
reply_on (loc.Modify l f) v = reply.Unit
reply_on (loc.Check l r n) v = reply.Unit

-- the value of the first of these reads
abbrev pub first_value : List Seen → ℕ
first_value [] = 0
first_value (r ∷ rs) = r.value

-- these are operations of a transaction, and are this one
pub record IsAlone (locations : ℕ) (ops : List KcasOp) (o : LocOp) : Type 0 where
  pub are : AreOperations locations ops
  pub count : length ops ≡ 1
  pub meaning : calls_meaning ops ≡ loc_meaning o
  pub end : calls_end ops ≡ loc_end o
  pub fit : LocIsFit o
  pub within : loc_end o ≤ locations
  pub one : has_one_location o ≡ true
