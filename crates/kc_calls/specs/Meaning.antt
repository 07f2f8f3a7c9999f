-- What C's operations mean, as one transaction.
use Rattle.std.specs.Prelude.{◌≡◌, ℕ, zero, suc, ◌==◌, ◌≤◌, ⊤, List, [], ◌∷◌, ◌++◌, if◌then◌else◌, length, take, drop, Option, Some, None}
use Rattle.kc_calls.specs.Cut.{cut}
use Rattle.kc_calls.specs.Fed.{MayBeFed, fed}
use Rattle.kc_calls.specs.Said.{call_said}
use Rattle.kc_calls.specs.declared.call.Call.{Call}
use Rattle.kc_calls.specs.declared.call.Call.TheVariants as call
use Rattle.kc_calls.specs.declared.calls.TheConstants.{MOST_CALLS}
use Rattle.kc_calls.specs.declared.operation.KcasOp.{KcasOp}
use Rattle.kc_calls.specs.declared.verbs.TheConstants.{FED_BOTH}
use Rattle.kc_model.specs.declared.plain_store.TheConstants.{MOST_LOCATIONS}
use Rattle.kc_model.specs.declared.reply.Item.{Item}
use Rattle.kc_model.specs.declared.reply.Reply.TheVariants as reply
use Rattle.kc_compose.specs.Meaning.{wait_meaning}
use Rattle.kc_compose.specs.declared.sort.Sort.TheVariants.{Full}
use Rattle.kc_script_bundle.specs.Meaning.{op_meaning, op_end, OpIsFit}
use Rattle.kc_term.specs.Fit.{Each}
use Rattle.kc_term.specs.Meaning.{greatest_end, items_of}
use Rattle.kc_xt.specs.Meaning.{Meaning, first_meaning, then_meaning}
use Rattle.kc_xt.specs.Program.{replies, retries, meaning}

-- ---- one operation

abbrev pub call_meaning : Call → Meaning
call_meaning (call.Say n) = meaning (replies (reply.Value n))
call_meaning (call.Act o) = op_meaning o
call_meaning (call.WaitForRoom o) = wait_meaning Full (op_meaning o)

-- a number above its locations
abbrev pub call_end : Call → ℕ
call_end (call.Say n) = 0
call_end (call.Act o) = op_end o
call_end (call.WaitForRoom o) = op_end o

abbrev pub CallIsFit : Call → Type 0
CallIsFit (call.Say n) = ⊤
CallIsFit (call.Act o) = OpIsFit o
CallIsFit (call.WaitForRoom o) = OpIsFit o

-- what C says may be none, and is not run then
abbrev pub meaning_said : Option Call → Meaning
meaning_said (Some c) = call_meaning c
meaning_said None = meaning retries

abbrev pub end_said : Option Call → ℕ
end_said (Some c) = call_end c
end_said None = 0

abbrev pub FitIfSaid : Option Call → Type 0
FitIfSaid (Some c) = CallIsFit c
FitIfSaid None = ⊥

abbrev pub said_meaning : KcasOp → Meaning
said_meaning o = meaning_said (call_said o)

abbrev pub said_end : KcasOp → ℕ
said_end o = end_said (call_said o)

abbrev pub SaidIsFit : KcasOp → Type 0
SaidIsFit o = FitIfSaid (call_said o)

-- it says an operation on cells below this number, has a mark that there is, and is fed no location, function or relation
abbrev pub IsOperation : ℕ → KcasOp → Type 0
IsOperation locations o = (o.mark ≤ FED_BOTH) × MayBeFed o × (c : Call) × (call_said o ≡ Some c) × (call_end c ≤ locations)

-- ---- all of them

-- an operation; where it was to be fed what is no number, it does nothing, and replies that there is nothing
abbrev pub meaning_fed : Option KcasOp → Meaning
meaning_fed (Some o) = said_meaning o
meaning_fed None = meaning (replies reply.Empty)

-- one after another, behind some that replied these items; the reply has an item for each
abbrev pub row_behind : List KcasOp → List Item → Meaning
row_behind [] items = meaning (replies (reply.Many items))
row_behind (o ∷ os) items = then_meaning (meaning_fed (fed items o)) (λ a. row_behind os (items ++ items_of a))

abbrev pub row_meaning : List KcasOp → Meaning
row_meaning os = row_behind os []

-- the first alternative, and where it would wait those behind it, so many at most
unfoldable pub alternatives_meaning : ℕ → List KcasOp → Meaning
alternatives_meaning zero os = row_meaning os
alternatives_meaning (suc n) os = if cut os == length os then row_meaning os else first_meaning (row_meaning (take (cut os) os)) (alternatives_meaning n (drop (cut os) os))

-- one operation is itself
abbrev pub calls_meaning : List KcasOp → Meaning
calls_meaning (o ∷ []) = said_meaning o
calls_meaning os = alternatives_meaning 3 os

abbrev pub calls_end : List KcasOp → ℕ
calls_end os = greatest_end said_end os

-- not too many, each an operation of the largest store
pub record CallsAreFit (os : List KcasOp) : Type 0 where
  pub few : length os ≤ MOST_CALLS
  pub each : Each (IsOperation MOST_LOCATIONS) os
