-- Numbers of 32 bits, and answers that have no others and are not too long.
use Rattle.std.specs.Prelude.{◌≡◌, ℕ, ◌^◌, ◌<◌, ◌≤◌, List, All, Some, length}
use Rattle.kc_history.specs.Records.{record_at}
use Rattle.kc_history.specs.declared.record.Record.{Record}
use Rattle.kc_model.specs.declared.reply.Answer.{Answer}
use Rattle.kc_model.specs.declared.reply.Answer.TheVariants as answer
use Rattle.kc_model.specs.declared.reply.Item.{Item}
use Rattle.kc_model.specs.declared.reply.Item.TheVariants as item
use Rattle.kc_model.specs.declared.reply.Reply.TheVariants as reply

-- a location can hold it
abbrev pub IsSmall : ℕ → Type 0
IsSmall n = n < 2 ^ 32

abbrev pub ItemFits : Item → Type 0
ItemFits (item.Value n) = IsSmall n
ItemFits other = Unit {0}

-- the answer's numbers are such as a location holds, and it has at most 16 items
abbrev pub AnswerFits : Answer → Type 0
AnswerFits (answer.Reply (reply.Value n)) = IsSmall n
AnswerFits (answer.Reply (reply.Many items)) = (length items ≤ 16) × All ItemFits items
AnswerFits other = Unit {0}

-- each record's answer does
abbrev pub AllAnswersFit : List (List Record) → Type 0
AllAnswersFit records = (thread index : ℕ) (r : Record) → record_at records thread index ≡ Some r → AnswerFits r.answer
