-- The lines of a text that show the records and their order.
use Rattle.std.specs.Prelude.{ℕ, List, [], ◌∷◌, ◌++◌, Option, Some, None, true, false, decimal, codes}
use Rattle.std.specs.List.{flat_map}
use Rattle.kc_model.specs.declared.reply.Item.{Item}
use Rattle.kc_model.specs.declared.reply.Item.TheVariants as item
use Rattle.kc_model.specs.declared.reply.Reply.{Reply}
use Rattle.kc_model.specs.declared.reply.Reply.TheVariants as reply
use Rattle.kc_model.specs.declared.reply.Answer.{Answer}
use Rattle.kc_model.specs.declared.reply.Answer.TheVariants as answer
use Rattle.kc_history.specs.Joined.{record_of}
use Rattle.kc_history.specs.Kept.{print}
use Rattle.kc_history.specs.declared.record.Head.{Head}
use Rattle.kc_history.specs.declared.record.Mark.{Mark}
use Rattle.kc_history.specs.declared.record.Mark.TheVariants as mark
use Rattle.kc_history.specs.Records.{record_at}
use Rattle.kc_history.specs.declared.record.Place.{Place}
use Rattle.kc_history.specs.declared.record.Record.{Record}

abbrev pub item_text : Item → List ℕ
item_text item.Unit = codes "ok"
item_text (item.Value n) = decimal n
item_text (item.Bool true) = codes "true"
item_text (item.Bool false) = codes "false"
item_text item.Empty = codes "none"
item_text item.Full = codes "full"

-- a space before each
abbrev pub spaced_items : List Item → List ℕ
spaced_items items = flat_map (λ i. codes " " ++ item_text i) items

-- one space between them, and a dash where there is none
abbrev pub items_text : List Item → List ℕ
items_text [] = codes "-"
items_text (i ∷ items) = item_text i ++ spaced_items items

abbrev pub reply_text : Reply → List ℕ
reply_text reply.Unit = codes "ok"
reply_text (reply.Value n) = decimal n
reply_text (reply.Bool true) = codes "true"
reply_text (reply.Bool false) = codes "false"
reply_text reply.Empty = codes "none"
reply_text reply.Full = codes "full"
reply_text reply.Stranded = codes "stranded"
reply_text reply.Cancelled = codes "cancelled"
reply_text (reply.Many items) = items_text items

abbrev pub answer_text : Answer → List ℕ
answer_text (answer.Reply r) = reply_text r
answer_text answer.TooLarge = codes "toolarge"

abbrev pub mark_text : Mark → List ℕ
mark_text (mark.Command n) = decimal n
mark_text mark.End = codes "end"

-- the thread and what the record is of
abbrev pub label_text : Record → List ℕ
label_text r = decimal r.thread ++ codes "." ++ mark_text r.mark

-- what a head says, as a record of nothing
abbrev pub bare_record : Head → Record
bare_record h = record_of h (print [] [])

-- an end has no reply line
abbrev pub marked_reply : Mark → Record → List ℕ
marked_reply (mark.Command n) r = label_text r ++ codes " " ++ answer_text r.answer ++ codes "\n"
marked_reply mark.End r = []

abbrev pub reply_line : Record → List ℕ
reply_line r = marked_reply r.mark r

-- the replies, thread by thread
abbrev pub reply_lines : List (List Record) → List ℕ
reply_lines records = flat_map (flat_map reply_line) records

abbrev pub order_line : Option Record → List ℕ
order_line None = []
order_line (Some r) = label_text r ++ codes "\n"

-- the records in an order
abbrev pub order_lines : List (List Record) → List Place → List ℕ
order_lines records places = flat_map (λ p. order_line (record_at records p.thread p.index)) places

-- the replies, and then the order
abbrev pub records_text : List (List Record) → List Place → List ℕ
records_text records places = reply_lines records ++ codes "order\n" ++ order_lines records places
