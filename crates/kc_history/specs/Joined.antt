-- Heads and footprints that lie apart.
use Rattle.std.specs.Prelude.{List, [], ◌∷◌}
use Rattle.kc_history.specs.declared.record.Head.{Head}
use Rattle.kc_history.specs.declared.record.Mark.TheVariants as mark
use Rattle.kc_history.specs.declared.record.Record.{Record}
use Rattle.kc_model.specs.declared.footprint.Footprint.{Footprint}
use Rattle.kc_model.specs.declared.reply.Answer.TheVariants as answer
use Rattle.kc_model.specs.declared.reply.Reply.TheVariants as reply

abbrev pub record_of : Head → Footprint → Record
record_of h f = record { thread = h.thread; mark = h.mark; answer = h.answer; footprint = f }

-- the head of a record of which the footprint alone is kept
abbrev pub blank_head : Head
blank_head = record { thread = 0; mark = mark.End; answer = answer.Reply reply.Unit }

-- a record for each footprint, with the head at its place, and behind the heads with the blank one
abbrev pub joined_records : List Head → List Footprint → List Record
joined_records hs [] = []
joined_records [] (f ∷ fs) = record_of blank_head f ∷ joined_records [] fs
joined_records (h ∷ hs) (f ∷ fs) = record_of h f ∷ joined_records hs fs
