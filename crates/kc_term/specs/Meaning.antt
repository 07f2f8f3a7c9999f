-- What a term means.
use Rattle.std.specs.Prelude.{ℕ, max, List, [], ◌∷◌, ◌++◌}
use Rattle.kc_model.specs.declared.reply.Item.{Item}
use Rattle.kc_model.specs.declared.reply.Item.TheVariants as item
use Rattle.kc_model.specs.declared.reply.Reply.{Reply}
use Rattle.kc_model.specs.declared.reply.Reply.TheVariants as reply
use Rattle.kc_term.specs.Tree.{Tree, Trees, op, seq, first, none, more}
use Rattle.kc_xt.specs.Meaning.{Meaning, then_meaning, first_meaning}
use Rattle.kc_xt.specs.Program.{replies, meaning}

-- the items of a reply
abbrev pub items_of : Reply → List Item
items_of reply.Unit = item.Unit ∷ []
items_of (reply.Value v) = item.Value v ∷ []
items_of (reply.Bool b) = item.Bool b ∷ []
items_of reply.Empty = item.Empty ∷ []
items_of reply.Full = item.Full ∷ []
items_of reply.Stranded = []
items_of reply.Cancelled = []
items_of (reply.Many items) = items

-- By the meanings of its operations. A sequence replies the items of its parts, behind the items so far.
abbrev mutual
  pub term_meaning : {O : Type 0} → (O → Meaning) → Tree O → Meaning
  term_meaning mean (op o) = mean o
  term_meaning mean (seq ts) = parts_meaning mean ts []
  term_meaning mean (first a b) = first_meaning (term_meaning mean a) (term_meaning mean b)

  pub parts_meaning : {O : Type 0} → (O → Meaning) → Trees O → List Item → Meaning
  parts_meaning mean none items = meaning (replies (reply.Many items))
  parts_meaning mean (more t ts) items = then_meaning (term_meaning mean t) (λ a. parts_meaning mean ts (items ++ items_of a))

-- the greatest end of operations
abbrev pub greatest_end : {O : Type 0} → (O → ℕ) → List O → ℕ
greatest_end end [] = 0
greatest_end end (o ∷ os) = max (end o) (greatest_end end os)
