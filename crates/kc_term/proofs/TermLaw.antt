-- The law of a term, from the laws of its parts.
use Rattle.std.proofs.Common.{◌≡◌, ℕ, ◌≤◌, List, [], ◌∷◌, ◌++◌, length, sym, ap, ◌∙◌, subst, arith}
use Rattle.std.specs.Prelude.{Option, Some, None, Result, Ok, Err, IfOk}
use Rattle.std.proofs.lemmas.Bool.Decides.{nat_tests}
use Rattle.kc_model.specs.declared.footprint.Seen.{Seen}
use Rattle.kc_model.specs.declared.plain_store.Cell.{Cell}
use Rattle.kc_model.specs.declared.reply.Item.{Item}
use Rattle.kc_model.specs.declared.reply.Reply.{Reply}
use Rattle.kc_model.specs.declared.reply.Reply.TheVariants as reply
use Rattle.kc_model.specs.Store.{Store, zero_cell}
use Rattle.kc_term.specs.Meaning.{items_of, term_meaning, parts_meaning}
use Rattle.kc_term.specs.Tree.{Tree, Trees, none, more}
use Rattle.kc_xt.proofs.Chain.{does_reply}
use Rattle.kc_xt.proofs.Composed.{obeys_then, obeys_then_stops}
use Rattle.kc_xt.proofs.Laws.{law_of}
use Rattle.kc_xt.specs.Law.{Obeys}
use Rattle.kc_xt.specs.Lines.{seen_at, Agrees, overlaid, locations}
use Rattle.kc_xt.specs.Log.{Log}
use Rattle.kc_xt.specs.Meaning.{replied, retried, Meaning}
use Rattle.kc_xt.specs.Peeks.{Gives}
use Rattle.kc_xt.specs.Single.{RepliesOne}
use Rattle.kc_xt.specs.Structure.{RepliesOneItem}
use Rattle.kc_model.specs.declared.footprint.Line.{Line}
use Rattle.kc_xt.specs.declared.stop.Stop.{Stop}

replied≢retried : (a : Reply) → replied a ≡ retried → ⊥
replied≢retried a e = cc

module _ {P : Type 0} {gives : Gives P} (bound : ℕ) {O : Type 0} (mean : O → Meaning) where
  -- nothing is left
  pub obeys_nothing : (items : List Item) (x : Log P) → Obeys gives (parts_meaning mean none items) bound x (Ok (reply.Many items)) x
  obeys_nothing items x = law_of gives (λ k. k (reply.Many items)) bound tt (replied≢retried (reply.Many items)) (Ok (reply.Many items)) does_reply

  -- one part, and the parts behind it
  pub obeys_part : (t : Tree O) (ts : Trees O) (items : List Item) (a : Reply) (x y : Log P) (r : Result Reply Stop) (z : Log P) → Obeys gives (term_meaning mean t) bound x (Ok a) y → Obeys gives (parts_meaning mean ts (items ++ items_of a)) bound y r z → Obeys gives (parts_meaning mean (more t ts) items) bound x r z
  obeys_part t ts items a x y r z h g = obeys_then bound (term_meaning mean t) (λ a. parts_meaning mean ts (items ++ items_of a)) a x y r z h g

  -- a part that stops
  pub obeys_part_stops : (t : Tree O) (ts : Trees O) (items : List Item) (e : Stop) (x z : Log P) → Obeys gives (term_meaning mean t) bound x (Err e) z → Obeys gives (parts_meaning mean (more t ts) items) bound x (Err e) z
  obeys_part_stops t ts items e x z h = obeys_then_stops bound (term_meaning mean t) (λ a. parts_meaning mean ts (items ++ items_of a)) e x z h

-- ---- a reply has one item

-- a store of what a log saw
cell_seen : Option Seen → Cell
cell_seen None = zero_cell
cell_seen (Some e) = record { version = e.version; value = e.value }

store_seen : List Line → Store
store_seen ls l = cell_seen (seen_at ls l)

seen_at-loc : (ls : List Line) (l : ℕ) (e : Seen) → seen_at ls l ≡ Some e → e.loc.0 ≡ l
seen_at-loc [] l e h = cc
seen_at-loc (b ∷ bs) l e h = grind (arith, nat_tests, seen_at-loc bs l e)

agrees-store_seen : (ls : List Line) → Agrees (store_seen ls) ls
unfolding store_seen cell_seen
agrees-store_seen ls l e h =
    ap (λ (o : Option Seen). let s : Seen = record { loc = record { 0 = l }; version = (cell_seen o).version; value = (cell_seen o).value } in s) h
    ∙ ap (λ k. let s : Seen = record { loc = record { 0 = k }; version = e.version; value = e.value } in s) (sym (seen_at-loc ls l e h))

one_item : (a : Reply) → RepliesOne (replied a) → length (items_of a) ≤ 1
one_item reply.Unit h = omega arith
one_item (reply.Value v) h = omega arith
one_item (reply.Bool b) h = omega arith
one_item reply.Empty h = omega arith
one_item reply.Full h = omega arith
one_item reply.Stranded h = absurd h
one_item reply.Cancelled h = absurd h
one_item (reply.Many items) h = absurd h

-- what means a reply of one item answers one
pub answers_one : {P : Type 0} {gives : Gives P} (m : Meaning) (bound : ℕ) (x : Log P) (r : Result Reply Stop) (y : Log P) → RepliesOneItem m → Obeys gives m bound x r y → IfOk r (λ a. length (items_of a) ≤ 1)
answers_one m bound x (Ok a) y one h =
    let s = store_seen y.lines in
    let run = h.law x.limit h.room s (agrees-store_seen y.lines) in
    one_item a (subst RepliesOne run.answer (one x.limit (overlaid s x.lines) (locations x.lines)))
answers_one m bound x (Err e) y one h = tt

pub items_wider : (r : Result Reply Stop) (m n : ℕ) → m ≤ n → IfOk r (λ a. length (items_of a) ≤ m) → IfOk r (λ a. length (items_of a) ≤ n)
items_wider (Ok a) m n le h = omega arith
items_wider (Err e) m n le h = tt
