-- No two entries begin one life.
use Rattle.std.proofs.Common.{◌≡◌, ℕ, ◌≤◌, List, [], ◌∷◌, ◌++◌, Some, arith}
use Rattle.std.specs.Prelude.{All}
use Rattle.std.proofs.lemmas.List.Elements.{All-head, All-tail}
use Rattle.kc_model.specs.Legal.{IsLegal}
use Rattle.kc_model.specs.Store.{Store, after}
use Rattle.kc_model.specs.declared.footprint.Entry.{Entry}
use Rattle.kc_model.specs.declared.reply.Answer.TheVariants as answer
use Rattle.kc_model.specs.declared.reply.Reply.{Reply}
use Rattle.kc_shelf.specs.Meaning.{IsFitShelfAct, IsTicket, life_at, life_of, shelf_op, shelf_meaning, slot_of}
use Rattle.kc_shelf.specs.declared.operation.ShelfAct.{ShelfAct}
use Rattle.kc_shelf.specs.declared.shelf.Shelf.{Shelf}
use Rattle.kc_shelf_laws.proofs.Lives.{begun_by}
use Rattle.kc_shelf_laws.proofs.Turning.{turned_so}
use Rattle.kc_shelf_laws.specs.Lives.{KeepsLives, life_begun}
use Rattle.kc_xt.specs.Commit.{Answers}
use Rattle.kc_xt.specs.Meaning.{values}

abbrev Keeps : Shelf → Entry → Type 0
Keeps t e = KeepsLives t e.footprint

module _ (t : Shelf) (v : ℕ) (ticket : IsTicket t v) (b : ShelfAct) (r : Reply) (fit : IsFitShelfAct t b) (y : Entry) (answers : Answers (shelf_meaning (shelf_op t b)) (answer.Reply r) y.footprint) (begins : life_begun b r ≡ Some v) where
  begun_no_more : (between behind : List Entry) (s e : Store) → IsLegal s (between ++ y ∷ behind) e → All (Keeps t) between → life_of t v ≤ values s (life_at t (slot_of t v)) → ⊥
  begun_no_more [] behind s e legal keep begun =
      let turned = turned_so t b r y.footprint s fit answers legal.0 in
      let below = turned.begins v ticket begins in
      absurd (omega (arith, below, begun))
  begun_no_more (x ∷ xs) behind s e legal keep begun =
      begun_no_more xs behind (after x.footprint s) e legal.1 (All-tail (Keeps t) x xs keep) (begun_by t v ticket (values s) (values (after x.footprint s)) ((All-head (Keeps t) x xs keep).turns s legal.0) begun)

  pub once : (before between behind : List Entry) (x : Entry) (a : ShelfAct) (q : Reply) (s e : Store) → IsLegal s (before ++ x ∷ between ++ y ∷ behind) e → All (Keeps t) between → IsFitShelfAct t a → Answers (shelf_meaning (shelf_op t a)) (answer.Reply q) x.footprint → life_begun a q ≡ Some v → ⊥
  once [] between behind x a q s e legal keep fit answers first =
      let turned = turned_so t a q x.footprint s fit answers legal.0 in
      let is = turned.begun v ticket first in
      begun_no_more between behind (after x.footprint s) e legal.1 keep (omega (arith, is))
  once (z ∷ zs) between behind x a q s e legal keep fit answers first = once zs between behind x a q (after z.footprint s) e legal.1 keep fit answers first
