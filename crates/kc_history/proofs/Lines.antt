-- Items, the first and the others; the line of a record by its head.
use Rattle.std.proofs.Common.{◌≡◌, ℕ, zero, suc, ◌+◌, List, [], ◌∷◌, Some, drop, refl, ap, ◌∙◌, arith}
use Rattle.std.specs.List.{flat_map}
use Rattle.std.specs.Option.{option_map}
use Rattle.std.specs.Prelude.{slice_get, ◌++◌}
use Rattle.kc_history.proofs.Choice.{some_is}
use Rattle.kc_history.specs.Records.{head_in}
use Rattle.kc_history.specs.Text.{bare_record, item_text, spaced_items, items_text, reply_line}
use Rattle.kc_history.specs.declared.record.Head.{Head}
use Rattle.kc_history.specs.declared.record.Mark.{Mark}
use Rattle.kc_history.specs.declared.record.Mark.TheVariants as mark
use Rattle.kc_history.specs.declared.record.Record.{Record}
use Rattle.kc_model.specs.declared.reply.Item.{Item}

-- the text of items is the first one's, and then the others'
pub first_item : (items : List Item) (i : Item) → slice_get items 0 ≡ Some i → item_text i ++ spaced_items (drop 1 items) ≡ items_text items
first_item [] i e = absurd (cc)
first_item (j ∷ items) i e = let h : i ≡ j = cc in ap (λ (x : Item). item_text x ++ spaced_items items) h

-- the line of a record is that of its head
pub head_reply : (rs : List Record) (k : ℕ) (h : Head) → option_map head_in (slice_get rs k) ≡ Some h → flat_map reply_line (drop k rs) ≡ reply_line (bare_record h) ++ flat_map reply_line (drop (k + 1) rs)
head_reply [] k h is = absurd (cc)
head_reply (r ∷ rs) zero h is = ap (λ xs. xs ++ flat_map reply_line rs) (same r.mark refl ∙ ap (λ (g : Head). reply_line (bare_record g)) (some_is (head_in r) h is))
  where
    same : (m : Mark) → r.mark ≡ m → reply_line r ≡ reply_line (bare_record (head_in r))
    same (mark.Command n) e = rw e refl
    same mark.End e = rw e refl
head_reply (r ∷ rs) (suc k) h is = head_reply rs k h is ∙ ap (λ n. reply_line (bare_record h) ++ flat_map reply_line (drop n (r ∷ rs))) (let e : suc (k + 1) ≡ suc k + 1 = omega arith in e)
