-- What an item says.
use Rattle.std.proofs.Common.{◌≡◌, ℕ, ◌||◌, Bool, true, false, List, refl, sym, ◌∙◌}
use Rattle.std.proofs.lemmas.Bool.Decides.{Decides-eqb}
use Rattle.std.proofs.lemmas.Slice.Eq.{slice_eq-Decides}
use Rattle.std.specs.Cmp.Lexicographic.{pointwise}
use Rattle.std.specs.Prelude.{codes, nat_eq}
use Rattle.kc_history.specs.Text.{item_text}
use Rattle.kc_model.specs.declared.reply.Item.{Item}
use Rattle.kc_model.specs.declared.reply.Item.TheVariants as item
use Rattle.kc_script_small.specs.Small.{ItemFits}
use Rattle.kc_check.specs.Reads.{IsPlainNumber, SaysItem}

-- one of the words, or a number
pub record IsOneOf (word : List ℕ) (a b c d e f : Bool) : Type 0 where
  pub ok : (a ≡ true → word ≡ codes "ok") × (word ≡ codes "ok" → a ≡ true)
  pub yes : (b ≡ true → word ≡ codes "true") × (word ≡ codes "true" → b ≡ true)
  pub no : (c ≡ true → word ≡ codes "false") × (word ≡ codes "false" → c ≡ true)
  pub none : (d ≡ true → word ≡ codes "none") × (word ≡ codes "none" → d ≡ true)
  pub full : (e ≡ true → word ≡ codes "full") × (word ≡ codes "full" → e ≡ true)
  pub number : (f ≡ true → IsPlainNumber word) × (IsPlainNumber word → f ≡ true)

or_left : (a b : Bool) → a ≡ true → (a || b) ≡ true
or_left true b e = refl
or_left false b e = absurd (cc)

or_right : (a b : Bool) → b ≡ true → (a || b) ≡ true
or_right true b e = refl
or_right false b e = e

pub says_item : (word : List ℕ) (a b c d e f : Bool) → IsOneOf word a b c d e f → ((a || b || c || d || e || f) ≡ true → SaysItem word) × (SaysItem word → (a || b || c || d || e || f) ≡ true)
says_item word a b c d e f h = (there a b c d e f h, λ (i, fits, is). back a b c d e f h i fits is)
  where
    there : (a b c d e f : Bool) → IsOneOf word a b c d e f → (a || b || c || d || e || f) ≡ true → SaysItem word
    there true b c d e f h t = (item.Unit, tt, h.ok.0 refl)
    there false true c d e f h t = (item.Bool true, tt, h.yes.0 refl)
    there false false true d e f h t = (item.Bool false, tt, h.no.0 refl)
    there false false false true e f h t = (item.Empty, tt, h.none.0 refl)
    there false false false false true f h t = (item.Full, tt, h.full.0 refl)
    there false false false false false f h t = let (n, small, is) = h.number.0 t in (item.Value n, small, is)

    back : (a b c d e f : Bool) → IsOneOf word a b c d e f → (i : Item) → ItemFits i → word ≡ item_text i → (a || b || c || d || e || f) ≡ true
    back a b c d e f h item.Unit fits is = or_left (a || b || c || d || e) f (or_left (a || b || c || d) e (or_left (a || b || c) d (or_left (a || b) c (or_left a b (h.ok.1 is)))))
    back a b c d e f h (item.Bool true) fits is = or_left (a || b || c || d || e) f (or_left (a || b || c || d) e (or_left (a || b || c) d (or_left (a || b) c (or_right a b (h.yes.1 is)))))
    back a b c d e f h (item.Bool false) fits is = or_left (a || b || c || d || e) f (or_left (a || b || c || d) e (or_left (a || b || c) d (or_right (a || b) c (h.no.1 is))))
    back a b c d e f h item.Empty fits is = or_left (a || b || c || d || e) f (or_left (a || b || c || d) e (or_right (a || b || c) d (h.none.1 is)))
    back a b c d e f h item.Full fits is = or_left (a || b || c || d || e) f (or_right (a || b || c || d) e (h.full.1 is))
    back a b c d e f h (item.Value n) fits is = or_right (a || b || c || d || e) f (h.number.1 (n, fits, is))

-- a test against a word
pub is_word : (word text wanted : List ℕ) (r : Bool) → r ≡ pointwise nat_eq word text → text ≡ wanted → (r ≡ true → word ≡ wanted) × (word ≡ wanted → r ≡ true)
is_word word text wanted r e f =
    let d = slice_eq-Decides Decides-eqb word text r e in
    (λ t. d.0 t ∙ f, λ h. d.1 (h ∙ sym f))
