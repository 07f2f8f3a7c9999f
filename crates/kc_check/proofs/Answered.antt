-- What an answer says.
use Rattle.std.proofs.Common.{◌≡◌, ℕ, zero, suc, ◌||◌, Bool, true, false, List, [], ◌∷◌, All, refl, arith}
use Rattle.std.specs.Prelude.{codes}
use Rattle.kc_history.specs.Text.{answer_text, item_text}
use Rattle.kc_model.specs.declared.reply.Item.{Item}
use Rattle.kc_model.specs.declared.reply.Item.TheVariants as item
use Rattle.kc_model.specs.declared.reply.Reply.TheVariants as reply
use Rattle.kc_model.specs.declared.reply.Answer.{Answer}
use Rattle.kc_model.specs.declared.reply.Answer.TheVariants as answer
use Rattle.kc_check.proofs.Worded.{says_one}
use Rattle.kc_script_small.specs.Small.{AnswerFits, ItemFits}
use Rattle.kc_check.specs.Reads.{SayItems, SaysAnswer}

or_first : (a b : Bool) → a ≡ true → (a || b) ≡ true
or_first true b e = refl
or_first false b e = absurd (cc)

or_second : (a b : Bool) → b ≡ true → (a || b) ≡ true
or_second true b e = refl
or_second false b e = e

each_fits : (i : Item) (items : List Item) → ItemFits i → All ItemFits items → All ItemFits (i ∷ items)
each_fits i items h k zero d lt = h
each_fits i items h k (suc j) d lt = k j d (omega arith)

-- an answer says one of four words, or items
one_item : (text : List ℕ) (i : Item) → ItemFits i → text ≡ item_text i → SayItems 16 text
one_item text i fits e = says_one 16 text (omega arith) (i, fits, e)

pub says_answer : (text : List ℕ) (a x b c d : Bool) → (a ≡ true → text ≡ codes "stranded") × (text ≡ codes "stranded" → a ≡ true) → (x ≡ true → text ≡ codes "cancelled") × (text ≡ codes "cancelled" → x ≡ true) → (b ≡ true → text ≡ codes "toolarge") × (text ≡ codes "toolarge" → b ≡ true) → (c ≡ true → text ≡ codes "-") × (text ≡ codes "-" → c ≡ true) → (d ≡ true → SayItems 16 text) × (SayItems 16 text → d ≡ true)
    → ((a || x || b || c || d) ≡ true → SaysAnswer text) × (SaysAnswer text → (a || x || b || c || d) ≡ true)
says_answer text a x b c d h z k l m = (there a x b c d h z k l m, λ (y, fits, is). back y fits is)
  where
    there : (a x b c d : Bool) → (a ≡ true → text ≡ codes "stranded") × (text ≡ codes "stranded" → a ≡ true) → (x ≡ true → text ≡ codes "cancelled") × (text ≡ codes "cancelled" → x ≡ true) → (b ≡ true → text ≡ codes "toolarge") × (text ≡ codes "toolarge" → b ≡ true) → (c ≡ true → text ≡ codes "-") × (text ≡ codes "-" → c ≡ true) → (d ≡ true → SayItems 16 text) × (SayItems 16 text → d ≡ true) → (a || x || b || c || d) ≡ true → SaysAnswer text
    there true x b c d h z k l m t = (answer.Reply reply.Stranded, tt, h.0 refl)
    there false true b c d h z k l m t = (answer.Reply reply.Cancelled, tt, z.0 refl)
    there false false true c d h z k l m t = (answer.TooLarge, tt, k.0 refl)
    there false false false true d h z k l m t = (answer.Reply (reply.Many []), (omega arith, λ j e lt. absurd (omega arith)), l.0 refl)
    there false false false false d h z k l m t = let s = m.0 t in (answer.Reply (reply.Many (s.first ∷ s.others)), ((let few = s.few in omega arith), each_fits s.first s.others s.fits s.fit), s.spelled)

    items : SayItems 16 text → (a || x || b || c || d) ≡ true
    items s = or_second (a || x || b || c) d (m.1 s)

    back : (y : Answer) → AnswerFits y → text ≡ answer_text y → (a || x || b || c || d) ≡ true
    back (answer.Reply reply.Unit) fits is = items (one_item text item.Unit tt is)
    back (answer.Reply (reply.Value n)) fits is = items (one_item text (item.Value n) fits is)
    back (answer.Reply (reply.Bool true)) fits is = items (one_item text (item.Bool true) tt is)
    back (answer.Reply (reply.Bool false)) fits is = items (one_item text (item.Bool false) tt is)
    back (answer.Reply reply.Empty) fits is = items (one_item text item.Empty tt is)
    back (answer.Reply reply.Full) fits is = items (one_item text item.Full tt is)
    back (answer.Reply reply.Stranded) fits is = or_first (a || x || b || c) d (or_first (a || x || b) c (or_first (a || x) b (or_first a x (h.1 is))))
    back (answer.Reply reply.Cancelled) fits is = or_first (a || x || b || c) d (or_first (a || x || b) c (or_first (a || x) b (or_second a x (z.1 is))))
    back (answer.Reply (reply.Many [])) fits is = or_first (a || x || b || c) d (or_second (a || x || b) c (l.1 is))
    back (answer.Reply (reply.Many (i ∷ is))) fits e = items (record { first = i; others = is; fits = fits.1 zero i (omega arith); fit = λ j e lt. fits.1 (suc j) e (omega arith); few = (let few = fits.0 in omega arith); spelled = e })
    back answer.TooLarge fits is = or_first (a || x || b || c) d (or_first (a || x || b) c (or_second (a || x) b (k.1 is)))
