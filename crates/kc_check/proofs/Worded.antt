-- Items one after another, with a space between them.
use Rattle.std.proofs.Common.{◌≡◌, ◌≢◌, ℕ, zero, suc, ◌+◌, ◌-◌, ◌<◌, ◌≤◌, ◌==◌, ◌&&◌, not, Bool, true, false, List, [], ◌∷◌, ◌++◌, All, length, take, drop, get_or, leb, refl, sym, ap, subst, ◌∙◌, append_assoc, arith}
use Rattle.std.proofs.lemmas.Bool.Decides.{nat_tests}
use Rattle.std.proofs.lemmas.List.{append-nil}
use Rattle.std.specs.List.{list_all}
use Rattle.kc_check.proofs.Walks.{parted}
use Rattle.std.specs.Prelude.{codes}
use Rattle.kc_history.specs.Text.{item_text, items_text, spaced_items}
use Rattle.kc_model.specs.declared.reply.Item.{Item}
use Rattle.kc_model.specs.declared.reply.Item.TheVariants as item
use Rattle.kc_check.proofs.Unique.{decimal_lacks, split_one}
use Rattle.kc_script_small.specs.Small.{ItemFits}
use Rattle.kc_check.specs.Laid.{ByteIsMissing}
use Rattle.kc_check.specs.Reads.{SayItems, SaysItem}

halves_true : (a b : Bool) → (a && b) ≡ true → (a ≡ true) × (b ≡ true)
halves_true true b e = (refl, e)
halves_true false b e = absurd (cc)

both_true : (a b : Bool) → a ≡ true → b ≡ true → (a && b) ≡ true
both_true true b e f = f
both_true false b e f = absurd (cc)

by_test : (bs : List ℕ) → list_all (λ b. not (b == 32)) bs ≡ true → ByteIsMissing 32 bs
by_test [] h = tt
by_test (b ∷ bs) h = let p = halves_true (not (b == 32)) (list_all (λ c. not (c == 32)) bs) h in (far b p.0, by_test bs p.1)
  where
    far : (b : ℕ) → not (b == 32) ≡ true → b ≢ 32
    far b e = λ same. (grind (arith, nat_tests))

item_solid : (i : Item) → ItemFits i → ByteIsMissing 32 (item_text i)
item_solid item.Unit h = by_test (codes "ok") refl
item_solid (item.Value n) h = decimal_lacks 32 n (omega arith) (omega arith)
item_solid (item.Bool true) h = by_test (codes "true") refl
item_solid (item.Bool false) h = by_test (codes "false") refl
item_solid item.Empty h = by_test (codes "none") refl
item_solid item.Full h = by_test (codes "full") refl

no_space : (xs ys : List ℕ) → ByteIsMissing 32 (xs ++ 32 ∷ ys) → ⊥
no_space [] ys h = h.0 refl
no_space (x ∷ xs) ys h = no_space xs ys h.1

-- a first item, a space, and what follows
opened : (i j : Item) (js : List Item) → items_text (i ∷ j ∷ js) ≡ item_text i ++ 32 ∷ items_text (j ∷ js)
opened i j js = ap (λ (z : List ℕ). item_text i ++ z) (append_assoc (codes " ") (item_text j) (spaced_items js))

-- no space: one item
pub one_says : (most : ℕ) (text : List ℕ) → ByteIsMissing 32 text → SayItems most text → (1 ≤ most) × SaysItem text
one_says most text lacks h = by h.others h.few h.spelled
  where
    by : (others : List Item) → length others + 1 ≤ most → text ≡ items_text (h.first ∷ others) → (1 ≤ most) × SaysItem text
    by [] few e = (omega arith, (h.first, h.fits, e ∙ append-nil (item_text h.first)))
    by (j ∷ js) few e = absurd (no_space (item_text h.first) (items_text (j ∷ js)) (subst (ByteIsMissing 32) (e ∙ opened h.first j js) lacks))

pub says_one : (most : ℕ) (text : List ℕ) → 1 ≤ most → SaysItem text → SayItems most text
says_one most text le (i, fits, e) = record { first = i; others = []; fits = fits; fit = λ k d lt. absurd (omega arith); few = omega arith; spelled = e ∙ sym (append-nil (item_text i)) }

-- a space: an item, and the others
pub more_say : (most : ℕ) (text word rest : List ℕ) → text ≡ word ++ 32 ∷ rest → ByteIsMissing 32 word → SayItems most text → (2 ≤ most) × SaysItem word × SayItems (most - 1) rest
more_say most text word rest parted lacks h = by h.others h.fit h.few h.spelled
  where
    by : (others : List Item) → All ItemFits others → length others + 1 ≤ most → text ≡ items_text (h.first ∷ others) → (2 ≤ most) × SaysItem word × SayItems (most - 1) rest
    by [] fit few e = absurd (no_space word rest (subst (ByteIsMissing 32) (sym (append-nil (item_text h.first)) ∙ sym e ∙ parted) (item_solid h.first h.fits)))
    by (j ∷ js) fit few e =
        let on = split_one 32 word (item_text h.first) rest (items_text (j ∷ js)) lacks (item_solid h.first h.fits) (sym parted ∙ e ∙ opened h.first j js) in
        (omega arith, (h.first, h.fits, on.0), record { first = j; others = js; fits = fit zero j (omega arith); fit = λ k d lt. fit (suc k) d (omega arith); few = omega arith; spelled = on.1 })

pub say_more : (most : ℕ) (text word rest : List ℕ) → text ≡ word ++ 32 ∷ rest → 2 ≤ most → SaysItem word → SayItems (most - 1) rest → SayItems most text
say_more most text word rest parted le (i, fits, e) h = record {
  first = i;
  others = h.first ∷ h.others;
  fits = fits;
  fit = λ k d lt. each k d lt;
  few = (let a = h.few in omega arith);
  spelled = parted ∙ ap (λ (z : List ℕ). z ++ 32 ∷ rest) e ∙ ap (λ (z : List ℕ). item_text i ++ 32 ∷ z) h.spelled ∙ sym (opened i h.first h.others);
} where
  each : All ItemFits (h.first ∷ h.others)
  each zero d lt = h.fits
  each (suc k) d lt = h.fit k d (omega arith)

-- ---- how a test of them ends

pub one_ends : (most : ℕ) (text : List ℕ) (b : Bool) → ByteIsMissing 32 text → (b ≡ true → SaysItem text) × (SaysItem text → b ≡ true) → ((leb 1 most && b) ≡ true → SayItems most text) × (SayItems most text → (leb 1 most && b) ≡ true)
one_ends most text b lacks h = (
  λ t. (let p = halves_true (leb 1 most) b t in says_one most text (let le : 1 ≤ most = grind (arith, nat_tests, p.0) in le) (h.0 p.1)),
  λ s. (let q = one_says most text lacks s in both_true (leb 1 most) b (let le : leb 1 most ≡ true = grind (arith, nat_tests, q.0) in le) (h.1 q.1)),
)

module _ (most : ℕ) (text : List ℕ) (end : ℕ) (lt : end < length text) (lacks : ByteIsMissing 32 (take end text)) (space : get_or text end 0 ≡ 32) where
  cut : text ≡ take end text ++ 32 ∷ drop (end + 1) text
  cut = parted text end 0 lt ∙ ap (λ (b : ℕ). take end text ++ b ∷ drop (end + 1) text) space

  pub too_many : most < 2 → (false ≡ true → SayItems most text) × (SayItems most text → false ≡ true)
  too_many few = (λ t. absurd (cc t), λ s. absurd (let q = (more_say most text (take end text) (drop (end + 1) text) cut lacks s).0 in omega arith))

  pub more_ends : 2 ≤ most → (word rest : List ℕ) (a b : Bool) → (a ≡ true → SaysItem word) × (SaysItem word → a ≡ true) → (b ≡ true → SayItems (most - 1) rest) × (SayItems (most - 1) rest → b ≡ true) → word ≡ take end text → rest ≡ drop (end + 1) text → ((a && b) ≡ true → SayItems most text) × (SayItems most text → (a && b) ≡ true)
  more_ends le word rest a b h k e f =
      let here : text ≡ word ++ 32 ∷ rest = cut ∙ ap (λ (z : List ℕ). z ++ 32 ∷ drop (end + 1) text) (sym e) ∙ ap (λ (z : List ℕ). word ++ 32 ∷ z) (sym f) in (
        λ t. (let p = halves_true a b t in say_more most text word rest here le (h.0 p.0) (k.0 p.1)),
        λ s. (let q = more_say most text word rest here (subst (ByteIsMissing 32) (sym e) lacks) s in both_true a b (h.1 q.1) (k.1 q.2)),
      )
