-- Bytes behind a front.
use Rattle.std.proofs.Common.{◌≡◌, ℕ, List, [], ◌∷◌, ◌++◌, Option, Some, None, refl, sym, ap, ◌∙◌, append_assoc}
use Rattle.std.specs.Borrow.{Bor}
use Rattle.std.specs.Prelude.{MatchOption, codes, decimal}
use Rattle.kc_history.specs.Text.{answer_text}
use Rattle.kc_check.specs.Forms.{IsReply}
use Rattle.kc_check.specs.Reads.{IsNoFront, SaysAnswer}

pub none_longer : (a b bytes : List ℕ) → IsNoFront a bytes → IsNoFront (a ++ b) bytes
none_longer a b bytes h rest e = h (b ++ rest) (e ∙ append_assoc a b rest)

same_rest : (a r q : List ℕ) → a ++ r ≡ a ++ q → r ≡ q
same_rest [] r q e = e
same_rest (x ∷ a) r q e = same_rest a r q (let h : a ++ r ≡ a ++ q = cc in h)

-- behind a front that is there
pub then_front : (a b bytes after : List ℕ) (o : Option (Bor (List ℕ))) → bytes ≡ a ++ after → MatchOption o (IsNoFront b after) (λ rest. after ≡ b ++ rest.now) → MatchOption o (IsNoFront (a ++ b) bytes) (λ rest. bytes ≡ (a ++ b) ++ rest.now)
then_front a b bytes after None e h = λ rest f. h rest (same_rest a after (b ++ rest) (sym e ∙ f ∙ append_assoc a b rest))
then_front a b bytes after (Some x) e h = e ∙ ap (λ (z : List ℕ). a ++ z) h ∙ sym (append_assoc a b x.now)

-- ---- a reply line

module _ (thread number : ℕ) where
  first_part : List ℕ
  first_part = decimal thread ++ codes "."

  second_part : List ℕ
  second_part = decimal number ++ codes " "

  -- a reply line, in its parts
  pub reply_parts : (line : List ℕ) (r : IsReply thread number line) → line ≡ (decimal thread ++ codes ".") ++ ((decimal number ++ codes " ") ++ (answer_text r.says ++ codes "\n"))
  reply_parts line r = r.spelled ∙ simp append_assoc

  pub no_first : (line : List ℕ) → IsNoFront (decimal thread ++ codes ".") line → IsReply thread number line → ⊥
  no_first line none r = none ((decimal number ++ codes " ") ++ (answer_text r.says ++ codes "\n")) (reply_parts line r)

  pub no_second : (line rest : List ℕ) → line ≡ (decimal thread ++ codes ".") ++ rest → IsNoFront (decimal number ++ codes " ") rest → IsReply thread number line → ⊥
  no_second line rest e none r = none (answer_text r.says ++ codes "\n") (same_rest (decimal thread ++ codes ".") rest ((decimal number ++ codes " ") ++ (answer_text r.says ++ codes "\n")) (sym e ∙ reply_parts line r))

  pub last_part : (line rest more : List ℕ) → line ≡ (decimal thread ++ codes ".") ++ rest → rest ≡ (decimal number ++ codes " ") ++ more → (r : IsReply thread number line) → more ≡ answer_text r.says ++ codes "\n"
  last_part line rest more e f r = same_rest (decimal number ++ codes " ") more (answer_text r.says ++ codes "\n") (same_rest (decimal thread ++ codes ".") ((decimal number ++ codes " ") ++ more) ((decimal number ++ codes " ") ++ (answer_text r.says ++ codes "\n")) (ap (λ (z : List ℕ). (decimal thread ++ codes ".") ++ z) (sym f) ∙ sym e ∙ reply_parts line r))

  pub is_reply : (line rest more text : List ℕ) → line ≡ (decimal thread ++ codes ".") ++ rest → rest ≡ (decimal number ++ codes " ") ++ more → more ≡ text ++ codes "\n" → SaysAnswer text → IsReply thread number line
  is_reply line rest more text e f g (a, fits, is) = record {
    says = a;
    fits = fits;
    spelled = e ∙ ap (λ (z : List ℕ). (decimal thread ++ codes ".") ++ z) (f ∙ ap (λ (z : List ℕ). (decimal number ++ codes " ") ++ z) (g ∙ ap (λ (z : List ℕ). z ++ codes "\n") is)) ∙ simp append_assoc;
  }

  same_text : (xs ys : List ℕ) (c : ℕ) → xs ++ c ∷ [] ≡ ys ++ c ∷ [] → xs ≡ ys
  same_text xs ys c e = append_cancel xs ys c e
    where
      longer : (x : ℕ) (zs : List ℕ) (c : ℕ) → [] ≡ (x ∷ zs) ++ c ∷ [] → ⊥
      longer x zs c h = cc h

      empty_or : (zs : List ℕ) (c : ℕ) → [] ≡ zs ++ c ∷ [] → ⊥
      empty_or [] c h = cc h
      empty_or (z ∷ zs) c h = cc h

      append_cancel : (xs ys : List ℕ) (c : ℕ) → xs ++ c ∷ [] ≡ ys ++ c ∷ [] → xs ≡ ys
      append_cancel [] [] c e = refl
      append_cancel [] (y ∷ ys) c e = absurd (empty_or ys c (let h : [] ≡ ys ++ c ∷ [] = cc in h))
      append_cancel (x ∷ xs) [] c e = absurd (empty_or xs c (let h : [] ≡ xs ++ c ∷ [] = cc in h))
      append_cancel (x ∷ xs) (y ∷ ys) c e = let h : x ≡ y = cc in let k = append_cancel xs ys c (let j : xs ++ c ∷ [] ≡ ys ++ c ∷ [] = cc in j) in cc

  pub reply_says : (line rest more text : List ℕ) → line ≡ (decimal thread ++ codes ".") ++ rest → rest ≡ (decimal number ++ codes " ") ++ more → more ≡ text ++ codes "\n" → IsReply thread number line → SaysAnswer text
  reply_says line rest more text e f g r = (r.says, r.fits, same_text text (answer_text r.says) 10 (sym g ∙ last_part line rest more e f r))
