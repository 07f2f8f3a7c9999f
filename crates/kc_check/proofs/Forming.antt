-- Lines that come in their shapes, and the first that doesn't.
use Rattle.std.proofs.Common.{◌≡◌, ◌≢◌, inl, inr, ℕ, zero, suc, ◌+◌, ◌-◌, ◌^◌, ◌<◌, ◌==◌, ◌&&◌, not, Bool, true, false, List, [], ◌∷◌, ◌++◌, All, length, refl, sym, ap, subst, ◌∙◌, append_assoc, arith}
use Rattle.std.proofs.lemmas.Bool.Decides.{nat_tests}
use Rattle.std.proofs.lemmas.List.{append-nil}
use Rattle.std.specs.List.{list_all}
use Rattle.std.specs.Prelude.{codes, decimal, Result, Ok, Err, IfErr}
use Rattle.std.specs.Result.{IsErrAnd}
use Rattle.kc_history.specs.Text.{answer_text, item_text, spaced_items}
use Rattle.kc_model.specs.declared.reply.Item.{Item}
use Rattle.kc_model.specs.declared.reply.Item.TheVariants as item
use Rattle.kc_model.specs.declared.reply.Reply.TheVariants as reply
use Rattle.kc_model.specs.declared.reply.Answer.{Answer}
use Rattle.kc_model.specs.declared.reply.Answer.TheVariants as answer
use Rattle.kc_script_bundle.specs.declared.operation.Command.{Command}
use Rattle.kc_check.proofs.Unique.{decimal_lacks, lacks_append, line_one}
use Rattle.kc_check.specs.Forms.{AreShaped, FailsAt, GoesOverLines, HasShape, IsReply, Shape, answers, thread_shapes}
use Rattle.kc_script_small.specs.Small.{AnswerFits, ItemFits}
use Rattle.kc_check.specs.Laid.{IsLine, ByteIsMissing}
use Rattle.kc_check.specs.Parts.{joined_lines}
use Rattle.kc_check.specs.Reads.{FailsHowever, LacksReply}
use Rattle.kc_check.specs.declared.error.CheckError.{CheckError}
use Rattle.kc_check.specs.declared.error.CheckError.TheVariants as error
use Rattle.kc_check.specs.declared.error.CheckWhy.TheVariants as why

-- ---- a reply line is one line

and_true : (a b : Bool) → (a && b) ≡ true → (a ≡ true) × (b ≡ true)
and_true true b e = (refl, e)
and_true false b e = absurd (cc)

pub lacks_by_test : (bs : List ℕ) → list_all (λ b. not (b == 10)) bs ≡ true → ByteIsMissing 10 bs
lacks_by_test [] h = tt
lacks_by_test (b ∷ bs) h = let p = and_true (not (b == 10)) (list_all (λ c. not (c == 10)) bs) h in (far b p.0, lacks_by_test bs p.1)
  where
    far : (b : ℕ) → not (b == 10) ≡ true → b ≢ 10
    far b e = λ same. (grind (arith, nat_tests))

item_lacks : (i : Item) → ItemFits i → ByteIsMissing 10 (item_text i)
item_lacks item.Unit h = lacks_by_test (codes "ok") refl
item_lacks (item.Value n) h = decimal_lacks 10 n (omega arith) (omega arith)
item_lacks (item.Bool true) h = lacks_by_test (codes "true") refl
item_lacks (item.Bool false) h = lacks_by_test (codes "false") refl
item_lacks item.Empty h = lacks_by_test (codes "none") refl
item_lacks item.Full h = lacks_by_test (codes "full") refl

spaced_lacks : (items : List Item) → All ItemFits items → ByteIsMissing 10 (spaced_items items)
spaced_lacks [] h = tt
spaced_lacks (i ∷ items) h = lacks_append 10 (codes " " ++ item_text i) (spaced_items items) (lacks_append 10 (codes " ") (item_text i) (lacks_by_test (codes " ") refl) (item_lacks i (h zero i (omega arith)))) (spaced_lacks items (λ k d lt. h (suc k) d (omega arith)))

answer_lacks : (a : Answer) → AnswerFits a → ByteIsMissing 10 (answer_text a)
answer_lacks (answer.Reply reply.Unit) h = lacks_by_test (codes "ok") refl
answer_lacks (answer.Reply (reply.Value n)) h = decimal_lacks 10 n (omega arith) (omega arith)
answer_lacks (answer.Reply (reply.Bool true)) h = lacks_by_test (codes "true") refl
answer_lacks (answer.Reply (reply.Bool false)) h = lacks_by_test (codes "false") refl
answer_lacks (answer.Reply reply.Empty) h = lacks_by_test (codes "none") refl
answer_lacks (answer.Reply reply.Full) h = lacks_by_test (codes "full") refl
answer_lacks (answer.Reply reply.Stranded) h = lacks_by_test (codes "stranded") refl
answer_lacks (answer.Reply reply.Cancelled) h = lacks_by_test (codes "cancelled") refl
answer_lacks (answer.Reply (reply.Many [])) h = lacks_by_test (codes "-") refl
answer_lacks (answer.Reply (reply.Many (i ∷ items))) h = lacks_append 10 (item_text i) (spaced_items items) (item_lacks i (h.1 zero i (omega arith))) (spaced_lacks items (λ k d lt. h.1 (suc k) d (omega arith)))
answer_lacks answer.TooLarge h = lacks_by_test (codes "toolarge") refl

pub reply_is_line : (thread number : ℕ) (line : List ℕ) → thread < 2 ^ 64 → number < 2 ^ 64 → IsReply thread number line → IsLine line
reply_is_line thread number line small few r = record {
  body = decimal thread ++ codes "." ++ decimal number ++ codes " " ++ answer_text r.says;
  lacks = lacks_append 10 (decimal thread ++ codes "." ++ decimal number ++ codes " ") (answer_text r.says)
      (lacks_append 10 (decimal thread ++ codes "." ++ decimal number) (codes " ") (lacks_append 10 (decimal thread ++ codes ".") (decimal number) (lacks_append 10 (decimal thread) (codes ".") (decimal_lacks 10 thread (omega arith) small) (lacks_by_test (codes ".") refl)) (decimal_lacks 10 number (omega arith) few)) (lacks_by_test (codes " ") refl))
      (answer_lacks r.says r.fits);
  is = r.spelled;
}

no_newline : (xs ys : List ℕ) → ByteIsMissing 10 (xs ++ 10 ∷ ys) → ⊥
no_newline [] ys h = h.0 refl
no_newline (x ∷ xs) ys h = no_newline xs ys h.1

-- where no line ends, none is a first one
pub none_first : (text first rest : List ℕ) → ByteIsMissing 10 text → IsLine first → text ≢ first ++ rest
none_first text first rest lacks line e = no_newline line.body rest (subst (ByteIsMissing 10) (e ∙ ap (λ (z : List ℕ). z ++ rest) line.is ∙ append_assoc line.body (10 ∷ []) rest) lacks)

-- the first line is one
pub no_other_first : (text line after first rest : List ℕ) → IsLine line → IsLine first → text ≡ line ++ after → text ≡ first ++ rest → first ≡ line
no_other_first text line after first rest h k e f = (line_one first line rest after k h (sym f ∙ e)).0

-- ---- shapes one after another

module _ (threads : List (List Command)) where
  pub goes_none : (text : List ℕ) (n : ℕ) → GoesOverLines threads [] text n [] text n
  goes_none text n = record { shaped = tt; spelled = refl; number = omega arith }

  shaped_more : (ks : List Shape) (k : Shape) (ls : List (List ℕ)) (l : List ℕ) → AreShaped threads ks ls → HasShape threads k l → AreShaped threads (ks ++ k ∷ []) (ls ++ l ∷ [])
  shaped_more [] k [] l h s = (s, tt)
  shaped_more [] k (x ∷ ls) l h s = absurd h
  shaped_more (j ∷ ks) k [] l h s = absurd h
  shaped_more (j ∷ ks) k (x ∷ ls) l h s = (h.0, shaped_more ks k ls l h.1 s)

  joined_more : (ls : List (List ℕ)) (l rest : List ℕ) → joined_lines ls ++ (l ++ rest) ≡ joined_lines (ls ++ l ∷ []) ++ rest
  joined_more [] l rest = ap (λ (z : List ℕ). z ++ rest) (sym (append-nil l))
  joined_more (x ∷ ls) l rest = append_assoc x (joined_lines ls) (l ++ rest) ∙ ap (λ (z : List ℕ). x ++ z) (joined_more ls l rest) ∙ sym (append_assoc x (joined_lines (ls ++ l ∷ [])) rest)

  one_longer : (ls : List (List ℕ)) (l : List ℕ) → length (ls ++ l ∷ []) ≡ length ls + 1
  one_longer [] l = refl
  one_longer (x ∷ ls) l = let h = one_longer ls l in omega (arith, h)

  pub goes_more : (ks : List Shape) (k : Shape) (text : List ℕ) (n : ℕ) (ls : List (List ℕ)) (rest : List ℕ) (m : ℕ) (l next : List ℕ) (o : ℕ) → GoesOverLines threads ks text n ls rest m → HasShape threads k l → rest ≡ l ++ next → o ≡ m + 1 → GoesOverLines threads (ks ++ k ∷ []) text n (ls ++ l ∷ []) next o
  goes_more ks k text n ls rest m l next o g s e f = record {
    shaped = shaped_more ks k ls l g.shaped s;
    spelled = g.spelled ∙ ap (λ (z : List ℕ). joined_lines ls ++ z) e ∙ joined_more ls l next;
    number = (let a = g.number in let b = one_longer ls l in omega (arith, a, b, f));
  }

  pub goes_fails : (ks more : List Shape) (text : List ℕ) (n : ℕ) (ls : List (List ℕ)) (rest : List ℕ) (m line : ℕ) → GoesOverLines threads ks text n ls rest m → FailsAt threads more rest m line → FailsAt threads (ks ++ more) text n line
  goes_fails [] more text n [] rest m line g f =
      let a : m ≡ n = (let b = g.number in omega (arith, b)) in
      subst (λ (i : ℕ). FailsAt threads more text i line) a (subst (λ (z : List ℕ). FailsAt threads more z m line) (sym g.spelled) f)
  goes_fails [] more text n (l ∷ ls) rest m line g f = absurd g.shaped
  goes_fails (k ∷ ks) more text n [] rest m line g f = absurd g.shaped
  goes_fails (k ∷ ks) more text n (l ∷ ls) rest m line g f =
      let count = g.number in
      inr (l, joined_lines ls ++ rest, g.shaped.0, g.spelled ∙ append_assoc l (joined_lines ls) rest, goes_fails ks more (joined_lines ls ++ rest) (n + 1) ls rest m line (record { shaped = g.shaped.1; spelled = refl; number = omega (arith, count) }) f)

-- ---- the replies of a thread

pub shapes_more : (thread number i : ℕ) → thread_shapes thread number (i + 1) ≡ thread_shapes thread number i ++ answers thread (number + i) ∷ []
shapes_more thread number i = ap (thread_shapes thread number) (let e : i + 1 ≡ suc i = omega arith in e) ∙ by number i
  where
    by : (number i : ℕ) → thread_shapes thread number (suc i) ≡ thread_shapes thread number i ++ answers thread (number + i) ∷ []
    by number zero = ap (λ k. answers thread k ∷ []) (let e : number ≡ number + 0 = omega arith in e)
    by number (suc i) = ap (λ (ks : List Shape). answers thread number ∷ ks) (by (number + 1) i ∙ ap (λ k. thread_shapes thread (number + 1) i ++ answers thread k ∷ []) (let e : number + 1 + i ≡ number + suc i = omega arith in e))

pub shapes_split : (thread number i j : ℕ) → thread_shapes thread number (i + suc j) ≡ thread_shapes thread number i ++ answers thread (number + i) ∷ thread_shapes thread (number + i + 1) j
shapes_split thread number zero j = ap (thread_shapes thread number) (let e : 0 + suc j ≡ suc j = omega arith in e) ∙ ap (λ k. answers thread k ∷ thread_shapes thread (k + 1) j) (let e : number ≡ number + 0 = omega arith in e)
shapes_split thread number (suc i) j =
    ap (thread_shapes thread number) (let e : suc i + suc j ≡ suc (i + suc j) = omega arith in e)
    ∙ ap (λ (ks : List Shape). answers thread number ∷ ks) (shapes_split thread (number + 1) i j ∙ ap (λ k. thread_shapes thread (number + 1) i ++ answers thread k ∷ thread_shapes thread (k + 1) j) (let e : number + 1 + i ≡ number + suc i = omega arith in e))

-- a reply that doesn't come
pub lacking : (threads : List (List Command)) (thread number n : ℕ) (e : CheckError) (ks more : List Shape) (text rest : List ℕ) (ls : List (List ℕ)) (m : ℕ) → GoesOverLines threads ks text n ls rest m → LacksReply thread number rest m e → FailsHowever threads (ks ++ answers thread number ∷ more) text n e
lacking threads thread number n (error.Fault line why.Form) ks more text rest ls m g h = λ then.
    subst (λ (js : List Shape). FailsAt threads js text n line) (sym (append_assoc ks (answers thread number ∷ more) then)) (goes_fails threads ks (answers thread number ∷ (more ++ then)) text n ls rest m line g (inl (h.0, h.1)))
lacking threads thread number n (error.Fault line why.Turn) ks more text rest ls m g h = absurd h
lacking threads thread number n (error.Fault line why.Waits) ks more text rest ls m g h = absurd h
lacking threads thread number n (error.Fault line why.Reply) ks more text rest ls m g h = absurd h
lacking threads thread number n (error.Fault line why.Order) ks more text rest ls m g h = absurd h
lacking threads thread number n (error.Fault line why.State) ks more text rest ls m g h = absurd h
lacking threads thread number n error.NoMemory ks more text rest ls m g h = absurd h

pub if_err : {A E : Type 0} (P : E → Type 0) (r : Result A E) (e : E) → IsErrAnd r (λ d. d ≡ e) → P e → IfErr r P
if_err P (Ok x) e h p = tt
if_err P (Err d) e h p = subst P (sym h) p

-- a thread's replies, of which so many came
pub thread_lacks : (threads : List (List Command)) (thread k count n m : ℕ) (e : CheckError) (text rest : List ℕ) (ls : List (List ℕ)) → k < count → GoesOverLines threads (thread_shapes thread 1 k) text n ls rest m → LacksReply thread (k + 1) rest m e → FailsHowever threads (thread_shapes thread 1 count) text n e
thread_lacks threads thread k count n m e text rest ls lt g h =
    let j : ℕ = count - k - 1 in
    let whole : k + suc j ≡ count = omega arith in
    let next : k + 1 ≡ 1 + k = omega arith in
    let lacks : LacksReply thread (1 + k) rest m e = subst (λ (i : ℕ). LacksReply thread i rest m e) next h in
    subst (λ (i : ℕ). FailsHowever threads (thread_shapes thread 1 i) text n e) whole (subst (λ (ks : List Shape). FailsHowever threads ks text n e) (sym (shapes_split thread 1 k j)) (lacking threads thread (1 + k) n e (thread_shapes thread 1 k) (thread_shapes thread (1 + k + 1) j) text rest ls m g lacks))
