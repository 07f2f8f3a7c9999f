-- The lines of a run's text are lines, whatever numbers they have; so a text that a later test refuses is no run's.
use Rattle.std.proofs.Common.{◌≡◌, ◌≢◌, ℕ, zero, suc, ◌+◌, ◌<◌, ◌≤◌, ◌^◌, ◌/◌, ◌%◌, ◌==◌, if◌then◌else◌, Bool, true, false, List, [], ◌∷◌, ◌++◌, map, Some, None, length, refl, sym, ap, subst, ◌∙◌, arith, slice_index_or}
use Rattle.std.specs.Fmt.{digit_glyph, digits, digits_onto}
use Rattle.std.specs.List.{flat_map}
use Rattle.std.specs.Prelude.{codes, decimal, nat_lt}
use Rattle.kc_history.specs.Text.{answer_text, item_text, mark_text, marked_reply, order_lines, reply_lines, spaced_items}
use Rattle.kc_history.specs.declared.record.Mark.{Mark}
use Rattle.kc_history.specs.declared.record.Mark.TheVariants as mark
use Rattle.kc_history.specs.declared.record.Record.{Record}
use Rattle.kc_model.specs.declared.reply.Item.{Item}
use Rattle.kc_model.specs.declared.reply.Item.TheVariants as item
use Rattle.kc_model.specs.declared.reply.Reply.TheVariants as reply
use Rattle.kc_model.specs.declared.reply.Answer.{Answer}
use Rattle.kc_model.specs.declared.reply.Answer.TheVariants as answer
use Rattle.kc_script_bundle.proofs.Standing.{all_show}
use Rattle.kc_script_bundle.specs.Script.{Names, Script}
use Rattle.kc_script_bundle.specs.State.{Content, content_text, items as shows_items, number as shows_number, number_text, pair_text, pairs as shows_pairs, place as shows_place, shown, state_line}
use Rattle.kc_script_bundle.specs.declared.operation.Command.{Command}
use Rattle.kc_script_runs.specs.Labels.{ThreadsHaveRecords, Label, label, labels}
use Rattle.kc_xt.specs.Meaning.{values}
use Rattle.kc_check.proofs.Forming.{lacks_by_test, reply_is_line}
use Rattle.kc_check.proofs.Opened.{said_parts}
use Rattle.kc_check.proofs.Refuted.{no_later_fault}
use Rattle.kc_check.proofs.Spaced.{held_is_line}
use Rattle.kc_check.proofs.Unique.{heads, lacks_append, tails}
use Rattle.kc_check.specs.Faults.{FailsIn, IsLegalText}
use Rattle.kc_check.specs.Forms.{AllReplies, AreHeld, AreReplies, IsFormed}
use Rattle.kc_check.specs.Laid.{AllLines, AllReplyLines, AreFew, TextIsLaid, IsLine, ByteIsMissing}
use Rattle.kc_check.specs.Parts.{Parts}
use Rattle.kc_check.specs.Reads.{HaveNames}
use Rattle.kc_check.specs.Shown.{held_lines, lines_for, replies_for}
use Rattle.kc_check.specs.declared.error.CheckWhy.{CheckWhy}

-- ---- the text of any number

glyph_high : (d : ℕ) → 48 ≤ digit_glyph false d
glyph_high d = by (nat_lt d 10)
  where
    by : (b : Bool) → 48 ≤ (if b then 48 + d else 87 + d)
    by true = omega arith
    by false = omega arith

onto_lacks : (c k n : ℕ) (acc : List ℕ) → c < 48 → ByteIsMissing c acc → ByteIsMissing c (digits_onto k 10 false n acc)
onto_lacks c zero n acc low h = h
onto_lacks c (suc k) n acc low h =
    let far : digit_glyph false (n % 10) ≢ c = λ e. (let high = glyph_high (n % 10) in omega (arith, e, high, low)) in
    by (n / 10 == 0) (far, h) (onto_lacks c k (n / 10) (digit_glyph false (n % 10) ∷ acc) low (far, h))
  where
    by : (b : Bool) → ByteIsMissing c (digit_glyph false (n % 10) ∷ acc) → ByteIsMissing c (digits_onto k 10 false (n / 10) (digit_glyph false (n % 10) ∷ acc)) → ByteIsMissing c (if b then digit_glyph false (n % 10) ∷ acc else digits_onto k 10 false (n / 10) (digit_glyph false (n % 10) ∷ acc))
    by true x y = x
    by false x y = y

pub number_lacks : (c n : ℕ) → c < 48 → ByteIsMissing c (decimal n)
unfolding digits
number_lacks c n low = onto_lacks c 64 n [] low tt

-- ---- reply lines

item_lacks : (i : Item) → ByteIsMissing 10 (item_text i)
item_lacks item.Unit = lacks_by_test (codes "ok") refl
item_lacks (item.Value n) = number_lacks 10 n (omega arith)
item_lacks (item.Bool true) = lacks_by_test (codes "true") refl
item_lacks (item.Bool false) = lacks_by_test (codes "false") refl
item_lacks item.Empty = lacks_by_test (codes "none") refl
item_lacks item.Full = lacks_by_test (codes "full") refl

spaced_lacks : (items : List Item) → ByteIsMissing 10 (spaced_items items)
spaced_lacks [] = tt
spaced_lacks (i ∷ items) = lacks_append 10 (codes " " ++ item_text i) (spaced_items items) (lacks_append 10 (codes " ") (item_text i) (lacks_by_test (codes " ") refl) (item_lacks i)) (spaced_lacks items)

answer_lacks : (a : Answer) → ByteIsMissing 10 (answer_text a)
answer_lacks (answer.Reply reply.Unit) = lacks_by_test (codes "ok") refl
answer_lacks (answer.Reply (reply.Value n)) = number_lacks 10 n (omega arith)
answer_lacks (answer.Reply (reply.Bool true)) = lacks_by_test (codes "true") refl
answer_lacks (answer.Reply (reply.Bool false)) = lacks_by_test (codes "false") refl
answer_lacks (answer.Reply reply.Empty) = lacks_by_test (codes "none") refl
answer_lacks (answer.Reply reply.Full) = lacks_by_test (codes "full") refl
answer_lacks (answer.Reply reply.Stranded) = lacks_by_test (codes "stranded") refl
answer_lacks (answer.Reply reply.Cancelled) = lacks_by_test (codes "cancelled") refl
answer_lacks (answer.Reply (reply.Many [])) = lacks_by_test (codes "-") refl
answer_lacks (answer.Reply (reply.Many (i ∷ items))) = lacks_append 10 (item_text i) (spaced_items items) (item_lacks i) (spaced_lacks items)
answer_lacks answer.TooLarge = lacks_by_test (codes "toolarge") refl

command_line : (thread n : ℕ) (a : Answer) → IsLine (decimal thread ++ codes "." ++ decimal n ++ codes " " ++ answer_text a ++ codes "\n")
command_line thread n a = record {
  body = decimal thread ++ codes "." ++ decimal n ++ codes " " ++ answer_text a;
  lacks = lacks_append 10 (decimal thread ++ codes "." ++ decimal n ++ codes " ") (answer_text a)
      (lacks_append 10 (decimal thread ++ codes "." ++ decimal n) (codes " ") (lacks_append 10 (decimal thread ++ codes ".") (decimal n) (lacks_append 10 (decimal thread) (codes ".") (number_lacks 10 thread (omega arith)) (lacks_by_test (codes ".") refl)) (number_lacks 10 n (omega arith))) (lacks_by_test (codes " ") refl))
      (answer_lacks a);
  is = refl;
}

lines_are : (thread n : ℕ) (cs : List Command) (rs : List Record) → map label rs ≡ labels thread n cs → AllLines (lines_for cs rs)
lines_are thread n [] rs e = tt
lines_are thread n (c ∷ cs) [] e = tt
lines_are thread n (c ∷ cs) (r ∷ rs) e =
    let marked : r.mark ≡ mark.Command n = ap (λ (l : Label). l.mark) (heads (label r) (record { thread = thread; mark = mark.Command n }) (map label rs) (labels thread (n + 1) cs) e) in
    let line : IsLine (marked_reply (mark.Command n) r) = subst (λ (k : Mark). IsLine (decimal r.thread ++ codes "." ++ mark_text k ++ codes " " ++ answer_text r.answer ++ codes "\n")) (sym marked) (command_line r.thread n r.answer) in
    (subst (λ (k : Mark). IsLine (marked_reply k r)) (sym marked) line, lines_are thread (n + 1) cs rs (tails (label r) (record { thread = thread; mark = mark.Command n }) (map label rs) (labels thread (n + 1) cs) e))

pub replies_are_lines : (j : ℕ) (threads : List (List Command)) (records : List (List Record)) → ThreadsHaveRecords j threads records → AllReplyLines (replies_for threads records)
replies_are_lines j [] records h = tt
replies_are_lines j (cs ∷ threads) [] h = tt
replies_are_lines j (cs ∷ threads) (rs ∷ records) h = (lines_are j 1 cs rs h.0, replies_are_lines (j + 1) threads records h.1)

-- ---- state lines

numbers_lack : (xs : List ℕ) → ByteIsMissing 10 (flat_map number_text xs)
numbers_lack [] = tt
numbers_lack (x ∷ xs) = lacks_append 10 (codes " " ++ decimal x) (flat_map number_text xs) (lacks_append 10 (codes " ") (decimal x) (lacks_by_test (codes " ") refl) (number_lacks 10 x (omega arith))) (numbers_lack xs)

pairs_lack : (ps : List (ℕ × ℕ)) → ByteIsMissing 10 (flat_map pair_text ps)
pairs_lack [] = tt
pairs_lack (p ∷ ps) = lacks_append 10 (codes " " ++ decimal p.0 ++ codes "=" ++ decimal p.1) (flat_map pair_text ps)
    (lacks_append 10 (codes " " ++ decimal p.0 ++ codes "=") (decimal p.1) (lacks_append 10 (codes " " ++ decimal p.0) (codes "=") (lacks_append 10 (codes " ") (decimal p.0) (lacks_by_test (codes " ") refl) (number_lacks 10 p.0 (omega arith))) (lacks_by_test (codes "=") refl)) (number_lacks 10 p.1 (omega arith)))
    (pairs_lack ps)

content_lacks : (c : Content) → ByteIsMissing 10 (content_text c)
content_lacks (shows_number n) = lacks_append 10 (codes " ") (decimal n) (lacks_by_test (codes " ") refl) (number_lacks 10 n (omega arith))
content_lacks (shows_items xs) = numbers_lack xs
content_lacks (shows_pairs ps) = pairs_lack ps
content_lacks (shows_place None) = lacks_by_test (codes " none") refl
content_lacks (shows_place (Some v)) = lacks_append 10 (codes " ") (decimal v) (lacks_by_test (codes " ") refl) (number_lacks 10 v (omega arith))

pub held_are_lines : (names : Names) (m : ℕ → ℕ) → HaveNames names → AllLines (held_lines names m)
held_are_lines [] m h = tt
held_are_lines (entry ∷ names) m h = (
  record { body = entry.0 ++ content_text (shown entry.1 m); lacks = lacks_append 10 entry.0 (content_text (shown entry.1 m)) (h zero entry (omega arith)) (content_lacks (shown entry.1 m)); is = refl },
  held_are_lines names m (λ i d lt. h (suc i) d (omega arith)),
)

-- ---- from the form to what is laid out

thread_lines : (thread number : ℕ) (cs : List Command) (ls : List (List ℕ)) → thread + length cs < 2 ^ 64 → number + length cs < 2 ^ 64 → AreReplies thread number cs ls → AllLines ls
thread_lines thread number [] [] small few h = tt
thread_lines thread number [] (l ∷ ls) small few h = absurd h
thread_lines thread number (c ∷ cs) [] small few h = absurd h
thread_lines thread number (c ∷ cs) (l ∷ ls) small few h = (reply_is_line thread number l (omega (arith, small)) (omega (arith, few)) h.0, thread_lines thread (number + 1) cs ls (omega (arith, small)) (omega (arith, few)) h.1)

all_lines : (thread : ℕ) (threads : List (List Command)) (rs : List (List (List ℕ))) → thread + length threads ≤ 17 → ((t : ℕ) → length (slice_index_or threads t []) ≤ 4096) → AllReplies thread threads rs → AllReplyLines rs
all_lines thread [] [] few short h = tt
all_lines thread [] (r ∷ rs) few short h = absurd h
all_lines thread (cs ∷ threads) [] few short h = absurd h
all_lines thread (cs ∷ threads) (r ∷ rs) few short h =
    let le = short zero in
    (thread_lines thread 1 cs r (omega (arith, few, le)) (omega (arith, le)) h.0, all_lines (thread + 1) threads rs (omega (arith, few)) (λ t. short (suc t)) h.1)

state_lines_are : (names : Names) (ls : List (List ℕ)) → HaveNames names → AreHeld names ls → AllLines ls
state_lines_are [] [] n h = tt
state_lines_are [] (l ∷ ls) n h = absurd h
state_lines_are (entry ∷ names) [] n h = absurd h
state_lines_are (entry ∷ names) (l ∷ ls) n h = (held_is_line entry.0 l (n zero entry (omega arith)) h.0, state_lines_are names ls (λ i d lt. n (suc i) d (omega arith)) h.1)

-- the text of a run shows its last store
pub legal_spelled : (s : Script) (text : List ℕ) (legal : IsLegalText s text) → text ≡ reply_lines legal.records ++ codes "order\n" ++ order_lines legal.records legal.is.order ++ codes "state\n" ++ flat_map (λ entry. state_line entry.0 (shown entry.1 (values legal.is.last))) s.objects
legal_spelled s text legal =
    let t = legal.is in
    t.spelled ∙ ap (λ (xs : List ℕ). reply_lines legal.records ++ codes "order\n" ++ order_lines legal.records t.order ++ codes "state\n" ++ xs) (sym (all_show s.objects (values t.last) t.contents t.stand))

module _ (s : Script) (few : length s.threads ≤ 16) (short : (t : ℕ) → length (slice_index_or s.threads t []) ≤ 4096) (names : HaveNames s.objects) where
  pub laid_of : (text : List ℕ) (parts : Parts) → IsFormed s text parts → TextIsLaid s text parts
  laid_of text parts formed =
      let said = said_parts s text parts formed in
      record {
        many = said.0;
        replies = all_lines 1 s.threads parts.replies (omega (arith, few)) short formed.replies;
        places = formed.places;
        count = formed.count;
        objects = said.1;
        state = state_lines_are s.objects parts.state names formed.state;
        spelled = formed.spelled;
      }

  -- a text that a later test refuses is no run's
  pub later_not_legal : (text : List ℕ) (parts : Parts) (line : ℕ) (w : CheckWhy) → IsFormed s text parts → FailsIn s parts line w → IsLegalText s text → ⊥
  later_not_legal text parts line w formed fails legal =
      let t = legal.is in
      let small : AreFew s.threads = record { threads_few = omega (arith, few); commands_few = λ u. (let le = short u in omega (arith, le)) } in
      no_later_fault s text parts legal.records t.order t.last line w small t.run (replies_are_lines 1 s.threads legal.records t.run.threads) (held_are_lines s.objects (values t.last) names) (legal_spelled s text legal) (laid_of text parts formed) fails
