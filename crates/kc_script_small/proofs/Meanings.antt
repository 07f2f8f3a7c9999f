-- Meanings that come to small numbers on maps of small numbers.
use Rattle.std.proofs.Common.{◌≡◌, ℕ, zero, suc, ◌+◌, ◌≤◌, ◌==◌, Bool, true, false, cond, List, [], ◌∷◌, ◌++◌, All, Option, Some, None, length, length-append, refl, subst, arith}
use Rattle.kc_model.specs.declared.reply.Answer.TheVariants as answer
use Rattle.kc_model.specs.declared.reply.Item.{Item}
use Rattle.kc_model.specs.declared.reply.Reply.{Reply}
use Rattle.kc_model.specs.declared.reply.Reply.TheVariants as reply
use Rattle.kc_script_bundle.specs.Live.{cleared, is_flagged, live_threads}
use Rattle.kc_script_bundle.specs.Meaning.{alone_program, op_meaning, op_program}
use Rattle.kc_script_bundle.specs.declared.operation.Op.{Op}
use Rattle.kc_script_small.proofs.Programs.{EndsSmall, OneSmall, StaysSmall, small_if}
use Rattle.kc_script_small.specs.Small.{AnswerFits, IsSmall, ItemFits}
use Rattle.kc_term.specs.Fit.{Each}
use Rattle.kc_term.specs.Meaning.{items_of, parts_meaning, term_meaning}
use Rattle.kc_term.specs.Tree.{Tree, Trees, all_operations, first, more, none, operations, op as one, seq}
use Rattle.kc_xt.specs.Meaning.{Meaning, Outcome, Run, Touch, else_run, first_meaning, given_up, last_written, lesser, limited, map_after, map_with, put, replied, retried, then_meaning, then_run, too_large, touch, touched_after}
use Rattle.kc_xt.specs.Program.{Program, ends, full, has_room, meaning, read, replies, touching, write}
use Rattle.std.specs.Option.{option_or}
use Rattle.std.proofs.lemmas.Nat.{and_le_l}
use Rattle.std.specs.Int.{bit_not, w32}
use Rattle.kc_script_bundle.specs.Live.{flag_of}
use Rattle.kc_history.proofs.Choice.{some_is}

-- each number of the map is small
abbrev pub AllSmall : (ℕ → ℕ) → Type 0
AllSmall m = (l : ℕ) → IsSmall (m l)

abbrev pub WroteSmall : Option ℕ → Type 0
WroteSmall None = Unit {0}
WroteSmall (Some v) = IsSmall v

-- what is written is small
abbrev pub TouchesSmall : List Touch → Type 0
TouchesSmall [] = Unit {0}
TouchesSmall (t ∷ ts) = WroteSmall t.wrote × TouchesSmall ts

-- a reply of at most so many items, which are small
abbrev pub ReplyTo : ℕ → Reply → Type 0
ReplyTo n a = (length (items_of a) ≤ n) × Each ItemFits (items_of a)

abbrev pub EndsTo : ℕ → Outcome → Type 0
EndsTo n (replied a) = ReplyTo n a
EndsTo n retried = Unit {0}
EndsTo n too_large = Unit {0}

pub record ComesTo (n : ℕ) (r : Run) : Type 0 where
  pub touches : TouchesSmall r.touches
  pub ends_so : EndsTo n r.outcome

-- on maps of small numbers it writes and replies such, at most so many
abbrev pub MeansTo : ℕ → Meaning → Type 0
MeansTo n p = (limit : ℕ) (m : ℕ → ℕ) (ks : List ℕ) → AllSmall m → ComesTo n (p limit m ks)

-- ---- maps

put_small : (m : ℕ → ℕ) (l v : ℕ) → IsSmall v → AllSmall m → AllSmall (put m l v)
put_small m l v h small k = by (l == k)
  where
    by : (t : Bool) → IsSmall (cond t v (m k))
    by true = h
    by false = small k

with_small : (m : ℕ → ℕ) (l : ℕ) (wrote : Option ℕ) → WroteSmall wrote → AllSmall m → AllSmall (map_with m l wrote)
with_small m l None h small = small
with_small m l (Some v) h small = put_small m l v h small

after_small : (m : ℕ → ℕ) (ts : List Touch) → TouchesSmall ts → AllSmall m → AllSmall (map_after m ts)
after_small m [] h small = small
after_small m (t ∷ ts) h small = after_small (map_with m t.cell t.wrote) ts h.1 (with_small m t.cell t.wrote h.0 small)

append_small : (ts us : List Touch) → TouchesSmall ts → TouchesSmall us → TouchesSmall (ts ++ us)
append_small [] us h k = k
append_small (t ∷ ts) us h k = (h.0, append_small ts us h.1 k)

pub given_small : (ts : List Touch) → TouchesSmall (given_up ts)
given_small [] = tt
given_small (t ∷ ts) = (tt, given_small ts)

-- the last that is written is small
pub last_small : (ts : List Touch) → TouchesSmall ts → (l v : ℕ) → last_written ts l ≡ Some v → IsSmall v
last_small [] h l v e = absurd (cc)
last_small (t ∷ ts) h l v e = by (last_small ts h.1 l) (last_written ts l) refl e
  where
    here : (b : Bool) (wrote : Option ℕ) → WroteSmall wrote → cond b wrote None ≡ Some v → IsSmall v
    here true None k f = absurd (cc)
    here true (Some w) k f = subst IsSmall (some_is w v f) k
    here false wrote k f = absurd (cc)

    by : ((w : ℕ) → last_written ts l ≡ Some w → IsSmall w) → (o : Option ℕ) → last_written ts l ≡ o → option_or o (cond (t.cell == l) t.wrote None) ≡ Some v → IsSmall v
    by rest None is f = here (t.cell == l) t.wrote h.0 f
    by rest (Some w) is f = subst IsSmall (some_is w v f) (rest w is)

-- ---- programs

one_reply : (a : Reply) → OneSmall a → ReplyTo 1 a
one_reply reply.Unit h = (omega arith, (tt, tt))
one_reply (reply.Value v) h = (omega arith, (h, tt))
one_reply (reply.Bool b) h = (omega arith, (tt, tt))
one_reply reply.Empty h = (omega arith, (tt, tt))
one_reply reply.Full h = (omega arith, (tt, tt))
one_reply reply.Stranded h = (omega arith, tt)
one_reply reply.Cancelled h = (omega arith, tt)
one_reply (reply.Many items) h = absurd h

one_end : (o : Outcome) → EndsSmall o → EndsTo 1 o
one_end (replied a) h = one_reply a h
one_end retried h = tt
one_end too_large h = tt

room_or : (n : ℕ) (b : Bool) (t : Touch) (r : Run) → WroteSmall t.wrote → ComesTo n r → ComesTo n (cond b (touching t r) full)
room_or n true t r h rest = record { touches = (h, rest.touches); ends_so = rest.ends_so }
room_or n false t r h rest = record { touches = tt; ends_so = tt }

pub program_means : (p : Program) → StaysSmall p → MeansTo 1 (meaning p)
program_means (ends o) h limit m ks small = record { touches = tt; ends_so = one_end o h }
program_means (read l k) h limit m ks small = room_or 1 (has_room limit ks l) (record { cell = l; wrote = None }) (meaning (k (m l)) limit m (touch ks l)) tt (program_means (k (m l)) (h (m l) (small l)) limit m (touch ks l) small)
program_means (write l v p) h limit m ks small = room_or 1 (has_room limit ks l) (record { cell = l; wrote = Some v }) (meaning p limit (put m l v) (touch ks l)) h.0 (program_means p h.1 limit (put m l v) (touch ks l) (put_small m l v h.0 small))

-- ---- meanings made of meanings

end_more : (i n : ℕ) → i ≤ n → (o : Outcome) → EndsTo i o → EndsTo n o
end_more i n le (replied a) h = (let few = h.0 in omega (arith, few, le), h.1)
end_more i n le retried h = tt
end_more i n le too_large h = tt

pub means_more : (i n : ℕ) (p : Meaning) → i ≤ n → MeansTo i p → MeansTo n p
means_more i n p le h limit m ks small = let c = h limit m ks small in record { touches = c.touches; ends_so = end_more i n le (p limit m ks).outcome c.ends_so }

then_means : (i n : ℕ) (p : Meaning) (q : Reply → Meaning) → MeansTo i p → ((a : Reply) → ReplyTo i a → MeansTo n (q a)) → MeansTo n (then_meaning p q)
then_means i n p q h g limit m ks small = let c = h limit m ks small in by (p limit m ks).outcome (p limit m ks).touches c.ends_so c.touches
  where
    by : (o : Outcome) (ts : List Touch) → EndsTo i o → TouchesSmall ts → ComesTo n (then_run o ts (λ a. q a limit (map_after m ts) (touched_after ks ts)))
    by (replied a) ts e t = let c = g a e limit (map_after m ts) (touched_after ks ts) (after_small m ts t small) in record { touches = append_small ts (q a limit (map_after m ts) (touched_after ks ts)).touches t c.touches; ends_so = c.ends_so }
    by retried ts e t = record { touches = t; ends_so = tt }
    by too_large ts e t = record { touches = t; ends_so = tt }

pub first_means : (n : ℕ) (p q : Meaning) → MeansTo n p → MeansTo n q → MeansTo n (first_meaning p q)
first_means n p q h g limit m ks small = let c = h limit m ks small in by (p limit m ks).outcome (p limit m ks).touches c.ends_so c.touches
  where
    by : (o : Outcome) (ts : List Touch) → EndsTo n o → TouchesSmall ts → ComesTo n (else_run o ts (q limit m (touched_after ks ts)))
    by (replied a) ts e t = record { touches = t; ends_so = e }
    by retried ts e t = let c = g limit m (touched_after ks ts) small in record { touches = append_small (given_up ts) (q limit m (touched_after ks ts)).touches (given_small ts) c.touches; ends_so = c.ends_so }
    by too_large ts e t = record { touches = t; ends_so = tt }

pub limited_means : (n most : ℕ) (p : Meaning) → MeansTo n p → MeansTo n (limited most p)
limited_means n most p h limit m ks small = h (lesser most limit) m ks small

-- ---- terms

-- what an operation does
abbrev pub OpSmall : Op → Type 0
OpSmall o = StaysSmall (op_program o replies)

pub each_append : {X : Type 0} (P : X → Type 0) (xs ys : List X) → Each P xs → Each P ys → Each P (xs ++ ys)
each_append P [] ys h k = k
each_append P (x ∷ xs) ys h k = (h.0, each_append P xs ys h.1 k)

each_left : {X : Type 0} (P : X → Type 0) (xs ys : List X) → Each P (xs ++ ys) → Each P xs
each_left P [] ys h = tt
each_left P (x ∷ xs) ys h = (h.0, each_left P xs ys h.1)

each_right : {X : Type 0} (P : X → Type 0) (xs ys : List X) → Each P (xs ++ ys) → Each P ys
each_right P [] ys h = h
each_right P (x ∷ xs) ys h = each_right P xs ys h.1

mutual
  pub term_means : (t : Tree Op) → Each OpSmall (operations t) → MeansTo (length (operations t)) (term_meaning op_meaning t)
  term_means (one o) h = program_means (op_program o replies) h.0
  term_means (seq ts) h = means_more (0 + length (all_operations ts)) (length (all_operations ts)) (parts_meaning op_meaning ts []) (omega arith) (parts_mean ts [] 0 h (omega arith) tt)
  term_means (first a b) h =
      let long = length-append (operations a) (operations b) in
      let n : ℕ = length (operations a ++ operations b) in
      first_means n (term_meaning op_meaning a) (term_meaning op_meaning b)
      (means_more (length (operations a)) n (term_meaning op_meaning a) (omega (arith, long)) (term_means a (each_left OpSmall (operations a) (operations b) h)))
      (means_more (length (operations b)) n (term_meaning op_meaning b) (omega (arith, long)) (term_means b (each_right OpSmall (operations a) (operations b) h)))

  parts_mean : (ts : Trees Op) (items : List Item) (i : ℕ) → Each OpSmall (all_operations ts) → length items ≤ i → Each ItemFits items → MeansTo (i + length (all_operations ts)) (parts_meaning op_meaning ts items)
  parts_mean none items i h few fit = λ limit m ks small. record { touches = tt; ends_so = (omega (arith, few), fit) }
  parts_mean (more t ts) items i h few fit =
      let n : ℕ = length (operations t) in
      let long = length-append (operations t) (all_operations ts) in
      then_means n (i + length (operations t ++ all_operations ts)) (term_meaning op_meaning t) (λ a. parts_meaning op_meaning ts (items ++ items_of a)) (term_means t (each_left OpSmall (operations t) (all_operations ts) h)) (λ a e.
      let much = length-append items (items_of a) in
      let some = e.0 in
      means_more (i + n + length (all_operations ts)) (i + length (operations t ++ all_operations ts)) (parts_meaning op_meaning ts (items ++ items_of a)) (omega (arith, long))
      (parts_mean ts (items ++ items_of a) (i + n) (each_right OpSmall (operations t) (all_operations ts) h) (omega (arith, much, some, few)) (each_append ItemFits items (items_of a) fit e.1)))

-- ---- what comes of a command that would wait

pub alone_means : (live thread : ℕ) → MeansTo 1 (meaning (alone_program live thread))
alone_means live thread = program_means (alone_program live thread) (λ v small. small_if (is_flagged thread v) _ _ (cleared_small v small, tt) (small_if (live_threads v == 1) _ _ tt tt))
  where
    cleared_small : (v : ℕ) → IsSmall v → IsSmall (cleared thread v)
    cleared_small v small = let le = and_le_l v (bit_not w32 (flag_of thread)) in omega (arith, le, small)

-- ---- an answer

fit_all : (items : List Item) → Each ItemFits items → All ItemFits items
fit_all [] h k d lt = absurd (omega arith)
fit_all (i ∷ items) h zero d lt = h.0
fit_all (i ∷ items) h (suc k) d lt = fit_all items h.1 k d (omega arith)

pub reply_fits : (a : Reply) → ReplyTo 16 a → AnswerFits (answer.Reply a)
reply_fits reply.Unit h = tt
reply_fits (reply.Value v) h = h.1.0
reply_fits (reply.Bool b) h = tt
reply_fits reply.Empty h = tt
reply_fits reply.Full h = tt
reply_fits reply.Stranded h = tt
reply_fits reply.Cancelled h = tt
reply_fits (reply.Many items) h = (h.0, fit_all items h.1)
