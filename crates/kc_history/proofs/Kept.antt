-- Records by their index, and heads and footprints joined.
use Rattle.std.proofs.Common.{◌≡◌, ℕ, zero, suc, ◌+◌, ◌<◌, ◌≤◌, List, [], ◌∷◌, ◌++◌, Some, length, take, slice_get, slice_set, slice_index_or, sum_by, refl, sym, ap, ◌∙◌, arith}
use Rattle.std.specs.Option.{option_map}
use Rattle.std.proofs.lemmas.List.Sums.{sum_by_more}
use Rattle.kc_history.specs.Counts.{footprints}
use Rattle.kc_history.specs.Joined.{blank_head, joined_records, record_of}
use Rattle.kc_history.specs.Kept.{print, puts_kept, reads_kept}
use Rattle.kc_history.specs.Records.{head_in, record_print, puts_of, reads_of}
use Rattle.kc_history.specs.declared.record.Head.{Head}
use Rattle.kc_history.specs.declared.record.Mark.TheVariants as mark
use Rattle.kc_history.specs.declared.record.Record.{Record}
use Rattle.kc_model.specs.declared.footprint.Footprint.{Footprint}
use Rattle.kc_model.specs.declared.reply.Answer.TheVariants as answer
use Rattle.kc_model.specs.declared.reply.Reply.TheVariants as reply

-- a record to stand where there is none
abbrev pub blank : Record
blank = record { thread = 0; mark = mark.End; answer = answer.Reply reply.Unit; footprint = print [] [] }

pub print_is : (rs : List Record) (k : ℕ) (d : Record) → k < length rs → (slice_index_or rs k d).footprint ≡ record_print rs k
print_is [] k d lt = absurd (omega arith)
print_is (r ∷ rs) zero d lt = refl
print_is (r ∷ rs) (suc k) d lt = print_is rs k d (omega arith)

pub print_at : (rs : List Record) (k : ℕ) → k < length rs → slice_get (footprints rs) k ≡ Some (record_print rs k)
print_at [] k lt = absurd (omega arith)
print_at (r ∷ rs) zero lt = refl
print_at (r ∷ rs) (suc k) lt = print_at rs k (omega arith)

pub print_in : (rs : List Record) (k : ℕ) → k < length rs → option_map (λ (r : Record). r.footprint) (slice_get rs k) ≡ Some (record_print rs k)
print_in [] k lt = absurd (omega arith)
print_in (r ∷ rs) zero lt = refl
print_in (r ∷ rs) (suc k) lt = print_in rs k (omega arith)

-- one more record is counted
pub print_more : (F : Footprint → ℕ) (rs : List Record) (k : ℕ) → k < length rs → sum_by (λ (r : Record). F r.footprint) (take (k + 1) rs) ≡ sum_by (λ (r : Record). F r.footprint) (take k rs) + F (record_print rs k)
print_more F rs k lt = sum_by_more (λ (r : Record). F r.footprint) rs k blank lt ∙ ap (λ f. sum_by (λ (r : Record). F r.footprint) (take k rs) + F f) (print_is rs k blank lt)

-- ---- heads and footprints

pub length-joined : (hs : List Head) (fs : List Footprint) → length (joined_records hs fs) ≡ length fs
length-joined hs [] = refl
length-joined [] (f ∷ fs) = ap suc (length-joined [] fs)
length-joined (h ∷ hs) (f ∷ fs) = ap suc (length-joined hs fs)

pub joined_head : (hs : List Head) (fs : List Footprint) (k : ℕ) (h : Head) → k < length hs → k < length fs → h ≡ slice_index_or hs k h → option_map head_in (slice_get (joined_records hs fs) k) ≡ Some h
joined_head hs [] k h le lt is = absurd (omega arith)
joined_head [] (f ∷ fs) k h le lt is = absurd (omega arith)
joined_head (g ∷ hs) (f ∷ fs) zero h le lt is = ap Some (sym is)
joined_head (g ∷ hs) (f ∷ fs) (suc k) h le lt is = joined_head hs fs k h (omega arith) (omega arith) is

-- behind the heads stands the blank one
pub joined_blank : (hs : List Head) (fs : List Footprint) (k : ℕ) → length hs ≤ k → k < length fs → option_map head_in (slice_get (joined_records hs fs) k) ≡ Some blank_head
joined_blank hs [] k le lt = absurd (omega arith)
joined_blank [] (f ∷ fs) zero le lt = refl
joined_blank [] (f ∷ fs) (suc k) le lt = joined_blank [] fs k (omega arith) (omega arith)
joined_blank (h ∷ hs) (f ∷ fs) zero le lt = absurd (omega arith)
joined_blank (h ∷ hs) (f ∷ fs) (suc k) le lt = joined_blank hs fs k (omega arith) (omega arith)

pub joined_reads : (hs : List Head) (fs : List Footprint) (k : ℕ) → reads_kept fs k ≡ reads_of (joined_records hs fs) k
joined_reads hs [] k = refl
joined_reads [] (f ∷ fs) zero = refl
joined_reads [] (f ∷ fs) (suc k) = joined_reads [] fs k
joined_reads (h ∷ hs) (f ∷ fs) zero = refl
joined_reads (h ∷ hs) (f ∷ fs) (suc k) = joined_reads hs fs k

pub joined_puts : (hs : List Head) (fs : List Footprint) (k : ℕ) → puts_kept fs k ≡ puts_of (joined_records hs fs) k
joined_puts hs [] k = refl
joined_puts [] (f ∷ fs) zero = refl
joined_puts [] (f ∷ fs) (suc k) = joined_puts [] fs k
joined_puts (h ∷ hs) (f ∷ fs) zero = refl
joined_puts (h ∷ hs) (f ∷ fs) (suc k) = joined_puts hs fs k

-- the head behind those that have a footprint gets one
pub joined_more : (hs : List Head) (fs : List Footprint) (h : Head) (f : Footprint) → length fs < length hs → joined_records (slice_set hs (length fs) h) (fs ++ f ∷ []) ≡ joined_records hs fs ++ record_of h f ∷ []
joined_more [] fs h f lt = absurd (omega arith)
joined_more (g ∷ hs) [] h f lt = refl
joined_more (g ∷ hs) (e ∷ fs) h f lt = ap (λ rs. record_of g e ∷ rs) (joined_more hs fs h f (omega arith))

-- a footprint behind the heads has the blank one
pub joined_alone : (hs : List Head) (fs : List Footprint) (f : Footprint) → length hs ≤ length fs → joined_records hs (fs ++ f ∷ []) ≡ joined_records hs fs ++ record_of blank_head f ∷ []
joined_alone [] [] f le = refl
joined_alone [] (e ∷ fs) f le = ap (λ rs. record_of blank_head e ∷ rs) (joined_alone [] fs f (omega arith))
joined_alone (g ∷ hs) [] f le = absurd (omega arith)
joined_alone (g ∷ hs) (e ∷ fs) f le = ap (λ rs. record_of g e ∷ rs) (joined_alone hs fs f (omega arith))
