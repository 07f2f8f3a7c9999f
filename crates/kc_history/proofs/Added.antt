-- A footprint more leaves those before it as they are.
use Rattle.std.proofs.Common.{◌≡◌, ℕ, suc, ◌+◌, ◌-◌, ◌≤◌, List, [], ◌∷◌, ◌++◌, length, take, drop, refl, ap, ◌∙◌, subst, arith, All, take_all}
use Rattle.std.specs.Prelude.{slice_range}
use Rattle.std.proofs.lemmas.List.{drop-append-le, take-append-le, map-append, length-drop}
use Rattle.std.proofs.Math.Seq.{drop-append_seam}
use Rattle.kc_model.specs.declared.footprint.Put.{Put}
use Rattle.kc_model.specs.declared.footprint.Seen.{Seen}
use Rattle.kc_history.specs.declared.prints.Span.{Span}
use Rattle.kc_history.specs.Kept.{print}
use Rattle.kc_history.specs.Spans.{SpanLiesIn, span_print, prints_of}

range_kept : {A : Type 0} (xs ys : List A) (a b : ℕ) → a ≤ b → b ≤ length xs → slice_range (xs ++ ys) a b ≡ slice_range xs a b
range_kept xs ys a b r l =
    let n = length-drop a xs in
    ap (take (b - a)) (drop-append-le a xs ys (omega (arith, r, l))) ∙ take-append-le (b - a) (drop a xs) ys (omega (arith, r, l, n))

range_new : {A : Type 0} (xs ys : List A) (a b : ℕ) → length xs ≡ a → b ≡ a + length ys → slice_range (xs ++ ys) a b ≡ ys
range_new xs ys a b p q =
    subst (λ n. take (b - n) (drop n (xs ++ ys)) ≡ ys) p
    (ap (take (b - length xs)) (drop-append_seam xs ys) ∙ take_all (b - length xs) ys (omega (arith, p, q)))

module _ (rs more : List Seen) (ps puts : List Put) where
  print_kept : (h : Span) → SpanLiesIn (length rs) (length ps) h → span_print (rs ++ more) (ps ++ puts) h ≡ span_print rs ps h
  print_kept h l i = record { reads = record { items = range_kept rs more h.reads_from h.reads_to l.reads_rise l.reads_end i }; puts = record { items = range_kept ps puts h.puts_from h.puts_to l.puts_rise l.puts_end i } }

  prints_kept : (hs : List Span) → All (SpanLiesIn (length rs) (length ps)) hs → prints_of (rs ++ more) (ps ++ puts) hs ≡ prints_of rs ps hs
  prints_kept [] a = refl
  prints_kept (h ∷ hs) a = λ i. print_kept h (a 0 h (omega arith)) i ∷ prints_kept hs (λ k d l. a (suc k) d (omega (arith, l))) i

  pub added : (hs : List Span) (h : Span) → All (SpanLiesIn (length rs) (length ps)) hs
      → length rs ≡ h.reads_from → h.reads_to ≡ h.reads_from + length more → length ps ≡ h.puts_from → h.puts_to ≡ h.puts_from + length puts
      → prints_of (rs ++ more) (ps ++ puts) (hs ++ h ∷ []) ≡ prints_of rs ps hs ++ print more puts ∷ []
  added hs h a p q r s =
      map-append (span_print (rs ++ more) (ps ++ puts)) hs (h ∷ [])
      ∙ (λ i. prints_kept hs a i ++ (record { reads = record { items = range_new rs more h.reads_from h.reads_to p q i }; puts = record { items = range_new ps puts h.puts_from h.puts_to r s i } }) ∷ [])
