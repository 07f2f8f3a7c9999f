-- From spans and lines to footprints.
use Rattle.std.specs.Prelude.{ℕ, ◌+◌, ◌≤◌, List, map, slice_range}
use Rattle.kc_history.specs.Kept.{print}
use Rattle.kc_history.specs.declared.prints.Span.{Span}
use Rattle.kc_model.specs.declared.footprint.Footprint.{Footprint}
use Rattle.kc_model.specs.declared.footprint.Put.{Put}
use Rattle.kc_model.specs.declared.footprint.Seen.{Seen}
use Rattle.kc_model.specs.declared.footprint.TheConstants.{MOST}

-- the footprint of a span, whose lines lie among these
abbrev pub span_print : List Seen → List Put → Span → Footprint
span_print rs ps h = print (slice_range rs h.reads_from h.reads_to) (slice_range ps h.puts_from h.puts_to)

abbrev pub prints_of : List Seen → List Put → List Span → List Footprint
prints_of rs ps hs = map (span_print rs ps) hs

-- its lines lie within so many reads and puts, and are no more than a transaction may touch
pub record SpanLiesIn (n m : ℕ) (h : Span) : Type 0 where
  pub reads_rise : h.reads_from ≤ h.reads_to
  pub reads_end : h.reads_to ≤ n
  pub puts_rise : h.puts_from ≤ h.puts_to
  pub puts_end : h.puts_to ≤ m
  pub reads_few : h.reads_to ≤ h.reads_from + MOST
  pub puts_few : h.puts_to ≤ h.puts_from + MOST
