-- A view that waits: by views, with no entry, or by a commit that waits.
use Rattle.std.specs.Prelude.{◌≡◌, Bool, true, false}
use Rattle.kc_await.specs.Adds.{IsToldAtLast}
use Rattle.kc_await.specs.Waiting.{CommitsAtLast}
use Rattle.kc_model.specs.declared.footprint.Footprint.{Footprint}
use Rattle.kc_store.specs.Knows.{NotesWear, OnlyLearns}
use Rattle.kc_store.specs.Verdicts.{verdict_of}
use Rattle.kc_store.specs.Viewing.{GlimpsesAtLast, InVain, IsViewed}
use Rattle.kc_store.specs.Views.{CallerView}
use Rattle.kc_store.specs.declared.verdict.Answered.{Answered}
use Rattle.kc_store.specs.declared.verdict.Answered.TheVariants as answered
use Rattle.kc_store.specs.declared.viewing.Glimpse.{Glimpse}
use Rattle.kc_store.specs.declared.viewing.Glimpse.TheVariants as glimpse
use Rattle.kc_store.specs.declared.viewing.TheConstants.{MOST_VIEWS}
use Rattle.kc_store.specs.declared.viewing.Viewed.{Viewed}
use Rattle.kc_store.specs.declared.viewing.Viewed.TheVariants as viewed
use Rattle.kc_store.specs.kc_hang.Hangs.{Hangs}
use Rattle.kc_xt.specs.Meaning.{Meaning}

-- it would wait
abbrev pub is_put_off : Glimpse → Bool
is_put_off glimpse.Later = true
is_put_off _ = false

-- it was committed, by a commit that waits, and answered so
pub record IsCommittedAtLast (m : Meaning) (a : Answered) (c : CallerView) (f : Footprint) (d : CallerView) : Type 0 where
  pub told : IsToldAtLast m a c f d
  pub worn : c.worn ≡ true → a ≡ answered.WornPool
  pub notes : NotesWear c (verdict_of a) d

-- a view of a meaning that waits and was answered so; it never answers Later
abbrev pub IsViewedAtLast : Meaning → Viewed → CallerView → Footprint → CallerView → Type 0
IsViewedAtLast m (viewed.Done r) c f d = IsViewed m (viewed.Done r) c f d
IsViewedAtLast m viewed.Later c f d = ⊥
IsViewedAtLast m viewed.TooLarge c f d = IsViewed m viewed.TooLarge c f d
IsViewedAtLast m viewed.Puts c f d = IsViewed m viewed.Puts c f d
IsViewedAtLast m (viewed.Committed a) c f d = IsCommittedAtLast m a c f d

-- views one after another, each of which would wait, and behind each a hang on what it read
pub data HungOnViews (m : Meaning) (c : CallerView) : CallerView → Type 0 where
  none : HungOnViews m c c
  again : (d e g : CallerView) (f : Footprint) → HungOnViews m c d → GlimpsesAtLast m glimpse.Later d f e → OnlyLearns d e → Hangs f.reads e.seat g.seat → OnlyLearns e g → HungOnViews m c g

-- a view that doesn't wait, or behind all tries in vain a commit that may
abbrev pub EndsAtLast : Meaning → Viewed → CallerView → Footprint → CallerView → Type 0
EndsAtLast m (viewed.Done r) c f d = GlimpsesAtLast m (glimpse.Done r) c f d
EndsAtLast m viewed.Later c f d = ⊥
EndsAtLast m viewed.TooLarge c f d = GlimpsesAtLast m glimpse.TooLarge c f d
EndsAtLast m viewed.Puts c f d = GlimpsesAtLast m glimpse.Puts c f d
EndsAtLast m (viewed.Committed a) c f d = (from : CallerView) × InVain m c MOST_VIEWS from × CommitsAtLast m a f from.seat d.seat

-- what came of it, behind its hangs
pub record HangsThenViews (m : Meaning) (x : Viewed) (c : CallerView) (f : Footprint) (d : CallerView) : Type 0 where
  pub last : CallerView
  pub hung : HungOnViews m c last
  pub ends : EndsAtLast m x last f d
