-- What handles of a store that lasts are told.
use Rattle.std.specs.Prelude.{◌≡◌, ◌⊎◌, ◌≤◌, ◌++◌, ◌∷◌, ℕ, Bool, true, false, List, [], Option, Some, None}
use Rattle.atomic_table.specs.Seated.{TableId}
use Rattle.std.specs.Arc.{arc_value}
use Rattle.kc_lasting.specs.Eras.{IsEnded}
use Rattle.kc_lasting.specs.Settled.{CountsIn, IsCutAway, StandsBefore, StaysAsSeen}
use Rattle.kc_lasting.specs.declared.caller.Attempt.{Attempt}
use Rattle.kc_lasting.specs.declared.caller.Attempt.TheVariants as attempt
use Rattle.kc_lasting.specs.declared.handle.LastingCaller.{LastingCaller}
use Rattle.kc_lasting.specs.declared.crossing.Crossing.{Crossing}
use Rattle.kc_lasting.specs.declared.crossing.Crossing.TheVariants as crossing
use Rattle.kc_model.specs.declared.footprint.Entry.{Entry}
use Rattle.kc_lasting.specs.declared.line.Line.{Line}
use Rattle.kc_model.specs.declared.footprint.Footprint.{Footprint}
use Rattle.kc_model.specs.declared.footprint.Seen.{Seen}
use Rattle.kc_roll.specs.Fronts.{StandsAtFront}
use Rattle.kc_lasting.specs.Cuts.{LooksOnceAt}
use Rattle.kc_store.specs.Answers.{Settles}
use Rattle.kc_store.specs.Knows.{IsTold, IsWithin, OnlyLearns, Remembers, entries_of, entry_of}
use Rattle.kc_store.specs.Tries.{Tries}
use Rattle.kc_store.specs.Verdicts.{is_final, verdict_as, verdict_of}
use Rattle.kc_store.specs.Viewing.{InVain, IsGlimpsed, is_settled}
use Rattle.kc_store.specs.Views.{CallerView}
use Rattle.kc_store.specs.declared.verdict.Answered.{Answered}
use Rattle.kc_store.specs.declared.verdict.Answered.TheVariants as answered
use Rattle.kc_store.specs.declared.verdict.Verdict.{Verdict}
use Rattle.kc_store.specs.declared.verdict.Verdict.TheVariants as verdict
use Rattle.kc_store.specs.declared.viewing.Glimpse.{Glimpse}
use Rattle.kc_store.specs.declared.viewing.Glimpse.TheVariants as glimpse
use Rattle.kc_store.specs.declared.viewing.Viewed.{Viewed}
use Rattle.kc_store.specs.declared.viewing.Viewed.TheVariants as viewed
use Rattle.kc_store.specs.declared.viewing.TheConstants.{MOST_VIEWS}
use Rattle.kc_xt.specs.Meaning.{Meaning}
use Rattle.kc_xt.specs.declared.attempts.Tried.{Tried}

-- ---- behind a call, by which a caller that had been confirmed at s came to b; the handle has d now, and was confirmed at t

-- The era was cut off: this is the history with which it ended, and this is known of it. The handle goes on in another store, which has as many callers, and has no entries there
pub record GoesOver (p : List Entry → Type 0) (s b d t : CallerView) : Type 0 where
  pub part : List Entry
  pub there : p part
  pub stands : ∥ StandsBefore b.of b.number b.own s part ∥₁
  pub many : d.of.callers ≡ b.of.callers
  pub none : d.own ≡ []
  pub new : t ≡ d

-- its era goes on: nobody had begun to cut it off when all that it knew at b was known
abbrev pub EraGoesOn : CallerView → CallerView → CallerView → Type 0
EraGoesOn b d t = OnlyLearns b t × OnlyLearns t d

-- the call's entry, if it made one, stands in the history: in the era that goes on, or before its cut
abbrev pub Counts : (List Entry → Type 0) → (s b : CallerView) → Footprint → (d t : CallerView) → Type 0
Counts p s b f d t = EraGoesOn b d t ⊎ ((g : GoesOver p s b d t) × CountsIn g.part s.own b f)

-- the era was cut off, and the call's puts, if it made any, stand behind the cut: they are in no history
abbrev pub CutAway : (List Entry → Type 0) → (s b : CallerView) → Footprint → (d t : CallerView) → Type 0
CutAway p s b f d t = (g : GoesOver p s b d t) × IsCutAway g.part s.own b f

abbrev pub Judged : (List Entry → Type 0) → Bool → (s b : CallerView) → Footprint → (d t : CallerView) → Type 0
Judged p true s b f d t = Counts p s b f d t
Judged p false s b f d t = CutAway p s b f d t

abbrev pub Crosses : (List Entry → Type 0) → Crossing → (s b : CallerView) → Footprint → (d t : CallerView) → Type 0
Crosses p crossing.Stays s b f d t = EraGoesOn b d t
Crosses p crossing.Before s b f d t = (g : GoesOver p s b d t) × CountsIn g.part s.own b f
Crosses p crossing.Behind s b f d t = CutAway p s b f d t

-- one turn, of a handle whose caller c had been confirmed at s: it has crossed, or learned and nothing else
abbrev pub CrossesOnce : (List Entry → Type 0) → Option Crossing → (c s : CallerView) → Footprint → (d t : CallerView) → Type 0
CrossesOnce p (Some x) c s f d t = Crosses p x s c f d t × (t.own ≡ d.own)
CrossesOnce p None c s f d t = StaysAsSeen c s d t

-- nothing was done: the caller has learned, or its era was cut off
abbrev pub DoesNothingAs : (List Entry → Type 0) → (s b d t : CallerView) → Type 0
DoesNothingAs p s b d t = OnlyLearns b d ⊎ GoesOver p s b d t

-- the one entry more, if there is one with this footprint, puts nothing
abbrev pub AddsNoPuts : List Entry → CallerView → Footprint → Type 0
AddsNoPuts own b f = (n : ℕ) → b.own ≡ own ++ entry_of b.number n f ∷ [] → f.puts.items ≡ []

-- something is worn out
abbrev pub is_worn_verdict : Verdict → Bool
is_worn_verdict (verdict.WornLocation loc) = true
is_worn_verdict verdict.WornPool = true
is_worn_verdict (verdict.Done r) = false
is_worn_verdict verdict.Later = false
is_worn_verdict verdict.TooLarge = false
is_worn_verdict (verdict.Lost loc version) = false
is_worn_verdict (verdict.Busy steps) = false

-- ---- handles

-- the roll of all eras, the number of its own, the eras up to it and maybe more, its caller there, and that caller as it stood when it last found that nobody had begun to cut its era off
pub record HandleView : Type 0 where
  pub roll : TableId
  pub era : ℕ
  pub lines : List Line
  pub caller : CallerView
  pub confirmed : CallerView

abbrev pub standing_of : LastingCaller → HandleView
standing_of h = record { roll = (arc_value h.shared).roll; era = h.place.era; lines = h.place.page.seen; caller = h.client.caller; confirmed = h.client.seen.value }

-- a handle of the same eras: what it knew of them it knows, and it goes back to none
pub record Moves (c d : HandleView) : Type 0 where
  pub roll : d.roll ≡ c.roll
  pub lines : StandsAtFront c.lines d.lines
  pub era : c.era ≤ d.era

-- the history with which its era has ended, as it knows now
abbrev pub ends_with : HandleView → HandleView → List Entry → Type 0
ends_with c d = IsEnded d.lines c.era

-- ---- what is told

-- a try in c's era that was told so, and stands in the history
pub record ToldSo (m : Meaning) (a : Verdict) (c : HandleView) (f : Footprint) (d : HandleView) : Type 0 where
  pub behind : CallerView
  pub told : IsTold m a c.caller f behind
  pub tries : Tries m f c.caller.seat behind.seat
  pub settles : Settles m a c.caller.seat f behind.seat
  pub remembers : Remembers c.caller behind
  pub counts : Counts (ends_with c d) c.confirmed behind f d.caller d.confirmed

-- and one that doesn't
pub record ToldInVain (m : Meaning) (c : HandleView) (f : Footprint) (d : HandleView) : Type 0 where
  pub answer : Verdict
  pub behind : CallerView
  pub told : IsTold m answer c.caller f behind
  pub tries : Tries m f c.caller.seat behind.seat
  pub settles : Settles m answer c.caller.seat f behind.seat
  pub remembers : Remembers c.caller behind
  pub cut : CutAway (ends_with c d) c.confirmed behind f d.caller d.confirmed

abbrev pub AttemptsSo : Meaning → Attempt → Tried → HandleView → Footprint → HandleView → Type 0
AttemptsSo m (attempt.Came fate) t c f d = ToldSo m (verdict_as fate t) c f d
AttemptsSo m attempt.Renewed t c f d = ToldInVain m c f d

-- calls of which nothing came, one after another: they put nothing, or were cut away
pub data AllInVain (m : Meaning) (c : HandleView) : HandleView → Type 0 where
  none : AllInVain m c c
  again : (x d : HandleView) (f : Footprint) → AllInVain m c x → ToldInVain m x f d → AllInVain m c d
  missed : (x d : HandleView) (f : Footprint) (a : Verdict) → AllInVain m c x → is_final a ≡ false → ToldSo m a x f d → AllInVain m c d

-- and one that stands in the history
pub record CommitsInSomeEra (m : Meaning) (a : Answered) (c : HandleView) (f : Footprint) (d : HandleView) : Type 0 where
  pub last : HandleView
  pub before : AllInVain m c last
  pub told : ToldSo m (verdict_of a) last f d

-- the handle did nothing: it has learned, or gone over to another era
abbrev pub DoesNothing : HandleView → HandleView → Type 0
DoesNothing c d = DoesNothingAs (ends_with c d) c.confirmed c.caller d.caller d.confirmed

pub data PassesOn (c : HandleView) : HandleView → Type 0 where
  still : PassesOn c c
  passed : (x d : HandleView) → PassesOn c x → DoesNothing x d → PassesOn c d

-- commits that were told Later, one after another, each of which waited
pub data AllToldLater (m : Meaning) (c : HandleView) : HandleView → Type 0 where
  first : AllToldLater m c c
  waited : (x y d : HandleView) (f : Footprint) → AllToldLater m c x → CommitsInSomeEra m answered.Later x f y → DoesNothing y d → AllToldLater m c d

-- and one that was told so
pub record WaitsTill (m : Meaning) (a : Answered) (c : HandleView) (f : Footprint) (d : HandleView) : Type 0 where
  pub last : HandleView
  pub before : AllToldLater m c last
  pub commits : CommitsInSomeEra m a last f d

-- ---- views and reads

-- what the caller had looked at is confirmed, and its era goes on
pub record LooksInItsEra (c d : HandleView) : Type 0 where
  pub on : EraGoesOn c.caller d.caller d.confirmed
  pub era : d.era ≡ c.era

pub record GlimpsesSo (m : Meaning) (g : Glimpse) (c : HandleView) (f : Footprint) (d : HandleView) : Type 0 where
  pub glimpsed : IsGlimpsed m g c.caller f d.confirmed
  pub confirmed : LooksInItsEra c d

-- all tries to view it were changed or given up, and that is confirmed
pub record LooksInVain (m : Meaning) (c d : HandleView) : Type 0 where
  pub vain : InVain m c.caller MOST_VIEWS d.confirmed
  pub confirmed : LooksInItsEra c d

-- what the last of some tries saw, or that all were in vain
pub record GlimpsesInItsEra (m : Meaning) (g : Glimpse) (c : HandleView) (f : Footprint) (d : HandleView) : Type 0 where
  pub saw : is_settled g ≡ true → GlimpsesSo m g c f d
  pub vain : is_settled g ≡ false → LooksInVain m c d

abbrev pub GlimpsesOnce : Meaning → Option Glimpse → HandleView → Footprint → HandleView → Type 0
GlimpsesOnce m (Some g) c f d = GlimpsesInItsEra m g c f d
GlimpsesOnce m None c f d = DoesNothing c d

-- behind all tries in vain it was committed
pub record CommitsBehindLooks (m : Meaning) (a : Answered) (c : HandleView) (f : Footprint) (d : HandleView) : Type 0 where
  pub looked : HandleView
  pub vain : LooksInVain m c looked
  pub commits : CommitsInSomeEra m a looked f d

-- a view that ends: by tries, with no entry, or by a commit
abbrev pub ViewsThere : Meaning → Viewed → HandleView → Footprint → HandleView → Type 0
ViewsThere m (viewed.Done r) c f d = GlimpsesSo m (glimpse.Done r) c f d
ViewsThere m viewed.Later c f d = GlimpsesSo m glimpse.Later c f d
ViewsThere m viewed.TooLarge c f d = GlimpsesSo m glimpse.TooLarge c f d
ViewsThere m viewed.Puts c f d = GlimpsesSo m glimpse.Puts c f d
ViewsThere m (viewed.Committed a) c f d = CommitsBehindLooks m a c f d

pub record ViewsSo (m : Meaning) (v : Viewed) (c : HandleView) (f : Footprint) (d : HandleView) : Type 0 where
  pub last : HandleView
  pub before : PassesOn c last
  pub views : ViewsThere m v last f d

-- a look saw it, in a front of what the handle came to know, no older than what it knew
pub record LooksSo (l : ℕ) (r : Seen) (c d : HandleView) : Type 0 where
  pub looks : LooksOnceAt l c.caller.seat r d.confirmed.seat
  pub confirmed : LooksInItsEra c d

abbrev pub LooksOrPasses : ℕ → Option Seen → HandleView → HandleView → Type 0
LooksOrPasses l (Some r) c d = LooksSo l r c d
LooksOrPasses l None c d = DoesNothing c d

pub record ReadsSo (l : ℕ) (r : Seen) (c d : HandleView) : Type 0 where
  pub last : HandleView
  pub before : PassesOn c last
  pub looks : LooksSo l r last d

-- all that it had committed in its era stands in the history with which the era ended; or its era goes on
abbrev pub Renews : Bool → HandleView → HandleView → Type 0
Renews true c d = GoesOver (ends_with c d) c.confirmed c.caller d.caller d.confirmed
Renews false c d = OnlyLearns c.caller d.caller

-- of each pair
abbrev pub AllPass : List LastingCaller → List LastingCaller → Type 0
AllPass [] [] = Unit {0}
AllPass [] (d ∷ ds) = ⊥
AllPass (c ∷ cs) [] = ⊥
AllPass (c ∷ cs) (d ∷ ds) = DoesNothing (standing_of c) (standing_of d) × AllPass cs ds

-- its era has ended, and of its entries the history with which it did has just those that it had committed there
pub record EndsIn (lines : List Line) (h : HandleView) : Type 0 where
  pub history : List Entry
  pub ended : IsEnded lines h.era history
  pub all : ∥ IsWithin h.caller.own history ∥₁
  pub exactly : ∥ entries_of h.caller.number history ≡ h.caller.own ∥₁
