-- Views: what is answered of reads that stood at one moment, without an entry.
use Rattle.std.specs.Prelude.{◌≡◌, ◌≢◌, ◌<◌, ◌≤◌, ◌⊎◌, ℕ, ◌+◌, [], Bool, true, false, List, Option, Some, None, take}
use Rattle.kc_hang.specs.kc_machine_traces.Histories.{made}
use Rattle.kc_hang.specs.kc_table_laws.Confirmed.{StoodForGood}
use Rattle.kc_hang.specs.kc_table_laws.Tasks.{KeepsKnown}
use Rattle.kc_hang.specs.kc_table_moves.Views.{SeatView}
use Rattle.kc_machine_steps.specs.declared.task.Task.TheVariants as task
use Rattle.kc_model.specs.Store.{Finds, Store}
use Rattle.kc_model.specs.declared.footprint.Entry.{Entry}
use Rattle.kc_model.specs.declared.footprint.Footprint.{Footprint}
use Rattle.kc_model.specs.declared.footprint.Loc.{Loc}
use Rattle.kc_model.specs.declared.footprint.Seen.{Seen}
use Rattle.kc_model.specs.declared.reply.Answer.TheVariants as answer
use Rattle.kc_model.specs.declared.reply.Reply.{Reply}
use Rattle.kc_store.specs.Answers.{IsBusy, PutsNothing, Settles, own_entries}
use Rattle.kc_store.specs.Knows.{IsTold, IsWithin, NotesWear, OnlyLearns, Remembers}
use Rattle.kc_store.specs.Tries.{Did, Sees}
use Rattle.kc_store.specs.Verdicts.{has_entry, verdict_of}
use Rattle.kc_store.specs.Views.{CallerView, store_opening}
use Rattle.kc_store.specs.Works.{Advances, StaysWorn}
use Rattle.kc_store.specs.declared.verdict.Answered.{Answered}
use Rattle.kc_store.specs.declared.verdict.Answered.TheVariants as answered
use Rattle.kc_store.specs.declared.viewing.Glimpse.{Glimpse}
use Rattle.kc_store.specs.declared.viewing.Glimpse.TheVariants as glimpse
use Rattle.kc_store.specs.declared.viewing.Sight.{Sight}
use Rattle.kc_store.specs.declared.viewing.Sight.TheVariants as sight
use Rattle.kc_store.specs.declared.viewing.Viewed.{Viewed}
use Rattle.kc_store.specs.declared.viewing.Viewed.TheVariants as viewed
use Rattle.kc_store.specs.declared.viewing.TheConstants.{MOST_VIEWS}
use Rattle.kc_table.specs.Turns.{LooksAgain, LooksUntil}
use Rattle.kc_xt.specs.Commit.{Answers, Looked, Waits, Wears}
use Rattle.kc_xt.specs.Meaning.{Meaning}
use Rattle.kc_xt.specs.declared.attempts.Tried.{Tried}
use Rattle.kc_xt.specs.declared.attempts.Tried.TheVariants as tried
use Rattle.kc_xt.specs.declared.room.Went.{Went}
use Rattle.kc_xt.specs.declared.room.Went.TheVariants as went

-- ---- by a seat

-- the seat has looked, and is idle again; no entry is its own by that
pub record Glances (v w : SeatView) : Type 0 where
  pub advances : Advances v w
  pub keeps : KeepsKnown v w
  pub none : own_entries w ≡ own_entries v
  pub stays : StaysWorn v w

-- it can't be put
abbrev pub is_worn_went : Went → Bool
is_worn_went (went.Worn loc) = true
is_worn_went went.Done = false
is_worn_went went.Later = false
is_worn_went went.TooLarge = false
is_worn_went went.Busy = false

-- what a view answers of what the transaction came to
abbrev pub stands_as : Tried → Glimpse
stands_as (tried.Done r) = glimpse.Done r
stands_as tried.Later = glimpse.Later
stands_as tried.TooLarge = glimpse.TooLarge
stands_as (tried.Worn loc) = glimpse.Puts
stands_as tried.Busy = glimpse.Changed

-- and by what became of the view
abbrev pub glimpse_as : Sight → Tried → Glimpse
glimpse_as sight.Stands t = stands_as t
glimpse_as sight.Changed t = glimpse.Changed
glimpse_as sight.Puts t = glimpse.Puts
glimpse_as (sight.Busy steps) t = glimpse.Busy steps

-- it would put something: it replies, with some puts, or it would put a location that stands at the last version
abbrev pub WouldPut : Meaning → Footprint → Type 0
WouldPut m f = ((r : Reply) × Answers m (answer.Reply r) f × (f.puts.items ≢ [])) ⊎ ((loc : Loc) × Wears m loc.0 f)

-- by the looks of the transaction, and then one at each read again, which found it
pub record LooksTwice (m : Meaning) (v : SeatView) (f : Footprint) (w : SeatView) : Type 0 where
  pub tried : Tried
  pub seen : SeatView
  pub looked : Looked (Sees v) m tried v f seen
  pub again : LooksAgain seen f.reads.items w

-- of looks at these reads again one didn't find its read, by its first step; it has ended since
pub record MissesARead (v : SeatView) (rs : List Seen) (w : SeatView) : Type 0 where
  pub last : SeatView
  pub until : LooksUntil v rs last
  pub behind : KeepsKnown last w
  pub ended : Did until.u (task.Look until.r.loc) w

-- the transaction looked, and of the second looks at what it had read one didn't find it
pub record MissesOne (m : Meaning) (v : SeatView) (f : Footprint) (w : SeatView) : Type 0 where
  pub tried : Tried
  pub seen : SeatView
  pub looked : Looked (Sees v) m tried v f seen
  pub missed : MissesARead seen f.reads.items w

-- the answer is the meaning's wherever the footprint's reads stand, and they all stood at one moment since it began, for good
abbrev pub Glimpses : Meaning → Glimpse → SeatView → Footprint → SeatView → Type 0
Glimpses m (glimpse.Done r) v f w = Answers m (answer.Reply r) f × PutsNothing f × StoodForGood v f w
Glimpses m glimpse.Later v f w = Waits m f × PutsNothing f × StoodForGood v f w
Glimpses m glimpse.TooLarge v f w = Answers m answer.TooLarge f × PutsNothing f × StoodForGood v f w
Glimpses m glimpse.Puts v f w = WouldPut m f × StoodForGood v f w
Glimpses m glimpse.Changed v f w = MissesOne m v f w
Glimpses m (glimpse.Busy steps) v f w = IsBusy v steps w

-- ---- by a caller

-- a front of a list of entries makes all reads, and has all entries of an earlier list
pub record FrontMakes (s : Store) (es before : List Entry) (f : Footprint) : Type 0 where
  pub front : ℕ
  pub makes : Finds f (made s (take front es))
  pub no_older : IsWithin before (take front es)

-- likewise of two footprints, where the second front is no shorter than the first
pub record FrontsMakeInTurn (s : Store) (es before : List Entry) (f : Footprint) (between : List Entry) (g : Footprint) : Type 0 where
  pub first : FrontMakes s es before f
  pub second : FrontMakes s es between g
  pub rises : first.front ≤ second.front

-- some front of the history that the caller knows now makes all reads, and has all that it knew; and so does one of whatever it may come to know
abbrev pub StandsAtOnce : Footprint → CallerView → CallerView → Type 0
StandsAtOnce f c d = FrontMakes (store_opening d.of) d.known c.known f × StoodForGood c.seat f d.seat

-- a view by one try: what is answered, with no entry
abbrev pub IsGlimpsed : Meaning → Glimpse → CallerView → Footprint → CallerView → Type 0
IsGlimpsed m (glimpse.Done r) c f d = Answers m (answer.Reply r) f × PutsNothing f × StandsAtOnce f c d
IsGlimpsed m glimpse.Later c f d = Waits m f × PutsNothing f × StandsAtOnce f c d
IsGlimpsed m glimpse.TooLarge c f d = Answers m answer.TooLarge f × PutsNothing f × StandsAtOnce f c d
IsGlimpsed m glimpse.Puts c f d = WouldPut m f × StandsAtOnce f c d
IsGlimpsed m glimpse.Changed c f d = MissesOne m c.seat f d.seat
IsGlimpsed m (glimpse.Busy steps) c f d = IsBusy c.seat steps d.seat

-- it isn't tried again
abbrev pub is_settled : Glimpse → Bool
is_settled (glimpse.Done r) = true
is_settled glimpse.Later = true
is_settled glimpse.TooLarge = true
is_settled glimpse.Puts = true
is_settled glimpse.Changed = false
is_settled (glimpse.Busy steps) = false

-- and is answered so
abbrev pub viewed_as : Glimpse → Option Viewed
viewed_as (glimpse.Done r) = Some (viewed.Done r)
viewed_as glimpse.Later = Some viewed.Later
viewed_as glimpse.TooLarge = Some viewed.TooLarge
viewed_as glimpse.Puts = Some viewed.Puts
viewed_as glimpse.Changed = None
viewed_as (glimpse.Busy steps) = None

-- so many tries one after another, each changed or given up
pub data InVain (m : Meaning) (c : CallerView) : ℕ → CallerView → Type 0 where
  none : InVain m c 0 c
  more : (n : ℕ) (d : CallerView) (a : Glimpse) (f : Footprint) (e : CallerView) → InVain m c n d → is_settled a ≡ false → IsGlimpsed m a d f e → OnlyLearns d e → InVain m c (n + 1) e

-- behind some tries in vain one was answered so, by its own looks
pub record GlimpsesAtLast (m : Meaning) (a : Glimpse) (c : CallerView) (f : Footprint) (d : CallerView) : Type 0 where
  pub tries : ℕ
  pub few : tries < MOST_VIEWS
  pub from : CallerView
  pub vain : InVain m c tries from
  pub glimpsed : IsGlimpsed m a from f d
  pub looks : LooksTwice m from.seat f d.seat
  pub learns : OnlyLearns from d

-- behind all tries in vain it was committed, and answered so
pub record IsCommittedSo (m : Meaning) (a : Answered) (c : CallerView) (f : Footprint) (d : CallerView) : Type 0 where
  pub from : CallerView
  pub vain : InVain m c MOST_VIEWS from
  pub remembers : Remembers from d
  pub commits : IsTold m (verdict_of a) from f d
  pub told : IsTold m (verdict_of a) c f d
  pub settles : Settles m (verdict_of a) c.seat f d.seat
  pub worn : c.worn ≡ true → a ≡ answered.WornPool
  pub notes : NotesWear c (verdict_of a) d

-- a view that ends: by tries, with no entry, or by a commit, with its one entry
abbrev pub IsViewed : Meaning → Viewed → CallerView → Footprint → CallerView → Type 0
IsViewed m (viewed.Done r) c f d = IsGlimpsed m (glimpse.Done r) c f d × OnlyLearns c d
IsViewed m viewed.Later c f d = IsGlimpsed m glimpse.Later c f d × OnlyLearns c d
IsViewed m viewed.TooLarge c f d = IsGlimpsed m glimpse.TooLarge c f d × OnlyLearns c d
IsViewed m viewed.Puts c f d = IsGlimpsed m glimpse.Puts c f d × OnlyLearns c d
IsViewed m (viewed.Committed a) c f d = IsCommittedSo m a c f d

-- the footprint is filled
abbrev pub has_reads : Viewed → Bool
has_reads (viewed.Done r) = true
has_reads viewed.Later = true
has_reads viewed.TooLarge = true
has_reads viewed.Puts = true
has_reads (viewed.Committed a) = has_entry (verdict_of a)
