-- What holds of the values throughout a history.
use Rattle.std.specs.Prelude.{◌≡◌, ℕ, ◌⊎◌, List, [], ◌∷◌, ◌++◌, Option, Some, None}
use Rattle.kc_model.specs.Legal.{IsLegal}
use Rattle.kc_model.specs.Store.{Finds, Store}
use Rattle.kc_model.specs.declared.footprint.Entry.{Entry}
use Rattle.kc_model.specs.declared.footprint.Footprint.{Footprint}
use Rattle.kc_model.specs.declared.reply.Reply.{Reply}
use Rattle.kc_model.specs.declared.reply.Answer.TheVariants as answer
use Rattle.kc_store.specs.Backs.{ShowsItsSeat}
use Rattle.kc_store.specs.Knows.{IsWithin, entry_of}
use Rattle.kc_store.specs.Viewing.{StandsAtOnce}
use Rattle.kc_store.specs.Views.{CallerView}
use Rattle.kc_store.specs.declared.verdict.Answered.{Answered}
use Rattle.kc_store.specs.declared.verdict.Answered.TheVariants as answered
use Rattle.kc_store.specs.declared.viewing.Viewed.{Viewed}
use Rattle.kc_store.specs.declared.viewing.Viewed.TheVariants as viewed
use Rattle.kc_xt.specs.Commit.{Answers, run_on}
use Rattle.kc_xt.specs.Meaning.{Meaning, map_after, replied, values}

-- a meaning that replies keeps it, under whatever limit and whatever was touched before
abbrev pub IsKeptBy : ((ℕ → ℕ) → Type 0) → Meaning → Type 0
IsKeptBy holds p = (n : ℕ) (m : ℕ → ℕ) (ks : List ℕ) (a : Reply) → holds m → (p n m ks).outcome ≡ replied a → holds (map_after m (p n m ks).touches)

-- behind every front of a legal list of entries it holds of the values that stand there
abbrev pub HoldsThroughout : ((ℕ → ℕ) → Type 0) → Store → List Entry → Type 0
HoldsThroughout holds s es = (before behind : List Entry) (t : Store) → es ≡ before ++ behind → IsLegal s before t → holds (values t)

-- behind a front of the list, which has all that was known, stands what was read; and there it holds
pub record IsSeenWhere (holds : (ℕ → ℕ) → Type 0) (s : Store) (es known : List Entry) (f : Footprint) : Type 0 where
  pub before : List Entry
  pub behind : List Entry
  pub front : es ≡ before ++ behind
  pub no_older : IsWithin known before
  pub store : Store
  pub legal : IsLegal s before store
  pub finds : Finds f store
  pub there : holds (values store)

-- a view of what has this meaning replied so, of reads that stood at one moment since c and before d
pub record SawReply (m : Meaning) (a : Reply) (c d : CallerView) : Type 0 where
  pub footprint : Footprint
  pub answers : Answers m (answer.Reply a) footprint
  pub stands : StandsAtOnce footprint c d
  pub began : ShowsItsSeat c
  pub ended : ShowsItsSeat d

-- a commit of what has this meaning replied so, by an entry that is the caller's last; those between are looks of the commit
pub record CommitsReply (m : Meaning) (a : Reply) (c d : CallerView) : Type 0 where
  pub footprint : Footprint
  pub answers : Answers m (answer.Reply a) footprint
  pub looks : List Entry
  pub number : ℕ
  pub own : d.own ≡ c.own ++ looks ++ entry_of c.number number footprint ∷ []

-- a view replied so, or the commit as which it ended
abbrev pub ViewsReply : Meaning → Reply → CallerView → CallerView → Type 0
ViewsReply m a c d = SawReply m a c d ⊎ CommitsReply m a c d

abbrev pub reply_told : Answered → Option Reply
reply_told (answered.Done a) = Some a
reply_told x = None

-- the reply of a view that has no entry, or of the commit as which it ended
abbrev pub reply_seen : Viewed → Option Reply
reply_seen (viewed.Done a) = Some a
reply_seen (viewed.Committed x) = reply_told x
reply_seen v = None

-- behind a front of the list, which has all that was known, it holds, and what has this meaning replies so
pub record SaysWhere (holds : (ℕ → ℕ) → Type 0) (s : Store) (es known : List Entry) (m : Meaning) (a : Reply) : Type 0 where
  pub footprint : Footprint
  pub seen : IsSeenWhere holds s es known footprint
  pub says : (run_on m seen.store).outcome ≡ replied a
