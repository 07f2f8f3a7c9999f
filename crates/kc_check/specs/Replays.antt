-- What a replay of one place does.
use Rattle.std.specs.Prelude.{◌≡◌, ◌≢◌, ℕ, ◌+◌, ◌-◌, ◌<◌, ◌≤◌, List, [], ◌∷◌, ◌++◌, All, Some, drop, get_or, length, map, set, slice_get, slice_index_or, Vec}
use Rattle.std.specs.Global.{Global}
use Rattle.kc_history.specs.Ends.{CanStand}
use Rattle.kc_history.specs.Joined.{blank_head, record_of}
use Rattle.kc_history.specs.Kept.{print}
use Rattle.kc_history.specs.Records.{record_at}
use Rattle.kc_history.specs.RecordsValue.{RecordsValue}
use Rattle.kc_history.specs.declared.record.Head.{Head}
use Rattle.kc_history.specs.declared.record.Mark.{Mark}
use Rattle.kc_history.specs.declared.record.Place.{Place}
use Rattle.kc_history.specs.declared.record.Record.{Record}
use Rattle.kc_model.specs.Store.{Store, Finds, after}
use Rattle.kc_model.specs.declared.footprint.Footprint.{Footprint}
use Rattle.kc_model.specs.declared.reply.Answer.{Answer}
use Rattle.kc_model.specs.declared.reply.Answer.TheVariants as answer
use Rattle.kc_model.specs.declared.reply.Reply.TheVariants as reply
use Rattle.kc_script_bundle.specs.Meaning.{CommandIsFit}
use Rattle.kc_script_bundle.specs.declared.operation.Command.{Command}
use Rattle.kc_script_runs.specs.Ask.{ask_end}
use Rattle.kc_script_runs.specs.Labels.{Label, label, labels, ThreadsHaveRecords}
use Rattle.kc_script_runs.specs.Run.{IsCommit, meaning_at}
use Rattle.kc_script_runs.specs.Threads.{meanings}
use Rattle.kc_xt.specs.Commit.{Answers, run_on}
use Rattle.kc_xt.specs.Meaning.{Meaning, retried, touched_after}

-- a store of so many locations can run the command
pub record CanAsk (locations : ℕ) (c : Command) : Type 0 where
  pub fit : CommandIsFit c
  pub within : ask_end 0 c ≤ locations

-- of so many locations each thread's commands
abbrev pub AllCanAsk : ℕ → List (Vec Command Global) → Type 0
AllCanAsk locations threads = All (λ (v : Vec Command Global). All (CanAsk locations) v.items) threads

-- ---- records that are still to be made

-- a record with this label, of nothing
abbrev pub blank : Label → Record
blank l = record { thread = l.thread; mark = l.mark; answer = answer.Reply reply.Unit; footprint = print [] [] }

-- a thread's records so far, and behind them blank ones up to its end
abbrev pub padded : ℕ → List Command → List Record → List Record
padded thread cs rs = rs ++ drop (length rs) (map blank (labels thread 1 cs))

-- of all threads, numbered from here on
abbrev pub all_padded : ℕ → List (List Command) → List (List Record) → List (List Record)
all_padded thread [] records = []
all_padded thread (cs ∷ threads) [] = padded thread cs [] ∷ all_padded (thread + 1) threads []
all_padded thread (cs ∷ threads) (rs ∷ records) = padded thread cs rs ∷ all_padded (thread + 1) threads records

-- the first of these labels
abbrev pub AreFirst : List Label → List Record → Type 0
AreFirst ls [] = Unit {0}
AreFirst [] (r ∷ rs) = ⊥
AreFirst (l ∷ ls) (r ∷ rs) = (label r ≡ l) × AreFirst ls rs

-- the records so far are of the threads' first commands, and there is room for the footprints of the others, of so many locations each
abbrev pub HasRoomForRecords : ℕ → ℕ → List Command → RecordsValue → Type 0
HasRoomForRecords limit thread cs v = AreFirst (labels thread 1 cs) v.items × (length v.items + v.bare ≡ length cs + 1) × (v.limit ≡ limit) × (v.spare ≡ 0)

abbrev pub HaveRoom : ℕ → ℕ → List (List Command) → List RecordsValue → Type 0
HaveRoom limit thread [] [] = Unit {0}
HaveRoom limit thread (cs ∷ threads) (v ∷ vs) = HasRoomForRecords limit thread cs v × HaveRoom limit (thread + 1) threads vs
HaveRoom limit thread [] (v ∷ vs) = ⊥
HaveRoom limit thread (cs ∷ threads) [] = ⊥

-- ---- what is kept of records

-- of one: its footprint, with the blank head
abbrev pub kept_record : Record → Record
kept_record r = record_of blank_head r.footprint

-- of those of a thread
abbrev pub kept_list : RecordsValue → RecordsValue
kept_list v = record { items = map kept_record v.items; spare = v.spare; bare = v.bare; limit = v.limit }

-- of all
abbrev pub all_kept : List RecordsValue → List RecordsValue
all_kept vs = map kept_list vs

-- they are what is kept of the records so far
pub record KeepFirst (limit : ℕ) (threads : List (List Command)) (rs : List RecordsValue) : Type 0 where
  pub whole : List RecordsValue
  pub kept : rs ≡ all_kept whole
  pub room : HaveRoom limit 1 threads whole

-- there is room for one more footprint, of so many locations
abbrev pub TakesOne : ℕ → RecordsValue → Type 0
TakesOne limit v = (v.spare ≡ 0) × (0 < v.bare) × (v.limit ≡ limit)

-- ---- a replay

-- on a store it is answered so, and leads to this store with this footprint
pub record CommitsInReplay (m : Meaning) (s t : Store) (a : Answer) (f : Footprint) : Type 0 where
  pub finds : Finds f s
  pub answers : Answers m a f
  pub made : CanStand f
  pub store : t ≡ after f s

-- it touches no more locations than so many, whatever the store
abbrev pub TouchesFew : ℕ → Meaning → Type 0
TouchesFew limit m = (s : Store) → length (touched_after [] (run_on m s).touches) ≤ limit

-- the commit's footprint stands behind the others, and this is the head of its record
pub record AddsRecord (m : Meaning) (s t : Store) (thread : ℕ) (mark : Mark) (h : Head) (old new : RecordsValue) : Type 0 where
  pub answer : Answer
  pub footprint : Footprint
  pub commits : CommitsInReplay m s t answer footprint
  pub head : h ≡ record { thread = thread; mark = mark; answer = answer }
  pub items : new.items ≡ old.items ++ record_of blank_head footprint ∷ []
  pub spare : new.spare ≡ old.spare
  pub bare : new.bare ≡ old.bare - 1
  pub limit : new.limit ≡ old.limit

-- what is kept of a thread's next record is now of the commit of what is meant there, which has this head
pub record CommitsIn (limit thread : ℕ) (commands : List Command) (s t : Store) (h : Head) (old new : RecordsValue) : Type 0 where
  pub meaning : Meaning
  pub means : slice_get (meanings limit thread commands) (length old.items) ≡ Some meaning
  pub mark : Mark
  pub labelled : slice_get (labels thread 1 commands) (length old.items) ≡ Some (record { thread = thread; mark = mark })
  pub adds : AddsRecord meaning s t thread mark h old new

-- what is meant at an index has to wait
pub record WaitsIn (limit thread : ℕ) (commands : List Command) (index : ℕ) (s : Store) : Type 0 where
  pub meaning : Meaning
  pub means : slice_get (meanings limit thread commands) index ≡ Some meaning
  pub waits : (run_on meaning s).outcome ≡ retried

-- how many records each thread has
abbrev pub counts : List (List Record) → ℕ → ℕ
counts records thread = length (slice_index_or records thread [])

-- the commands in vectors
abbrev pub commands_of : List (Vec Command Global) → List (List Command)
commands_of threads = map (λ (v : Vec Command Global). v.items) threads

-- the list of the place's thread has what is kept of the commit of what is meant there, which has this head
pub record AddsAt (limit : ℕ) (threads : List (List Command)) (p : Place) (s t : Store) (h : Head) (old new : List RecordsValue) : Type 0 where
  pub was : RecordsValue
  pub now : RecordsValue
  pub found : was ≡ get_or old p.thread was
  pub commits : CommitsIn limit (p.thread + 1) (slice_index_or threads p.thread []) s t h was now
  pub sets : new ≡ set old p.thread now

-- the record at a place is now the commit of what is meant there, and the others are as they were
pub record CommitsAt (limit : ℕ) (threads : List (List Command)) (p : Place) (s t : Store) (old new : List (List Record)) : Type 0 where
  pub meaning : Meaning
  pub means : meaning_at limit threads p.thread p.index ≡ Some meaning
  pub commit : Record
  pub stands : record_at new p.thread p.index ≡ Some commit
  pub commits : IsCommit meaning s commit
  pub made : CanStand commit.footprint
  pub others : (q : Place) → q ≢ p → record_at new q.thread q.index ≡ record_at old q.thread q.index
  pub labelled : ThreadsHaveRecords 1 threads new
  pub store : t ≡ after commit.footprint s

-- what is meant at a place has to wait
pub record WaitsAt (limit : ℕ) (threads : List (List Command)) (p : Place) (s : Store) : Type 0 where
  pub meaning : Meaning
  pub means : meaning_at limit threads p.thread p.index ≡ Some meaning
  pub waits : (run_on meaning s).outcome ≡ retried
