-- What is meant at an index of a thread, and what a replay of it leaves.
use Rattle.std.proofs.Common.{◌≡◌, ◌≢◌, ◌⊎◌, inl, inr, ℕ, zero, suc, ◌+◌, ◌-◌, ◌<◌, ◌≤◌, List, [], ◌∷◌, ◌++◌, All, map, length, get_or, set, Option, Some, None, Contains, refl, sym, ap, ap₂, subst, ◌∙◌, arith, slice_index_or, Vec}
use Rattle.std.proofs.lemmas.List.{length-map, map-append}
use Rattle.kc_check.proofs.Whole.{labels_long}
use Rattle.std.specs.Global.{Global}
use Rattle.std.specs.Prelude.{slice_get}
use Rattle.kc_history.proofs.Choice.{some_is}
use Rattle.kc_history.proofs.Ready.{same_or, more_same, more_other}
use Rattle.kc_history.specs.Order.{one_record_more}
use Rattle.kc_history.specs.Ends.{AreWellMade, CanStand}
use Rattle.kc_history.specs.Records.{footprint_at, lists_of, record_at}
use Rattle.kc_history.specs.RecordsValue.{RecordsValue}
use Rattle.kc_history.specs.declared.record.Mark.TheVariants as mark
use Rattle.kc_model.specs.declared.footprint.TheConstants.{MOST}
use Rattle.kc_model.specs.declared.footprint.Footprint.{Footprint}
use Rattle.std.specs.Option.{option_map}
use Rattle.kc_history.specs.Text.{bare_record, reply_line}
use Rattle.kc_history.specs.declared.record.Head.{Head}
use Rattle.kc_history.specs.declared.record.Place.{Place}
use Rattle.kc_history.specs.declared.record.Record.{Record}
use Rattle.kc_model.specs.Store.{Store, after}
use Rattle.kc_script_bundle.specs.Meaning.{end_meaning}
use Rattle.kc_script_bundle.specs.declared.operation.Command.{Command}
use Rattle.kc_script_runs.specs.Labels.{ThreadsHaveRecords, Label, label, labels}
use Rattle.kc_script_runs.specs.Run.{IsCommit, Replays, meaning_at}
use Rattle.kc_script_runs.specs.Threads.{asked, meanings}
use Rattle.kc_xt.specs.Meaning.{Meaning, limited}
use Rattle.kc_check.proofs.Padded.{as_many, count_at, counts_set, padded_more, padded_row, padded_set, padded_threads, room_at, room_more, room_set}
use Rattle.kc_check.proofs.Headed.{head_line}
use Rattle.kc_check.proofs.Fronts.{replays_more, replays_same, turns_more}
use Rattle.kc_check.specs.Faults.{PlacesReplayed, InTurn}
use Rattle.kc_check.specs.Parts.{IsThreadPlace, said_at}
use Rattle.kc_check.specs.Replays.{AddsAt, CommitsAt, HasRoomForRecords, HaveRoom, KeepFirst, TakesOne, WaitsAt, WaitsIn, all_kept, all_padded, commands_of, counts, kept_list, kept_record, padded}

pub meanings_at : (limit thread : ℕ) (cs : List Command) (i : ℕ) (d : Command) → i < length cs → slice_get (meanings limit thread cs) i ≡ Some (asked limit thread (get_or cs i d))
meanings_at limit thread [] i d lt = absurd (omega arith)
meanings_at limit thread (c ∷ cs) zero d lt = refl
meanings_at limit thread (c ∷ cs) (suc i) d lt = meanings_at limit thread cs i d (omega arith)

pub meanings_end : (limit thread : ℕ) (cs : List Command) → slice_get (meanings limit thread cs) (length cs) ≡ Some (limited MOST (end_meaning 0))
meanings_end limit thread [] = refl
meanings_end limit thread (c ∷ cs) = meanings_end limit thread cs

-- the labels beside them
pub labels_at : (thread number : ℕ) (cs : List Command) (i n : ℕ) → i < length cs → i + number ≡ n → slice_get (labels thread number cs) i ≡ Some (record { thread = thread; mark = mark.Command n })
labels_at thread number [] i n lt is = absurd (omega arith)
labels_at thread number (c ∷ cs) zero n lt is = ap (λ (k : ℕ). Some (let l : Label = record { thread = thread; mark = mark.Command k } in l)) (let e : number ≡ n = omega (arith, is) in e)
labels_at thread number (c ∷ cs) (suc i) n lt is = labels_at thread (number + 1) cs i n (omega arith) (omega (arith, is))

pub labels_end : (thread number : ℕ) (cs : List Command) → slice_get (labels thread number cs) (length cs) ≡ Some (record { thread = thread; mark = mark.End })
labels_end thread number [] = refl
labels_end thread number (c ∷ cs) = labels_end thread (number + 1) cs

-- ---- from a thread's list to all lists

get_set : {X : Type 0} (xs : List X) (k : ℕ) (x : X) → k < length xs → slice_get (set xs k x) k ≡ Some x
get_set [] k x lt = absurd (omega arith)
get_set (y ∷ xs) zero x lt = refl
get_set (y ∷ xs) (suc k) x lt = get_set xs k x (omega arith)

get_set_other : {X : Type 0} (xs : List X) (k j : ℕ) (x : X) → j ≢ k → slice_get (set xs k x) j ≡ slice_get xs j
get_set_other [] k j x ne = refl
get_set_other (y ∷ xs) zero zero x ne = absurd (ne refl)
get_set_other (y ∷ xs) zero (suc j) x ne = refl
get_set_other (y ∷ xs) (suc k) zero x ne = refl
get_set_other (y ∷ xs) (suc k) (suc j) x ne = get_set_other xs k j x (λ e. ne (ap suc e))

row_set : (rs : List (List Record)) (t : ℕ) (w : List Record) → t < length rs → slice_index_or (set rs t w) t [] ≡ w
row_set [] t w lt = absurd (omega arith)
row_set (r ∷ rs) zero w lt = refl
row_set (r ∷ rs) (suc t) w lt = row_set rs t w (omega arith)

row_set_other : (rs : List (List Record)) (t u : ℕ) (w : List Record) → u ≢ t → slice_index_or (set rs t w) u [] ≡ slice_index_or rs u []
row_set_other [] t u w ne = refl
row_set_other (r ∷ rs) zero zero w ne = absurd (ne refl)
row_set_other (r ∷ rs) zero (suc u) w ne = refl
row_set_other (r ∷ rs) (suc t) zero w ne = refl
row_set_other (r ∷ rs) (suc t) (suc u) w ne = row_set_other rs t u w (λ e. ne (ap suc e))

pub commands_are : (vs : List (Vec Command Global)) (t : ℕ) (v : Vec Command Global) → t < length vs → v ≡ get_or vs t v → slice_index_or (commands_of vs) t [] ≡ v.items
commands_are [] t v lt e = absurd (omega arith)
commands_are (x ∷ vs) zero v lt e = ap (λ (y : Vec Command Global). y.items) (sym e)
commands_are (x ∷ vs) (suc t) v lt e = commands_are vs t v (omega arith) e

place_is : (p q : Place) → q.thread ≡ p.thread → q.index ≡ p.index → q ≡ p
place_is p q e f = ap₂ (λ (t k : ℕ). let x : Place = record { thread = t; index = k } in x) e f

-- one record of the lists is the commit of what is meant at the place
pub commits_at : (limit : ℕ) (threads : List (List Command)) (p : Place) (s t : Store) (old new : List (List Record)) (m : Meaning) (r : Record) → p.thread < length old → p.index < length (slice_index_or old p.thread []) → meaning_at limit threads p.thread p.index ≡ Some m → IsCommit m s r → CanStand r.footprint → t ≡ after r.footprint s
    → new ≡ set old p.thread (set (slice_index_or old p.thread []) p.index r) → ThreadsHaveRecords 1 threads new → CommitsAt limit threads p s t old new
commits_at limit threads p s t old new m r within inside means commit made store is labelled =
    let row : List Record = slice_index_or old p.thread [] in
    let here : slice_index_or new p.thread [] ≡ set row p.index r = ap (λ (xs : List (List Record)). slice_index_or xs p.thread []) is ∙ row_set old p.thread (set row p.index r) within in
    record {
      meaning = m;
      means = means;
      commit = r;
      stands = ap (λ (xs : List Record). slice_get xs p.index) here ∙ get_set row p.index r inside;
      commits = commit;
      made = made;
      others = λ q ne. elim (same_or q.thread p.thread) [
        | inl e ↦
            let far : q.index ≢ p.index = λ i. ne (place_is p q e i) in
            ap (λ (u : ℕ). slice_get (slice_index_or new u []) q.index) e ∙ ap (λ (xs : List Record). slice_get xs q.index) here ∙ get_set_other row p.index q.index r far
            ∙ sym (ap (λ (u : ℕ). slice_get (slice_index_or old u []) q.index) e)
        | inr ne' ↦ ap (λ (xs : List (List Record)). slice_get (slice_index_or xs q.thread []) q.index) is ∙ ap (λ (xs : List Record). slice_get xs q.index) (row_set_other old p.thread q.thread (set row p.index r) ne')
      ];
      labelled = labelled;
      store = store;
    }

pub threads_long : (j : ℕ) (threads : List (List Command)) (records : List (List Record)) → ThreadsHaveRecords j threads records → length records ≡ length threads
threads_long j [] [] h = refl
threads_long j [] (r ∷ rs) h = absurd h
threads_long j (cs ∷ threads) [] h = absurd h
threads_long j (cs ∷ threads) (r ∷ rs) h = ap suc (threads_long (j + 1) threads rs h.1)

row_labels : (j : ℕ) (threads : List (List Command)) (records : List (List Record)) (t : ℕ) → t < length threads → ThreadsHaveRecords j threads records → length (slice_index_or records t []) ≡ length (slice_index_or threads t []) + 1
row_labels j [] records t lt h = absurd (omega arith)
row_labels j (cs ∷ threads) [] t lt h = absurd h
row_labels j (cs ∷ threads) (rs ∷ records) zero lt h =
    let a = length-map rs label in
    let b = ap length h.0 in
    let c = labels_long j 1 cs in
    omega (arith, a, b, c)
row_labels j (cs ∷ threads) (rs ∷ records) (suc t) lt h = row_labels (j + 1) threads records t (omega arith) h.1

pub commands_long : (vs : List (Vec Command Global)) → length (commands_of vs) ≡ length vs
commands_long vs = length-map vs (λ (v : Vec Command Global). v.items)

-- ---- what is kept

pub kept_long : (vs : List RecordsValue) → length (all_kept vs) ≡ length vs
kept_long vs = length-map vs kept_list

pub kept_counts : (vs : List RecordsValue) (t : ℕ) → counts (lists_of (all_kept vs)) t ≡ counts (lists_of vs) t
kept_counts [] t = refl
kept_counts (v ∷ vs) zero = length-map v.items kept_record
kept_counts (v ∷ vs) (suc t) = kept_counts vs t

kept_at : (vs : List RecordsValue) (t : ℕ) (d e : RecordsValue) → t < length vs → get_or (all_kept vs) t d ≡ kept_list (get_or vs t e)
kept_at [] t d e lt = absurd (omega arith)
kept_at (v ∷ vs) zero d e lt = refl
kept_at (v ∷ vs) (suc t) d e lt = kept_at vs t d e (omega arith)

kept_set : (vs : List RecordsValue) (t : ℕ) (v : RecordsValue) → all_kept (set vs t v) ≡ set (all_kept vs) t (kept_list v)
kept_set [] t v = refl
kept_set (w ∷ vs) zero v = refl
kept_set (w ∷ vs) (suc t) v = ap (λ (xs : List RecordsValue). kept_list w ∷ xs) (kept_set vs t v)

-- where there is none yet, they are kept as they are
pub kept_none : (vs : List RecordsValue) → All (λ (v : RecordsValue). v.items ≡ []) vs → vs ≡ all_kept vs
kept_none [] h = refl
kept_none (v ∷ vs) h = ap₂ (λ (x : RecordsValue) (xs : List RecordsValue). x ∷ xs) (none (h zero v (omega arith))) (kept_none vs (λ k d lt. h (suc k) d (omega arith)))
  where
    none : v.items ≡ [] → v ≡ kept_list v
    none e = λ i. record { items = (e ∙ sym (ap (map kept_record) e)) i; spare = v.spare; bare = v.bare; limit = v.limit }

same_at : {X : Type 0} (xs : List X) (t : ℕ) (d e : X) → t < length xs → get_or xs t d ≡ get_or xs t e
same_at [] t d e lt = absurd (omega arith)
same_at (x ∷ xs) zero d e lt = refl
same_at (x ∷ xs) (suc t) d e lt = same_at xs t d e (omega arith)

-- the list at a place, and what is kept of it
pub record Row (limit : ℕ) (threads : List (List Command)) (whole : List RecordsValue) (p : Place) (kept : RecordsValue) : Type 0 where
  pub list : RecordsValue
  pub within : p.thread < length whole
  pub at : list ≡ get_or whole p.thread list
  pub is : kept ≡ kept_list list
  pub long : length kept.items ≡ length list.items
  pub room : HasRoomForRecords limit (p.thread + 1) (slice_index_or threads p.thread []) list
  pub turn : p.index ≡ counts (lists_of whole) p.thread → length list.items ≡ p.index

pub row_of : (limit : ℕ) (threads : List (List Command)) (rs : List RecordsValue) (p : Place) (w : RecordsValue) → (k : KeepFirst limit threads rs) → IsThreadPlace threads p → w ≡ get_or rs p.thread w → Row limit threads k.whole p w
row_of limit threads rs p w k is e =
    let whole : List RecordsValue = k.whole in
    let long = as_many limit 1 threads whole k.room in
    let below = is.thread in
    let within : p.thread < length whole = omega (arith, long, below) in
    let list : RecordsValue = get_or whole p.thread w in
    let at : list ≡ get_or whole p.thread list = same_at whole p.thread w list within in
    let same : w ≡ kept_list list = e ∙ ap (λ (xs : List RecordsValue). get_or xs p.thread w) k.kept ∙ kept_at whole p.thread w w within in
    record {
      list = list;
      within = within;
      at = at;
      is = same;
      long = ap (λ (x : RecordsValue). length x.items) same ∙ length-map list.items kept_record;
      room = room_at limit 1 threads whole p.thread (p.thread + 1) list k.room below (omega arith) at;
      turn = λ turn. sym (turn ∙ count_at whole p.thread list within at);
    }

pub kept_turn : (limit : ℕ) (threads : List (List Command)) (rs : List RecordsValue) (p : Place) → (k : KeepFirst limit threads rs) → p.index ≡ counts (lists_of rs) p.thread → p.index ≡ counts (lists_of k.whole) p.thread
kept_turn limit threads rs p k turn = turn ∙ ap (λ (vs : List RecordsValue). counts (lists_of vs) p.thread) k.kept ∙ kept_counts k.whole p.thread

-- it takes one more
pub row_takes : (limit : ℕ) (threads : List (List Command)) (whole : List RecordsValue) (p : Place) (w : RecordsValue) → Row limit threads whole p w → IsThreadPlace threads p → p.index ≡ counts (lists_of whole) p.thread → TakesOne limit w
row_takes limit threads whole p w row is turn =
    let count = row.turn turn in
    let le = is.index in
    let room = row.room.1 in
    subst (TakesOne limit) (sym row.is) (row.room.3, omega (arith, count, le, room), row.room.2)

-- one more record, of which this is kept
pub record Filled (limit : ℕ) (threads : List (List Command)) (p : Place) (s t : Store) (h : Head) (whole others : List RecordsValue) : Type 0 where
  pub now : List RecordsValue
  pub kept : others ≡ all_kept now
  pub room : HaveRoom limit 1 threads now
  pub grown : counts (lists_of now) ≡ one_record_more p.thread (counts (lists_of whole))
  pub commits : CommitsAt limit threads p s t (all_padded 1 threads (lists_of whole)) (all_padded 1 threads (lists_of now))
  pub line : reply_line (bare_record h) ≡ reply_line commits.commit

pub fills_at : (limit : ℕ) (threads : List (List Command)) (rs others : List RecordsValue) (p : Place) (s t : Store) (h : Head) → (kept : KeepFirst limit threads rs) → IsThreadPlace threads p → p.index ≡ counts (lists_of kept.whole) p.thread → AddsAt limit threads p s t h rs others → Filled limit threads p s t h kept.whole others
unfolding commits_at
fills_at limit threads rs others p s t h kept is turn a =
    let whole : List RecordsValue = kept.whole in
    let row = row_of limit threads rs p a.was kept is a.found in
    let k : ℕ = p.thread + 1 in
    let cs : List Command = slice_index_or threads p.thread [] in
    let w : RecordsValue = row.list in
    let c = a.commits in
    let r : Record = record { thread = k; mark = c.mark; answer = c.adds.answer; footprint = c.adds.footprint } in
    let l : Label = record { thread = k; mark = c.mark } in
    let w' : RecordsValue = record { items = w.items ++ r ∷ []; spare = w.spare; bare = w.bare - 1; limit = w.limit } in
    let now : List RecordsValue = set whole p.thread w' in
    let count : length w.items ≡ p.index = row.turn turn in
    let means : slice_get (meanings limit k cs) p.index ≡ Some c.meaning = ap (slice_get (meanings limit k cs)) (sym count ∙ sym row.long) ∙ c.means in
    let labelled : slice_get (labels k 1 cs) (length w.items) ≡ Some l = ap (slice_get (labels k 1 cs)) (sym row.long) ∙ c.labelled in
    let items : a.now.items ≡ map kept_record (w.items ++ r ∷ []) = c.adds.items ∙ ap (λ (x : RecordsValue). x.items ++ kept_record r ∷ []) row.is ∙ sym (map-append kept_record w.items (r ∷ [])) in
    let spare : a.now.spare ≡ w.spare = c.adds.spare ∙ ap (λ (x : RecordsValue). x.spare) row.is in
    let bare_is : a.now.bare ≡ w.bare - 1 = c.adds.bare ∙ ap (λ (x : RecordsValue). x.bare - 1) row.is in
    let limit_is : a.now.limit ≡ w.limit = c.adds.limit ∙ ap (λ (x : RecordsValue). x.limit) row.is in
    let now_is : a.now ≡ kept_list w' = (λ i. record { items = items i; spare = spare i; bare = bare_is i; limit = limit_is i }) in
    let some : 0 < w.bare = (let le = is.index in let room_is = row.room.1 in omega (arith, count, room_is, le)) in
    let room' : HasRoomForRecords limit k cs w' = room_more limit k cs w w' r l row.room some labelled refl refl refl refl refl in
    let room : HaveRoom limit 1 threads now = room_set limit 1 threads whole p.thread k w' kept.room (omega arith) room' in
    let old : List (List Record) = all_padded 1 threads (lists_of whole) in
    let old_row : slice_index_or old p.thread [] ≡ padded k cs w.items = padded_row 1 threads whole p.thread k w is.thread row.within (omega arith) row.at in
    let new_row : padded k cs w'.items ≡ set (slice_index_or old p.thread []) p.index r = padded_more k cs w.items r l row.room.0 labelled ∙ ap₂ (λ (xs : List Record) (i : ℕ). set xs i r) (sym old_row) count in
    let new_is : all_padded 1 threads (lists_of now) ≡ set old p.thread (set (slice_index_or old p.thread []) p.index r) = padded_set 1 threads whole p.thread k w' is.thread row.within (omega arith) ∙ ap (λ (xs : List Record). set old p.thread xs) new_row in
    let all_labelled = padded_threads limit 1 threads whole kept.room in
    let long = threads_long 1 threads old all_labelled in
    let lt = is.thread in
    let within : p.thread < length old = omega (arith, long, lt) in
    let row_long = row_labels 1 threads old p.thread is.thread all_labelled in
    let le = is.index in
    let inside : p.index < length (slice_index_or old p.thread []) = omega (arith, row_long, le) in
    let commits = c.adds.commits in
    record {
      now = now;
      kept = a.sets ∙ ap₂ (λ (xs : List RecordsValue) (x : RecordsValue). set xs p.thread x) kept.kept now_is ∙ sym (kept_set whole p.thread w');
      room = room;
      grown = counts_set whole p.thread w w' row.within row.at (length_more w.items r);
      commits = commits_at limit threads p s t old (all_padded 1 threads (lists_of now)) c.meaning r within inside means (record { finds = commits.finds; answers = commits.answers }) commits.made commits.store new_is (padded_threads limit 1 threads now room);
      line = ap (λ (x : Head). reply_line (bare_record x)) c.adds.head ∙ head_line r;
    }
  where
    length_more : (xs : List Record) (x : Record) → length (xs ++ x ∷ []) ≡ length xs + 1
    length_more [] x = refl
    length_more (y ∷ xs) x = let h = length_more xs x in omega (arith, h)

pub waits_at : (limit : ℕ) (threads : List (List Command)) (whole : List RecordsValue) (p : Place) (s : Store) (w : RecordsValue) → Row limit threads whole p w → p.index ≡ counts (lists_of whole) p.thread → WaitsIn limit (p.thread + 1) (slice_index_or threads p.thread []) (length w.items) s → WaitsAt limit threads p s
waits_at limit threads whole p s w row turn c = record { meaning = c.meaning; means = ap (slice_get (meanings limit (p.thread + 1) (slice_index_or threads p.thread []))) (sym (row.turn turn) ∙ sym row.long) ∙ c.means; waits = c.waits }

some_in : (o : Option Record) (f : Footprint) → option_map (λ (r : Record). r.footprint) o ≡ Some f → (r : Record) × (o ≡ Some r) × (r.footprint ≡ f)
some_in None f e = absurd (cc)
some_in (Some r) f e = (r, refl, some_is r.footprint f e)

-- footprints that can stand still do, with one more
pub made_more : (limit : ℕ) (threads : List (List Command)) (p : Place) (s t : Store) (old new : List (List Record)) → CommitsAt limit threads p s t old new → AreWellMade (footprint_at old) → AreWellMade (footprint_at new)
made_more limit threads p s t old new c made u k f is =
    let (r, at, has) = some_in (record_at new u k) f is in
    elim (same_or u p.thread) [
      | inl e ↦ elim (same_or k p.index) [
        | inl i ↦
            let same : c.commit ≡ r = some_is c.commit r (sym c.stands ∙ ap₂ (record_at new) (sym e) (sym i) ∙ at) in
            subst CanStand (ap (λ (q : Record). q.footprint) same ∙ has) c.made
        | inr ne ↦ made u k f (kept u k f r at has (λ h. ne (ap (λ (q : Place). q.index) h)))
      ]
      | inr ne ↦ made u k f (kept u k f r at has (λ h. ne (ap (λ (q : Place). q.thread) h)))
    ]
  where
    kept : (u k : ℕ) (f : Footprint) (r : Record) → record_at new u k ≡ Some r → r.footprint ≡ f → (let q : Place = record { thread = u; index = k } in q) ≢ p → footprint_at old u k ≡ Some f
    kept u k f r at has ne = ap (option_map (λ (q : Record). q.footprint)) (sym (c.others (record { thread = u; index = k }) ne) ∙ at) ∙ ap Some has

-- ---- one place more comes

more_le : (t : ℕ) (n : ℕ → ℕ) (u : ℕ) → n u ≤ one_record_more t n u
more_le t n u = elim (same_or u t) [
  | inl e ↦ let h = more_same t n u e in omega arith
  | inr ne ↦ let h = more_other t n u ne in omega arith
]

turns_grow : (ps : List Place) (n m : ℕ → ℕ) → InTurn n ps m → (u : ℕ) → n u ≤ m u
turns_grow [] n m h u = let e : m u ≡ n u = ap (λ (k : ℕ → ℕ). k u) h in omega arith
turns_grow (p ∷ ps) n m h u = let a = more_le p.thread n u in let b = turns_grow ps (one_record_more p.thread n) m h.1 u in omega arith

pub turn_below : (ps : List Place) (n m : ℕ → ℕ) → InTurn n ps m → (q : Place) → Contains ps q → q.index < m q.thread
turn_below [] n m h q (i, lt, is) = absurd (omega arith)
turn_below (p ∷ ps) n m h q (zero, lt, is) =
    let a : one_record_more p.thread n p.thread ≡ n p.thread + 1 = more_same p.thread n p.thread refl in
    let b : one_record_more p.thread n p.thread ≤ m p.thread = turns_grow ps (one_record_more p.thread n) m h.1 p.thread in
    let c : p.index ≡ n p.thread = h.0 in
    let d : p.index < m p.thread = omega arith in
    subst (λ (x : Place). x.index < m x.thread) is d
turn_below (p ∷ ps) n m h q (suc i, lt, is) = turn_below ps (one_record_more p.thread n) m h.1 q (i, omega arith, is)

contains_more : {X : Type 0} (xs : List X) (x y : X) → Contains (xs ++ x ∷ []) y → Contains xs y ⊎ (x ≡ y)
contains_more [] x y (zero, lt, is) = inr is
contains_more [] x y (suc i, lt, is) = absurd (omega arith)
contains_more (z ∷ xs) x y (zero, lt, is) = inl (0, omega arith, is)
contains_more (z ∷ xs) x y (suc i, lt, is) = elim (contains_more xs x y (i, omega arith, is)) [ inl h ↦ inl (suc h.0, omega (arith, h.1), h.2) | inr e ↦ inr e ]

module _ (limit : ℕ) (threads : List (List Command)) (replies : List (List (List ℕ))) (first : Store) where
  pub comes_none : (records : List (List Record)) → ThreadsHaveRecords 1 threads records → PlacesReplayed limit threads replies first [] (λ _. 0) first records
  comes_none records labelled = record { labelled = labelled; turns = refl; replays = refl; said = λ p (i, lt, is) r at. absurd (omega arith) }

  pub comes_more : (front : List Place) (p : Place) (stand : ℕ → ℕ) (now next : Store) (records others : List (List Record)) → PlacesReplayed limit threads replies first front stand now records → p.index ≡ stand p.thread → (c : CommitsAt limit threads p now next records others) → said_at replies p ≡ reply_line c.commit
      → PlacesReplayed limit threads replies first (front ++ p ∷ []) (one_record_more p.thread stand) next others
  comes_more front p stand now next records others comes turn c said =
      let far : (q : Place) → Contains front q → q ≢ p = λ q inside e. (let below : q.index < stand q.thread = turn_below front (λ _. 0) stand comes.turns q inside in let moved : p.index < stand p.thread = subst (λ (x : Place). x.index < stand x.thread) e below in omega arith) in
      let kept : Replays limit threads others first front now = replays_same limit threads records others front first now (λ q inside. sym (c.others q (far q inside))) comes.replays in
      record {
        labelled = c.labelled;
        turns = turns_more front p (λ _. 0) stand comes.turns turn;
        replays = subst (λ (x : Store). Replays limit threads others first (front ++ p ∷ []) x) (sym c.store) (replays_more limit threads others front p first now c.meaning c.commit kept c.means c.stands c.commits);
        said = λ q inside r at. elim (contains_more front p q inside) [
          | inl h ↦ comes.said q h r (sym (c.others q (far q h)) ∙ at)
          | inr e ↦
              let same : c.commit ≡ r = some_is c.commit r (sym c.stands ∙ ap (λ (x : Place). record_at others x.thread x.index) e ∙ at) in
              ap (said_at replies) (sym e) ∙ said ∙ ap reply_line same
        ];
      }

pub place_within : (limit : ℕ) (threads : List (List Command)) (rs : List RecordsValue) (p : Place) → KeepFirst limit threads rs → IsThreadPlace threads p → p.thread < length rs
place_within limit threads rs p h is =
    let a = as_many limit 1 threads h.whole h.room in
    let b = ap length h.kept ∙ kept_long h.whole in
    let d = is.thread in
    omega (arith, a, b, d)

-- how many records its thread has
pub turn_is : (rs : List RecordsValue) (t : ℕ) (r : RecordsValue) (n : ℕ) → t < length rs → r ≡ get_or rs t r → n ≡ length (get_or rs t r).items → counts (lists_of rs) t ≡ n
turn_is rs t r n lt at is = count_at rs t (get_or rs t r) lt (ap (get_or rs t) at) ∙ sym is
