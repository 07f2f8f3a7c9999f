-- A walk over the places, as far as it has come.
use Rattle.std.proofs.Common.{◌≡◌, ◌≢◌, ℕ, zero, suc, ◌+◌, ◌<◌, ◌≤◌, List, [], ◌∷◌, ◌++◌, All, length, take, drop, get_or, refl, sym, ap, subst, ◌∙◌, arith, slice_index_or, Vec}
use Rattle.std.proofs.lemmas.List.{drop_more, take_all}
use Rattle.std.specs.Global.{Global}
use Rattle.kc_history.specs.Order.{one_record_more}
use Rattle.kc_history.specs.Ends.{AreWellMade}
use Rattle.kc_history.specs.Records.{footprint_at, lists_of}
use Rattle.kc_history.specs.RecordsValue.{RecordsValue}
use Rattle.kc_history.specs.Text.{reply_line}
use Rattle.kc_history.specs.declared.record.Place.{Place}
use Rattle.kc_history.specs.declared.record.Record.{Record}
use Rattle.kc_model.specs.Store.{Store}
use Rattle.kc_script_bundle.specs.declared.operation.Command.{Command}
use Rattle.kc_script_runs.proofs.Determined.{labelled_at}
use Rattle.kc_check.proofs.Padded.{as_many, blank_made, counts_none, padded_threads}
use Rattle.kc_check.proofs.Replays.{comes_more, comes_none, kept_counts, kept_none, made_more, place_within, turn_is}
use Rattle.kc_check.specs.Ages.{IsYoung}
use Rattle.kc_check.specs.Faults.{PlacesReplayed, HasToWait, IsOutOfTurn, RepliesElse, StopsAt}
use Rattle.kc_check.specs.Parts.{IsThreadPlace, said_at}
use Rattle.kc_check.specs.Replays.{CommitsAt, HaveRoom, WaitsAt, all_kept, all_padded, commands_of, counts}
use Rattle.kc_check.specs.Walks.{ComesKept}

halves : {X : Type 0} (xs : List X) (i : ℕ) → xs ≡ take i xs ++ drop i xs
halves [] zero = refl
halves [] (suc i) = refl
halves (x ∷ xs) zero = refl
halves {X} (x ∷ xs) (suc i) = ap (λ (ys : List X). x ∷ ys) (halves xs i)

pub parted : {X : Type 0} (xs : List X) (i : ℕ) (d : X) → i < length xs → xs ≡ take i xs ++ get_or xs i d ∷ drop (i + 1) xs
parted {X} xs i d lt = halves xs i ∙ ap (λ (ys : List X). take i xs ++ ys) (drop_more xs i d lt)

pub took : {X : Type 0} (xs : List X) (i : ℕ) → i ≤ length xs → length (take i xs) ≡ i
took xs zero le = refl
took [] (suc i) le = absurd (omega arith)
took (x ∷ xs) (suc i) le = ap suc (took xs i (omega arith))

one_more : {X : Type 0} (xs : List X) (i : ℕ) (d : X) → i < length xs → take (suc i) xs ≡ take i xs ++ get_or xs i d ∷ []
one_more [] i d lt = absurd (omega arith)
one_more (x ∷ xs) zero d lt = refl
one_more {X} (x ∷ xs) (suc i) d lt = ap (λ (ys : List X). x ∷ ys) (one_more xs i d (omega arith))

-- a thread has no more places than commands and an end
pub index_small : (n : ℕ) (vs : List (Vec Command Global)) (p : Place) → All (λ (v : Vec Command Global). length v.items ≤ n) vs → IsThreadPlace (commands_of vs) p → p.index ≤ n
index_small n vs p few is = at vs p.thread few is.thread is.index
  where
    at : (vs : List (Vec Command Global)) (t : ℕ) → All (λ (v : Vec Command Global). length v.items ≤ n) vs → t < length (commands_of vs) → p.index ≤ length (slice_index_or (commands_of vs) t []) → p.index ≤ n
    at [] t few lt le = absurd (omega arith)
    at (v ∷ vs) zero few lt le = let h = few zero v (omega arith) in omega arith
    at (v ∷ vs) (suc t) few lt le = at vs t (λ k d below. few (suc k) d (omega arith)) (omega arith) le

module _ (limit : ℕ) (threads : List (List Command)) (replies : List (List (List ℕ))) (first : Store) (places : List Place) where
  -- so many places have come
  pub record WalkedTo (i : ℕ) (now : Store) (vs : List RecordsValue) : Type 0 where
    pub comes : PlacesReplayed limit threads replies first (take i places) (counts (lists_of vs)) now (all_padded 1 threads (lists_of vs))
    pub room : HaveRoom limit 1 threads vs
    pub young : IsYoung i now
    pub made : AreWellMade (footprint_at (all_padded 1 threads (lists_of vs)))

  pub walked_none : (vs : List RecordsValue) → HaveRoom limit 1 threads vs → All (λ (v : RecordsValue). v.items ≡ []) vs → IsYoung 0 first → WalkedTo 0 first vs
  walked_none vs room empty young = record {
    comes = subst (λ (m : ℕ → ℕ). PlacesReplayed limit threads replies first [] m first (all_padded 1 threads (lists_of vs))) (sym (counts_none vs empty)) (comes_none limit threads replies first (all_padded 1 threads (lists_of vs)) (padded_threads limit 1 threads vs room));
    room = room;
    young = young;
    made = blank_made 1 threads vs (as_many limit 1 threads vs room) empty;
  }

  pub walked_more : (i : ℕ) (now then : Store) (vs ws : List RecordsValue) (d : Place) → i < length places → WalkedTo i now vs → (get_or places i d).index ≡ counts (lists_of vs) (get_or places i d).thread → (c : CommitsAt limit threads (get_or places i d) now then (all_padded 1 threads (lists_of vs)) (all_padded 1 threads (lists_of ws)))
      → counts (lists_of ws) ≡ one_record_more (get_or places i d).thread (counts (lists_of vs)) → HaveRoom limit 1 threads ws → said_at replies (get_or places i d) ≡ reply_line c.commit → IsYoung (i + 1) then → WalkedTo (i + 1) then ws
  walked_more i now then vs ws d lt walked turn c counted room said young =
      let p : Place = get_or places i d in
      let others : List (List Record) = all_padded 1 threads (lists_of ws) in
      let come = comes_more limit threads replies first (take i places) p (counts (lists_of vs)) now then (all_padded 1 threads (lists_of vs)) others walked.comes turn c said in
      let longer : take i places ++ p ∷ [] ≡ take (i + 1) places = sym (one_more places i d lt) ∙ ap (λ (k : ℕ). take k places) (let e : suc i ≡ i + 1 = omega arith in e) in
      record {
        comes = subst (λ (ps : List Place). PlacesReplayed limit threads replies first ps (counts (lists_of ws)) then others) longer (subst (λ (m : ℕ → ℕ). PlacesReplayed limit threads replies first (take i places ++ p ∷ []) m then others) (sym counted) come);
        room = room;
        young = young;
        made = made_more limit threads p now then (all_padded 1 threads (lists_of vs)) others c walked.made;
      }

  pub walked_all : (i : ℕ) (now : Store) (vs : List RecordsValue) → length places ≤ i → WalkedTo i now vs → PlacesReplayed limit threads replies first places (counts (lists_of vs)) now (all_padded 1 threads (lists_of vs))
  walked_all i now vs le walked = subst (λ (ps : List Place). PlacesReplayed limit threads replies first ps (counts (lists_of vs)) now (all_padded 1 threads (lists_of vs))) (take_all i places le) walked.comes

  module _ (i : ℕ) (now : Store) (vs : List RecordsValue) (d : Place) (lt : i < length places) (walked : WalkedTo i now vs) where
    stops_at : (Wrong : Place → (ℕ → ℕ) → Store → Type 0) → Wrong (get_or places i d) (counts (lists_of vs)) now → (p : Place) × (front : List Place) × StopsAt limit threads replies first places Wrong p front × (length front ≡ i)
    stops_at Wrong wrong = (get_or places i d, take i places, record { back = drop (i + 1) places; splits = parted places i d lt; stand = counts (lists_of vs); now = now; records = all_padded 1 threads (lists_of vs); comes = walked.comes; wrong = wrong }, took places i (omega arith))

    pub stops_turn : (get_or places i d).index ≢ counts (lists_of vs) (get_or places i d).thread → (p : Place) × (front : List Place) × StopsAt limit threads replies first places (IsOutOfTurn limit threads replies first) p front × (length front ≡ i)
    stops_turn ne = stops_at (IsOutOfTurn limit threads replies first) ne

    pub stops_waits : (get_or places i d).index ≡ counts (lists_of vs) (get_or places i d).thread → WaitsAt limit threads (get_or places i d) now → (p : Place) × (front : List Place) × StopsAt limit threads replies first places (HasToWait limit threads replies first) p front × (length front ≡ i)
    stops_waits turn w = stops_at (HasToWait limit threads replies first) (record { turn = turn; meaning = w.meaning; means = w.means; waits = w.waits })

    pub stops_reply : (then : Store) (ws : List RecordsValue) → (get_or places i d).index ≡ counts (lists_of vs) (get_or places i d).thread → (c : CommitsAt limit threads (get_or places i d) now then (all_padded 1 threads (lists_of vs)) (all_padded 1 threads (lists_of ws))) → said_at replies (get_or places i d) ≢ reply_line c.commit → (p : Place) × (front : List Place) × StopsAt limit threads replies first places (RepliesElse limit threads replies first) p front × (length front ≡ i)
    stops_reply then ws turn c differs =
        let p : Place = get_or places i d in
        let named = labelled_at 1 threads (all_padded 1 threads (lists_of ws)) c.labelled p.thread p.index c.commit c.stands in
        stops_at (RepliesElse limit threads replies first) (record { turn = turn; meaning = c.meaning; means = c.means; commit = c.commit; labelled = named; commits = c.commits; differs = differs })

-- ---- a turn of the walk

-- so many places have come, with records of which this is kept
pub record KeptTo (limit : ℕ) (threads : List (List Command)) (replies : List (List (List ℕ))) (first : Store) (places : List Place) (i : ℕ) (now : Store) (rs : List RecordsValue) : Type 0 where
  pub whole : List RecordsValue
  pub kept : rs ≡ all_kept whole
  pub walked : WalkedTo limit threads replies first places i now whole

pub keeps_none : (limit : ℕ) (threads : List (List Command)) (replies : List (List (List ℕ))) (first : Store) (places : List Place) (rs : List RecordsValue) → HaveRoom limit 1 threads rs → All (λ (v : RecordsValue). v.items ≡ []) rs → IsYoung 0 first → KeptTo limit threads replies first places 0 first rs
keeps_none limit threads replies first places rs room empty young = record { whole = rs; kept = kept_none rs empty; walked = walked_none limit threads replies first places rs room empty young }

pub keeps_all : (limit : ℕ) (threads : List (List Command)) (replies : List (List (List ℕ))) (first : Store) (places : List Place) (i : ℕ) (now : Store) (rs : List RecordsValue) → length places ≤ i → KeptTo limit threads replies first places i now rs → ComesKept limit threads replies first places now rs
keeps_all limit threads replies first places i now rs le k = record { whole = k.whole; kept = k.kept; comes = walked_all limit threads replies first places i now k.whole le k.walked; room = k.walked.room; made = k.walked.made }

-- the place at an index, and how many records its thread has
pub record Stands (limit : ℕ) (threads : List (List Command)) (rs : List RecordsValue) (p : Place) (long : ℕ) (whole : List RecordsValue) : Type 0 where
  pub is : IsThreadPlace threads p
  pub first : HaveRoom limit 1 threads whole
  pub kept : rs ≡ all_kept whole
  pub counted : counts (lists_of rs) p.thread ≡ long
  pub whole_counted : counts (lists_of whole) p.thread ≡ long

pub place_stands : (limit : ℕ) (threads : List (List Command)) (places : List Place) (i : ℕ) (d : Place) (rs whole : List RecordsValue) (row : RecordsValue) (long : ℕ) → All (IsThreadPlace threads) places → i < length places → HaveRoom limit 1 threads whole → rs ≡ all_kept whole → row ≡ get_or rs (get_or places i d).thread row → long ≡ length (get_or rs (get_or places i d).thread row).items → Stands limit threads rs (get_or places i d) long whole
place_stands limit threads places i d rs whole row long each lt room kept at is =
    let p : Place = get_or places i d in
    let within = place_within limit threads rs p (record { whole = whole; kept = kept; room = room }) (each i d lt) in
    let counted = turn_is rs p.thread row long within at is in
    record { is = each i d lt; first = room; kept = kept; counted = counted; whole_counted = sym (ap (λ (vs : List RecordsValue). counts (lists_of vs) p.thread) kept ∙ kept_counts whole p.thread) ∙ counted }
