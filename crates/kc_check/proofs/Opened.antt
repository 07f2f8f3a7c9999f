-- A script that bytes spell, its opening store, and room for its records.
use Rattle.std.proofs.Common.{◌≡◌, ◌≢◌, ℕ, zero, suc, ◌+◌, ◌<◌, ◌≤◌, ◌&&◌, Bool, true, false, List, [], ◌∷◌, ◌++◌, length, take, get_or, All, refl, sym, ap, subst, ◌∙◌, arith, slice_index_or, Vec}
use Rattle.std.proofs.lemmas.Bool.Decides.{nat_tests}
use Rattle.std.proofs.lemmas.List.{length-map, take_all, take_more}
use Rattle.std.proofs.lemmas.List.Sums.{sum_by-cons}
use Rattle.std.specs.Global.{Global}
use Rattle.std.specs.List.{list_all}
use Rattle.kc_history.specs.RecordsValue.{RecordsValue}
use Rattle.kc_model.proofs.Stores.{opened_length}
use Rattle.kc_model.specs.Store.{opened, store_of}
use Rattle.kc_model.specs.declared.footprint.TheConstants.{MOST}
use Rattle.kc_model.specs.declared.plain_store.Cell.{Cell}
use Rattle.kc_script.proofs.Again.{limit_fits, some_cells}
use Rattle.kc_script.proofs.Spelled.{on_at, spelled_lies, spelled_sized, spelled_threads, spelled_threads_few}
use Rattle.kc_script.specs.Spells.{Declare, Line, Spells}
use Rattle.kc_script.specs.declared.reader.Version.{Version}
use Rattle.kc_script.specs.Threads.{AreThreads as AreOn}
use Rattle.kc_script_bundle.proofs.Fitting.{command_fits, command_within}
use Rattle.kc_script_bundle.proofs.Places.{length-cells, next_from-above}
use Rattle.kc_script_bundle.specs.On.{CommandsAreOn}
use Rattle.kc_script_bundle.specs.Script.{AreSized, LieFrom, Names, Script, cells, next_from, script_of}
use Rattle.kc_script_bundle.specs.State.{opening_values}
use Rattle.kc_script_bundle.specs.declared.bundle.Bundle.{Bundle}
use Rattle.kc_script_bundle.specs.declared.object.Object.{Object}
use Rattle.kc_script_bundle.specs.declared.operation.Command.{Command}
use Rattle.kc_script_lines.specs.Words.{is_letter, is_name, is_name_byte, is_within}
use Rattle.kc_script_runs.proofs.Replayed.{opened_zero}
use Rattle.kc_check.specs.Forms.{AllReplies, AreHeld, AreReplies, IsFormed}
use Rattle.kc_check.specs.Judged.{PartsAreSaid, IsReadyToReplay}
use Rattle.kc_check.specs.Laid.{ByteIsMissing}
use Rattle.kc_check.specs.Parts.{AsMany, Parts, commands_in, places_in}
use Rattle.kc_check.specs.Reads.{HaveNames}
use Rattle.kc_check.specs.Replays.{AllCanAsk, HasRoomForRecords, HaveRoom, commands_of}

-- ---- room

pub no_room : (limit : ℕ) (vs : List (Vec Command Global)) (rs : List RecordsValue) → rs ≡ [] → HaveRoom limit 1 (commands_of (take 0 vs)) rs
no_room limit vs rs e = subst (HaveRoom limit 1 []) (sym e) tt

pub no_records : (rs : List RecordsValue) → rs ≡ [] → All (λ (v : RecordsValue). v.items ≡ []) rs
no_records rs e = subst (All (λ (v : RecordsValue). v.items ≡ [])) (sym e) (λ i d lt. absurd (omega arith))

room_push : (limit j k : ℕ) (ts : List (List Command)) (rs : List RecordsValue) (cs : List Command) (r : RecordsValue) → j + length ts ≡ k → HaveRoom limit j ts rs → HasRoomForRecords limit k cs r → HaveRoom limit j (ts ++ cs ∷ []) (rs ++ r ∷ [])
room_push limit j k [] [] cs r e h room = (subst (λ (i : ℕ). HasRoomForRecords limit i cs r) (let f : k ≡ j = omega (arith, e) in f) room, tt)
room_push limit j k [] (x ∷ rs) cs r e h room = absurd h
room_push limit j k (t ∷ ts) [] cs r e h room = absurd h
room_push limit j k (t ∷ ts) (x ∷ rs) cs r e h room = (h.0, room_push limit (j + 1) k ts rs cs r (omega (arith, e)) h.1 room)

mapped_more : (xs : List (Vec Command Global)) (x : Vec Command Global) → commands_of (xs ++ x ∷ []) ≡ commands_of xs ++ x.items ∷ []
mapped_more [] x = refl
mapped_more (y ∷ xs) x = ap (λ (zs : List (List Command)). y.items ∷ zs) (mapped_more xs x)

pub room_next : (limit : ℕ) (vs : List (Vec Command Global)) (i n : ℕ) (v : Vec Command Global) (r : RecordsValue) (rs others : List RecordsValue) → i < length vs → v ≡ get_or vs i v → n ≡ length v.items → HaveRoom limit 1 (commands_of (take i vs)) rs → r ≡ record { items = []; spare = 0; bare = n + 1; limit = limit } → others ≡ rs ++ r ∷ [] → HaveRoom limit 1 (commands_of (take (i + 1) vs)) others
room_next limit vs i n v r rs others lt at long h made pushed =
    let fresh : RecordsValue = record { items = []; spare = 0; bare = n + 1; limit = limit } in
    let k : ℕ = 1 + length (commands_of (take i vs)) in
    let one : HasRoomForRecords limit k v.items fresh = (tt, omega (arith, long), refl, refl) in
    let room : HasRoomForRecords limit k v.items r = subst (HasRoomForRecords limit k v.items) (sym made) one in
    let more = room_push limit 1 k (commands_of (take i vs)) rs v.items r refl h room in
    let taken : commands_of (take i vs) ++ v.items ∷ [] ≡ commands_of (take (i + 1) vs) = sym (ap commands_of (take_more vs i v lt) ∙ mapped_more (take i vs) (get_or vs i v) ∙ ap (λ (w : Vec Command Global). commands_of (take i vs) ++ w.items ∷ []) (sym at)) in
    subst (HaveRoom limit 1 (commands_of (take (i + 1) vs))) (sym pushed) (subst (λ (ts : List (List Command)). HaveRoom limit 1 ts (rs ++ r ∷ [])) taken more)

pub all_empty : (r : RecordsValue) (rs others : List RecordsValue) → All (λ (v : RecordsValue). v.items ≡ []) rs → r.items ≡ [] → others ≡ rs ++ r ∷ [] → All (λ (v : RecordsValue). v.items ≡ []) others
all_empty r rs others h e pushed = subst (All (λ (v : RecordsValue). v.items ≡ [])) (sym pushed) (push rs h)
  where
    push : (xs : List RecordsValue) → All (λ (v : RecordsValue). v.items ≡ []) xs → All (λ (v : RecordsValue). v.items ≡ []) (xs ++ r ∷ [])
    push [] k zero d lt = e
    push [] k (suc i) d lt = absurd (omega arith)
    push (x ∷ xs) k zero d lt = k zero x (omega arith)
    push (x ∷ xs) k (suc i) d lt = push xs (λ j f le. k (suc j) f (omega arith)) i d (omega arith)

pub room_whole : (limit : ℕ) (vs : List (Vec Command Global)) (i : ℕ) (rs : List RecordsValue) → length vs ≤ i → HaveRoom limit 1 (commands_of (take i vs)) rs → HaveRoom limit 1 (commands_of vs) rs
room_whole limit vs i rs le h = subst (λ (ws : List (Vec Command Global)). HaveRoom limit 1 (commands_of ws) rs) (take_all i vs le) h

-- ---- how many records

pub places_are : (vs : List (Vec Command Global)) → places_in (commands_of vs) ≡ commands_in (commands_of vs) + length vs
places_are [] = refl
places_are (v ∷ vs) =
    let a = sum_by-cons (λ (cs : List Command). length cs + 1) v.items (commands_of vs) in
    let b = sum_by-cons (λ (cs : List Command). length cs) v.items (commands_of vs) in
    let c = places_are vs in
    omega (arith, a, b, c)

-- ---- a script that bytes spell

pub values_long : (s : Script) → length (opening_values s) ≡ next_from 1 s.objects
values_long s = let e = length-cells 1 s.objects in omega (arith, e)

pub all_few : (names : Names) (vs : List (Vec Command Global)) → AreOn names (commands_of vs) → All (λ (v : Vec Command Global). length v.items ≤ 4096) vs
all_few names [] h k d lt = absurd (omega arith)
all_few names (v ∷ vs) h zero d lt = h.0
all_few names (v ∷ vs) h (suc k) d lt = all_few names vs h.2 k d (omega arith)

all_can : (n : ℕ) (names : Names) → LieFrom 1 names → n ≡ next_from 1 names → n ≤ 65536 → (vs : List (Vec Command Global)) → AreOn names (commands_of vs) → AllCanAsk n vs
all_can n names lie size few [] h k d lt = absurd (omega arith)
all_can n names lie size few (v ∷ vs) h zero d lt = λ i e it.
    let on = on_at names v.items i e h.1 it in
    let some = next_from-above 1 names in
    let fits = command_fits names lie (omega (arith, size, few)) (get_or v.items i e) on in
    let within = command_within names lie (get_or v.items i e) on in
    record { fit = fits; within = omega (arith, within, size, some) }
all_can n names lie size few (v ∷ vs) h (suc k) d lt = all_can n names lie size few vs h.2 k d (omega arith)

on_of : (names : Names) (threads : List (List Command)) → AreOn names threads → (t : ℕ) → CommandsAreOn names (slice_index_or threads t [])
on_of names [] h t = tt
on_of names (cs ∷ threads) h zero = h.1
on_of names (cs ∷ threads) h (suc t) = on_of names threads h.2 t

module _ (b : Bundle) (bytes : List ℕ) (spells : Spells bytes (script_of b)) where
  pub limit_of_it : (0 < (script_of b).limit) × ((script_of b).limit ≤ MOST)
  limit_of_it = let e = spells.limit in let fits = limit_fits spells.heading spells.version spells.begins in let low = fits.0 in let high = fits.1 in (omega (arith, e, low), omega (arith, e, high))

  pub threads_few : length b.threads.items ≤ 16
  threads_few = let a = spelled_threads_few spells in let e = length-map b.threads.items (λ (v : Vec Command Global). v.items) in omega (arith, a, e)

  pub commands_few : All (λ (v : Vec Command Global). length v.items ≤ 4096) b.threads.items
  commands_few = all_few (script_of b).objects b.threads.items (spelled_threads spells)

  pub values_few : length (opening_values (script_of b)) ≤ 65536
  values_few = let a = values_long (script_of b) in let e = (spelled_lies spells).within in omega (arith, a, e)

  pub sound_of : (values : List ℕ) (cells : List Cell) (records : List RecordsValue) → values ≡ opening_values (script_of b) → cells ≡ opened values → HaveRoom (script_of b).limit 1 (script_of b).threads records → All (λ (v : RecordsValue). v.items ≡ []) records → IsReadyToReplay (script_of b) b.threads.items cells records
  sound_of values cells records valued stored room empty =
      let is : cells ≡ opened (opening_values (script_of b)) = stored ∙ ap opened valued in
      let size : length cells ≡ next_from 1 (script_of b).objects = ap length is ∙ opened_length (opening_values (script_of b)) ∙ values_long (script_of b) in
      let lies = spelled_lies spells in
      let within = lies.within in
      record {
        opens = ap store_of is;
        size = size;
        lies = lies;
        few = threads_few;
        short = commands_few;
        can = all_can (length cells) (script_of b).objects lies.lie size (omega (arith, size, within)) b.threads.items (spelled_threads spells);
        on = on_of (script_of b).objects (script_of b).threads (spelled_threads spells);
        limit = limit_of_it;
        room = room;
        empty = empty;
        young = λ l. (let z = opened_zero (opening_values (script_of b)) l in let same : (store_of cells l).version ≡ 0 = ap (λ (cs : List Cell). (store_of cs l).version) is ∙ z in omega (arith, same));
      }

-- there are no more objects than locations
objects_in : (at : ℕ) (names : Names) → AreSized names → at + length names ≤ next_from at names
unfolding next_from
objects_in at [] h = omega arith
objects_in at (entry ∷ names) h =
    let some = some_cells entry.1 h.0 in
    let on = objects_in (at + cells entry.1) names h.1 in
    omega (arith, some, on)

pub objects_few : {bytes : List ℕ} {s : Script} → Spells bytes s → length s.objects ≤ 65536
objects_few {bytes} {s} p = let a = objects_in 1 s.objects (spelled_sized p) in let b = (spelled_lies p).within in omega (arith, a, b)

-- ---- names

no_newline : (w : List ℕ) → list_all is_name_byte w ≡ true → ByteIsMissing 10 w
no_newline [] h = tt
no_newline (b ∷ w) h = let p = both (is_name_byte b) (list_all is_name_byte w) h in (far b p.0, no_newline w p.1)
  where
    both : (x y : Bool) → (x && y) ≡ true → (x ≡ true) × (y ≡ true)
    both true y e = (refl, e)
    both false y e = absurd (cc)

    far : (b : ℕ) → is_name_byte b ≡ true → b ≢ 10
    far b e same = (grind (arith, nat_tests, e, same))

name_lacks : (w : List ℕ) → is_name w ≡ true → ByteIsMissing 10 w
name_lacks w h = no_newline w (last (is_within 1 32 (length w)) (is_letter (slice_index_or w 0 0)) (list_all is_name_byte w) h)
  where
    last : (x y z : Bool) → (x && y && z) ≡ true → z ≡ true
    last true true z e = e
    last true false z e = absurd (cc)
    last false y z e = absurd (cc)

declared_named : {version : Version} (names all : Names) (lines : List Line) → Declare version names lines all → HaveNames names → HaveNames all
declared_named names all lines Declare.none h = h
declared_named names all _ (Declare.one {lines = lines} line entry known e rest) h = declared_named (names ++ entry ∷ []) all lines rest (push names entry h (name_lacks entry.0 e.1))
  where
    push : (xs : Names) (x : List ℕ × Object) → HaveNames xs → ByteIsMissing 10 x.0 → HaveNames (xs ++ x ∷ [])
    push [] x k l zero d lt = l
    push [] x k l (suc i) d lt = absurd (omega arith)
    push (y ∷ xs) x k l zero d lt = k zero y (omega arith)
    push (y ∷ xs) x k l (suc i) d lt = push xs x (λ j f le. k (suc j) f (omega arith)) l i d (omega arith)

pub spelled_names : {bytes : List ℕ} {s : Script} → Spells bytes s → HaveNames s.objects
spelled_names {bytes} {s} p = declared_named [] s.objects p.declaring p.declares (λ i d lt. absurd (omega arith))

-- ---- from the form to what the tests behind it begin with

as_many : (j : ℕ) (threads : List (List Command)) (rs : List (List (List ℕ))) → AllReplies j threads rs → AsMany threads rs × (length rs ≡ length threads)
as_many j [] [] h = (tt, refl)
as_many j [] (r ∷ rs) h = absurd h
as_many j (cs ∷ threads) [] h = absurd h
as_many j (cs ∷ threads) (r ∷ rs) h = let on = as_many (j + 1) threads rs h.1 in let e = on.1 in ((long 1 cs r h.0, on.0), ap suc e)
  where
    long : (number : ℕ) (cs : List Command) (ls : List (List ℕ)) → AreReplies j number cs ls → length ls ≡ length cs
    long number [] [] k = refl
    long number [] (l ∷ ls) k = absurd k
    long number (c ∷ cs) [] k = absurd k
    long number (c ∷ cs) (l ∷ ls) k = ap suc (long (number + 1) cs ls k.1)

held_long : (names : Names) (ls : List (List ℕ)) → AreHeld names ls → length ls ≡ length names
held_long [] [] h = refl
held_long [] (l ∷ ls) h = absurd h
held_long (e ∷ names) [] h = absurd h
held_long (e ∷ names) (l ∷ ls) h = ap suc (held_long names ls h.1)

pub said_of : (s : Script) (text : List ℕ) (parts : Parts) → length s.objects ≤ 65536 → IsFormed s text parts → PartsAreSaid s parts
said_of s text parts few formed =
    let replies = as_many 1 s.threads parts.replies formed.replies in
    let objects = held_long s.objects parts.state formed.state in
    record { many = replies.0; long = replies.1; places = formed.places; count = formed.count; objects = objects; state_few = omega (arith, objects, few) }

pub said_parts : (s : Script) (text : List ℕ) (parts : Parts) → IsFormed s text parts → AsMany s.threads parts.replies × (length parts.state ≡ length s.objects)
said_parts s text parts formed = ((as_many 1 s.threads parts.replies formed.replies).0, held_long s.objects parts.state formed.state)
