-- From how a walk ended to what the text fails, and to the text.
use Rattle.std.proofs.Common.{◌≡◌, ℕ, zero, suc, ◌+◌, ◌<◌, ◌≤◌, List, [], ◌∷◌, ◌++◌, All, map, length, take, get_or, slice_index_or, refl, sym, ap, subst, ◌∙◌, arith, Vec}
use Rattle.std.proofs.Math.Path.{fun_ext}
use Rattle.std.proofs.lemmas.List.{length-map}
use Rattle.std.proofs.lemmas.List.Sums.{sum_by-cons, sum_by-le}
use Rattle.kc_history.specs.Counts.{records_in}
use Rattle.kc_history.specs.Ends.{AreWellMade}
use Rattle.kc_script_bundle.specs.On.{CommandsAreOn}
use Rattle.std.specs.Global.{Global}
use Rattle.std.specs.Option.{option_map}
use Rattle.std.specs.Prelude.{slice_get}
use Rattle.kc_history.specs.Order.{Footprints, IsCanonical}
use Rattle.kc_history.specs.Records.{footprint_at, lists_of}
use Rattle.kc_history.specs.RecordsValue.{RecordsValue}
use Rattle.kc_history.specs.declared.record.Place.{Place}
use Rattle.kc_history.specs.declared.record.Record.{Record}
use Rattle.kc_model.specs.Store.{Store}
use Rattle.kc_script_bundle.specs.Script.{LieFrom, Names, Script}
use Rattle.kc_script_bundle.specs.declared.operation.Command.{Command}
use Rattle.kc_script_runs.proofs.Replayed.{opened_zero}
use Rattle.kc_script_bundle.specs.State.{opening_values}
use Rattle.kc_script_runs.specs.Run.{opening_store}
use Rattle.kc_xt.specs.Meaning.{values}
use Rattle.kc_check.proofs.Counting.{all_stand, legal_of, stand_full}
use Rattle.kc_check.proofs.Padded.{padded_whole}
use Rattle.kc_check.proofs.Shown.{held_joined}
use Rattle.kc_check.proofs.Whole.{whole_text}
use Rattle.kc_check.specs.Faults.{PlacesReplayed, ComesWhole, FailsIn, IsLegalText, StopsAt}
use Rattle.kc_check.specs.Judged.{PartsAreSaid, no_place, stop_number}
use Rattle.kc_check.specs.Orders.{DiffersAt, IsLegalList}
use Rattle.kc_check.specs.Parts.{IsThreadPlace, Parts, joined_lines, parts_text, place_number, places_in, reply_number}
use Rattle.kc_check.specs.Replays.{HaveRoom, all_kept, all_padded, commands_of, counts, kept_list, kept_record}
use Rattle.kc_check.specs.Shown.{UnlikeAt, held_lines}
use Rattle.kc_check.specs.Walks.{ComesKept, StopsFor}
use Rattle.kc_check.specs.declared.error.CheckWhy.{CheckWhy}
use Rattle.kc_check.specs.declared.error.CheckWhy.TheVariants as why

at_front : (front : List Place) (p : Place) (back : List Place) (d : Place) → get_or (front ++ p ∷ back) (length front) d ≡ p
at_front [] p back d = refl
at_front (q ∷ front) p back d = at_front front p back d

front_within : (front : List Place) (p : Place) (back : List Place) → length front < length (front ++ p ∷ back)
front_within [] p back = omega arith
front_within (q ∷ front) p back = let h = front_within front p back in omega arith

module _ (limit : ℕ) (threads : List (List Command)) (replies : List (List (List ℕ))) (first : Store) (places : List Place) where
  within : (Wrong : Place → (ℕ → ℕ) → Store → Type 0) (index : ℕ) → (p : Place) (front : List Place) → StopsAt limit threads replies first places Wrong p front → length front ≡ index → index < length places
  within Wrong index p front stops is = subst (λ (ps : List Place). index < length ps) (sym stops.splits) (subst (λ (i : ℕ). i < length (front ++ p ∷ stops.back)) is (front_within front p stops.back))

  -- a walk stops at one of the places
  pub stop_within : (index : ℕ) (w : CheckWhy) → StopsFor limit threads replies first places index w → index < length places
  stop_within index why.Form h = absurd h
  stop_within index why.Turn (p, front, stops, is) = within _ index p front stops is
  stop_within index why.Waits (p, front, stops, is) = within _ index p front stops is
  stop_within index why.Reply (p, front, stops, is) = within _ index p front stops is
  stop_within index why.Order h = absurd h
  stop_within index why.State h = absurd h

-- what stops a walk is what the text fails
pub stop_fails : (s : Script) (parts : Parts) (index line : ℕ) (w : CheckWhy) → StopsFor s.limit s.threads parts.replies (opening_store s) parts.places index w → line ≡ stop_number s.threads parts.places index w → FailsIn s parts line w
stop_fails s parts index line why.Form h e = h
stop_fails s parts index line why.Turn (p, front, stops, is) e = (p, front, stops, e ∙ ap (place_number s.threads) (sym is))
stop_fails s parts index line why.Waits (p, front, stops, is) e = (p, front, stops, e ∙ ap (place_number s.threads) (sym is))
stop_fails s parts index line why.Reply (p, front, stops, is) e = (p, front, stops, e ∙ ap (reply_number s.threads) (ap (λ (ps : List Place). get_or ps index no_place) stops.splits ∙ ap (λ (i : ℕ). get_or (front ++ p ∷ stops.back) i no_place) (sym is) ∙ at_front front p stops.back no_place))
stop_fails s parts index line why.Order h e = absurd h
stop_fails s parts index line why.State h e = absurd h

pub few_places : (threads : List (Vec Command Global)) → length threads ≤ 16 → All (λ (v : Vec Command Global). length v.items ≤ 4096) threads → places_in (commands_of threads) ≤ 65552
few_places threads few short =
    let a = sum_by-le (λ (cs : List Command). length cs + 1) 4097 (commands_of threads) (each threads short) in
    let b = length-map threads (λ (v : Vec Command Global). v.items) in
    omega (arith, a, b, few)
  where
    each : (vs : List (Vec Command Global)) → All (λ (v : Vec Command Global). length v.items ≤ 4096) vs → All (λ (cs : List Command). length cs + 1 ≤ 4097) (commands_of vs)
    each [] h k d lt = absurd (omega arith)
    each (v ∷ vs) h zero d lt = let le = h zero v (omega arith) in omega arith
    each (v ∷ vs) h (suc k) d lt = each vs (λ j e below. h (suc j) e (omega arith)) k d (omega arith)

-- places that all come are a legal list
pub comes_legal : (s : Script) (parts : Parts) (last : Store) (records : List (List Record)) → PartsAreSaid s parts → ComesWhole s parts last records → IsLegalList (footprint_at records) parts.places
comes_legal s parts last records said whole =
    let none = all_stand s.threads records whole.comes.labelled parts.places whole.stand said.places whole.comes.turns said.count in
    record { opening = opening_store s; opens = opened_zero (opening_values s); ending = last; legal = legal_of s.limit s.threads records (λ _. 0) whole.stand (opening_store s) last parts.places whole.comes.turns none whole.comes.replays }

pub commands_take : (threads : List (Vec Command Global)) (i : ℕ) → commands_of (take i threads) ≡ take i (commands_of threads)
commands_take threads zero = refl
commands_take [] (suc i) = refl
commands_take (v ∷ vs) (suc i) = ap (λ (x : List (List Command)). v.items ∷ x) (commands_take vs i)

-- as many records as commands and ends
records_counted : (limit j : ℕ) (threads : List (List Command)) (vs : List RecordsValue) → HaveRoom limit j threads vs → ((u : ℕ) → u < length threads → counts (lists_of vs) u ≡ length (slice_index_or threads u []) + 1) → records_in vs ≡ places_in threads
records_counted limit j [] [] h all = refl
records_counted limit j [] (v ∷ vs) h all = absurd h
records_counted limit j (cs ∷ threads) [] h all = absurd h
records_counted limit j (cs ∷ threads) (v ∷ vs) h all =
    let a = sum_by-cons (λ (w : RecordsValue). length w.items) v vs in
    let b = sum_by-cons (λ (w : List Command). length w + 1) cs threads in
    let c = records_counted limit (j + 1) threads vs h.1 (λ u lt. all (suc u) (omega arith)) in
    let d = all zero (omega arith) in
    omega (arith, a, b, c, d)

-- as many are kept
records_kept : (vs : List RecordsValue) → records_in (all_kept vs) ≡ records_in vs
records_kept [] = refl
records_kept (v ∷ vs) =
    let a = sum_by-cons (λ (w : RecordsValue). length w.items) v vs in
    let b = sum_by-cons (λ (w : RecordsValue). length w.items) (kept_list v) (all_kept vs) in
    let c = records_kept vs in
    let d = length-map v.items kept_record in
    omega (arith, a, b, c, d)

-- and the footprints are the same
prints_kept : (vs : List RecordsValue) → footprint_at (lists_of vs) ≡ footprint_at (lists_of (all_kept vs))
prints_kept vs = fun_ext (λ t. fun_ext (λ k. at vs t k))
  where
    in_list : (rs : List Record) (k : ℕ) → option_map (λ (r : Record). r.footprint) (slice_get rs k) ≡ option_map (λ (r : Record). r.footprint) (slice_get (map kept_record rs) k)
    in_list [] k = refl
    in_list (r ∷ rs) zero = refl
    in_list (r ∷ rs) (suc k) = in_list rs k

    at : (vs : List RecordsValue) (t k : ℕ) → footprint_at (lists_of vs) t k ≡ footprint_at (lists_of (all_kept vs)) t k
    at [] t k = refl
    at (v ∷ vs) zero k = in_list v.items k
    at (v ∷ vs) (suc t) k = at vs t k

-- all come with records of which this is kept
pub record Came (s : Script) (parts : Parts) (last : Store) (rs : List RecordsValue) : Type 0 where
  pub records : List (List Record)
  pub comes : ComesWhole s parts last records
  pub same : footprint_at records ≡ footprint_at (lists_of rs)
  pub made : AreWellMade (footprint_at (lists_of rs))
  pub counted : records_in rs ≡ places_in s.threads

-- ---- at what is given to the calls

module _ (s : Script) (parts : Parts) (limit : ℕ) (limited : limit ≡ s.limit) (threads : List (List Command)) (replies : List (List (List ℕ))) (places : List Place) (first : Store) (e : threads ≡ s.threads) (f : replies ≡ parts.replies) (g : places ≡ parts.places) (h : first ≡ opening_store s) where
  pub given_stop : (other : List (List Command)) (again : List Place) (index line : ℕ) (w : CheckWhy) → other ≡ s.threads → again ≡ parts.places → StopsFor limit threads replies first places index w → line ≡ stop_number other again index w → FailsIn s parts line w
  given_stop other again index line w o a stops is =
      let zero : StopsFor s.limit threads replies first places index w = subst (λ (x : ℕ). StopsFor x threads replies first places index w) limited stops in
      let one : StopsFor s.limit s.threads replies first places index w = subst (λ (x : List (List Command)). StopsFor s.limit x replies first places index w) e zero in
      let two : StopsFor s.limit s.threads parts.replies first places index w = subst (λ (x : List (List (List ℕ))). StopsFor s.limit s.threads x first places index w) f one in
      let three : StopsFor s.limit s.threads parts.replies first parts.places index w = subst (λ (x : List Place). StopsFor s.limit s.threads parts.replies first x index w) g two in
      let four : StopsFor s.limit s.threads parts.replies (opening_store s) parts.places index w = subst (λ (x : Store). StopsFor s.limit s.threads parts.replies x parts.places index w) h three in
      stop_fails s parts index line w four (is ∙ ap (λ (x : List (List Command)). stop_number x again index w) o ∙ ap (λ (x : List Place). stop_number s.threads x index w) a)

  given_whole : (last : Store) (stand : ℕ → ℕ) (records : List (List Record)) → PlacesReplayed limit threads replies first places stand last records → ComesWhole s parts last records
  given_whole last stand records comes =
      let zero : PlacesReplayed s.limit threads replies first places stand last records = subst (λ (x : ℕ). PlacesReplayed x threads replies first places stand last records) limited comes in
      let one : PlacesReplayed s.limit s.threads replies first places stand last records = subst (λ (x : List (List Command)). PlacesReplayed s.limit x replies first places stand last records) e zero in
      let two : PlacesReplayed s.limit s.threads parts.replies first places stand last records = subst (λ (x : List (List (List ℕ))). PlacesReplayed s.limit s.threads x first places stand last records) f one in
      let three : PlacesReplayed s.limit s.threads parts.replies first parts.places stand last records = subst (λ (x : List Place). PlacesReplayed s.limit s.threads parts.replies first x stand last records) g two in
      record { stand = stand; comes = subst (λ (x : Store). PlacesReplayed s.limit s.threads parts.replies x parts.places stand last records) h three }

  -- where all places come, all records were made
  pub given_comes : (last : Store) (rs : List RecordsValue) → PartsAreSaid s parts → ComesKept limit threads replies first places last rs → Came s parts last rs
  given_comes last rs said k =
      let vs : List RecordsValue = k.whole in
      let each : All (IsThreadPlace threads) places = subst (λ (x : List (List Command)). All (IsThreadPlace x) places) (sym e) (subst (All (IsThreadPlace s.threads)) (sym g) said.places) in
      let count : length places ≡ places_in threads = ap length g ∙ said.count ∙ ap places_in (sym e) in
      let all = stand_full threads places (counts (lists_of vs)) each k.comes.turns count in
      let whole : all_padded 1 threads (lists_of vs) ≡ lists_of vs = padded_whole limit 1 threads vs k.room all in
      let same : footprint_at (lists_of vs) ≡ footprint_at (lists_of rs) = prints_kept vs ∙ ap (λ (xs : List RecordsValue). footprint_at (lists_of xs)) (sym k.kept) in
      record {
        records = lists_of vs;
        comes = given_whole last (counts (lists_of vs)) (lists_of vs) (subst (λ (x : List (List Record)). PlacesReplayed limit threads replies first places (counts (lists_of vs)) last x) whole k.comes);
        same = same;
        made = subst AreWellMade (ap footprint_at whole ∙ same) k.made;
        counted = ap records_in k.kept ∙ records_kept vs ∙ records_counted limit 1 threads vs k.room all ∙ ap places_in e;
      }

differs_within : (places order : List Place) (index : ℕ) → DiffersAt places order index → index < length places
differs_within places order index d = subst (λ (ps : List Place). index < length ps) (sym d.gives) (subst (λ (i : ℕ). i < length (d.front ++ d.given ∷ d.given_back)) d.at (front_within d.front d.given d.given_back))

pub disorder_within : (a : Footprints) (places : List Place) (index : ℕ) → (order : List Place) × IsCanonical a order × DiffersAt places order index → index < length places
disorder_within a places index (order, canonical, d) = differs_within places order index d

pub disorder_fails : (s : Script) (parts : Parts) (last : Store) (rs : List RecordsValue) (places : List Place) (index line : ℕ) → places ≡ parts.places → Came s parts last rs → (order : List Place) × IsCanonical (footprint_at (lists_of rs)) order × DiffersAt places order index → line ≡ place_number s.threads index → FailsIn s parts line why.Order
disorder_fails s parts last rs places index line g came (order, canonical, d) e =
    (index, record { last = last; records = came.records; whole = came.comes; order = order; canonical = subst (λ (a : Footprints). IsCanonical a order) (sym came.same) canonical; differs = subst (λ (x : List Place). DiffersAt x order index) g d }, e)

pub unlike_within : (lines : List (List ℕ)) (names : Names) (m : ℕ → ℕ) (index : ℕ) → UnlikeAt lines names m index → index < length lines
unlike_within lines names m index u = subst (λ (ls : List (List ℕ)). index < length ls) (sym u.given) (subst (λ (i : ℕ). i < length (u.front ++ u.line ∷ u.back)) u.at (before_back u.front u.line u.back))
  where
    before_back : (front : List (List ℕ)) (p : List ℕ) (back : List (List ℕ)) → length front < length (front ++ p ∷ back)
    before_back [] p back = omega arith
    before_back (q ∷ front) p back = let h = before_back front p back in omega arith

pub judged_text : (s : Script) (parts : Parts) (last : Store) (rs : List RecordsValue) → LieFrom 1 s.objects → ((t : ℕ) → CommandsAreOn s.objects (slice_index_or s.threads t [])) → PartsAreSaid s parts → (came : Came s parts last rs) → IsCanonical (footprint_at came.records) parts.places → parts.state ≡ held_lines s.objects (values last) → IsLegalText s (parts_text s.threads parts)
judged_text s parts last rs lie on said came canonical held = record { records = came.records; is = whole_text s parts last came.records came.comes canonical lie on said.many said.places (ap joined_lines held ∙ held_joined s.objects (values last)) }
