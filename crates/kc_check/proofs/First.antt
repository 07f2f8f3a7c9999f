-- A text fails one test first, at one line.
use Rattle.std.proofs.Common.{◌≡◌, inl, inr, ℕ, zero, suc, ◌+◌, ◌<◌, ◌≤◌, List, [], ◌∷◌, ◌++◌, Contains, Option, Some, None, length, refl, sym, ap, ap₂, subst, ◌∙◌, arith}
use Rattle.std.specs.Option.{option_map}
use Rattle.kc_history.proofs.Choice.{some_is, none_ready, one_order}
use Rattle.kc_history.proofs.Ready.{same_or, more_same, more_other}
use Rattle.kc_history.specs.Order.{Footprints, IsCanonical, one_record_more}
use Rattle.kc_history.specs.Records.{footprint_at, record_at}
use Rattle.kc_history.specs.declared.record.Place.{Place}
use Rattle.kc_history.specs.declared.record.Record.{Record}
use Rattle.kc_model.specs.Store.{Store}
use Rattle.kc_script_bundle.specs.Script.{Names, Script}
use Rattle.kc_script_bundle.specs.State.{shown, state_line}
use Rattle.kc_script_bundle.specs.declared.operation.Command.{Command}
use Rattle.kc_script_runs.proofs.Determined.{place, replays_are_one, same_lists}
use Rattle.kc_script_runs.specs.Run.{opening_store}
use Rattle.kc_xt.specs.Commit.{run_on}
use Rattle.kc_xt.specs.Meaning.{Meaning, values}
use Rattle.kc_check.proofs.Counting.{all_stand}
use Rattle.kc_check.proofs.Fronts.{none_waits, not_out_of_turn, not_replying_else, not_waiting, turns_are_one}
use Rattle.kc_check.proofs.Refuted.{at_one, first_differ, held_apart}
use Rattle.kc_check.proofs.Unique.{heads, tails}
use Rattle.kc_check.specs.Faults.{PlacesReplayed, ComesWhole, FailsIn, HasToWait, InTurn, IsOutOfTurn, RepliesElse, StopsAt}
use Rattle.kc_check.specs.Judged.{PartsAreSaid}
use Rattle.kc_check.specs.Orders.{DiffersAt}
use Rattle.kc_check.specs.Parts.{Parts, place_number, reply_number, state_number}
use Rattle.kc_check.specs.Shown.{UnlikeAt, held_lines}
use Rattle.kc_check.specs.declared.error.CheckWhy.{CheckWhy}
use Rattle.kc_check.specs.declared.error.CheckWhy.TheVariants as why

-- ---- two splits of a list

further : {X : Type 0} (xs ys : List X) (a b : X) (cs bs : List X) → length xs < length ys → xs ++ a ∷ cs ≡ ys ++ b ∷ bs → (more : List X) × (ys ≡ xs ++ a ∷ more)
further [] [] a b cs bs lt e = absurd (omega arith)
further {X} [] (y ∷ ys) a b cs bs lt e = (ys, ap (λ (z : X). z ∷ ys) (sym (heads a y cs (ys ++ b ∷ bs) e)))
further (x ∷ xs) [] a b cs bs lt e = absurd (omega arith)
further {X} (x ∷ xs) (y ∷ ys) a b cs bs lt e =
    let on = further xs ys a b cs bs (omega arith) (tails x y (xs ++ a ∷ cs) (ys ++ b ∷ bs) e) in
    (on.0, ap₂ (λ (z : X) (zs : List X). z ∷ zs) (sym (heads x y (xs ++ a ∷ cs) (ys ++ b ∷ bs) e)) on.1)

same_front : {X : Type 0} (xs ys : List X) (a b : X) (cs bs : List X) → length xs ≡ length ys → xs ++ a ∷ cs ≡ ys ++ b ∷ bs → xs ≡ ys
same_front [] [] a b cs bs long e = refl
same_front [] (y ∷ ys) a b cs bs long e = absurd (omega arith)
same_front (x ∷ xs) [] a b cs bs long e = absurd (omega arith)
same_front {X} (x ∷ xs) (y ∷ ys) a b cs bs long e = ap₂ (λ (z : X) (zs : List X). z ∷ zs) (heads x y (xs ++ a ∷ cs) (ys ++ b ∷ bs) e) (same_front xs ys a b cs bs (omega arith) (tails x y (xs ++ a ∷ cs) (ys ++ b ∷ bs) e))

by_size : (a b : ℕ) → (a < b → ⊥) → (b < a → ⊥) → a ≡ b
by_size zero zero h k = refl
by_size zero (suc b) h k = absurd (h (omega arith))
by_size (suc a) zero h k = absurd (k (omega arith))
by_size (suc a) (suc b) h k = ap suc (by_size a b (λ lt. h (omega arith)) (λ lt. k (omega arith)))

-- ---- what stops a walk

module _ (limit : ℕ) (threads : List (List Command)) (replies : List (List (List ℕ))) (first : Store) (places : List Place) where
  abbrev Wrongness : Type 1
  Wrongness = Place → (ℕ → ℕ) → Store → Type 0

  -- it can't be wrong so, where it comes
  abbrev Refutes : Wrongness → Type 0
  Refutes Wrong = (front : List Place) (p : Place) (back : List Place) (stand : ℕ → ℕ) (e : Store) (records : List (List Record)) → PlacesReplayed limit threads replies first (front ++ p ∷ back) stand e records
      → (stand' : ℕ → ℕ) (now' : Store) (others : List (List Record)) → PlacesReplayed limit threads replies first front stand' now' others → Wrong p stand' now' → ⊥

  pub turn_refutes : Refutes (IsOutOfTurn limit threads replies first)
  turn_refutes front p back stand e records comes stand' now' others also = not_out_of_turn limit threads replies first front p back stand e records comes stand' now' others also

  pub waits_refutes : Refutes (HasToWait limit threads replies first)
  waits_refutes front p back stand e records comes stand' now' others also = not_waiting limit threads replies first front p back stand e records comes stand' now' others also

  pub reply_refutes : Refutes (RepliesElse limit threads replies first)
  reply_refutes front p back stand e records comes stand' now' others also = not_replying_else limit threads replies first front p back stand e records comes stand' now' others also

  module _ (V W : Wrongness) (v : Refutes V) (w : Refutes W) (p q : Place) (front other : List Place) (h : StopsAt limit threads replies first places V p front) (k : StopsAt limit threads replies first places W q other) where
    both_split : front ++ p ∷ h.back ≡ other ++ q ∷ k.back
    both_split = sym h.splits ∙ k.splits

    not_before : length front < length other → ⊥
    not_before lt =
        let (more, is) = further front other p q h.back k.back lt both_split in
        v front p more k.stand k.now k.records (subst (λ (ps : List Place). PlacesReplayed limit threads replies first ps k.stand k.now k.records) is k.comes) h.stand h.now h.records h.comes h.wrong

    not_behind : length other < length front → ⊥
    not_behind lt =
        let (more, is) = further other front q p k.back h.back lt (sym both_split) in
        w other q more h.stand h.now h.records (subst (λ (ps : List Place). PlacesReplayed limit threads replies first ps h.stand h.now h.records) is h.comes) k.stand k.now k.records k.comes k.wrong

    pub one_front : front ≡ other
    one_front = same_front front other p q h.back k.back (by_size (length front) (length other) not_before not_behind) both_split

    pub one_place : p ≡ q
    one_place = at_one front other p q h.back k.back (by_size (length front) (length other) not_before not_behind) both_split

    also : PlacesReplayed limit threads replies first front k.stand k.now k.records
    also = subst (λ (ps : List Place). PlacesReplayed limit threads replies first ps k.stand k.now k.records) (sym one_front) k.comes

    pub one_stand : h.stand ≡ k.stand
    one_stand = turns_are_one front (λ _. 0) h.stand k.stand h.comes.turns also.turns

    pub one_now : h.now ≡ k.now
    one_now = (replays_are_one limit threads h.records k.records h.comes.labelled also.labelled front first h.now k.now h.comes.replays also.replays).0

    -- the second is wrong so where the first is
    pub wrong_here : W p h.stand h.now
    wrong_here = subst (λ (x : Store). W p h.stand x) (sym one_now) (subst (λ (m : ℕ → ℕ). W p m k.now) (sym one_stand) (subst (λ (r : Place). W r k.stand k.now) (sym one_place) k.wrong))

  not_both : (p : Place) (stand : ℕ → ℕ) (now : Store) → HasToWait limit threads replies first p stand now → RepliesElse limit threads replies first p stand now → ⊥
  not_both p stand now a b =
      let same : a.meaning ≡ b.meaning = some_is a.meaning b.meaning (sym a.means ∙ b.means) in
      none_waits (run_on b.meaning now).outcome b.commit.answer (ap (λ (m : Meaning). (run_on m now).outcome) (sym same) ∙ a.waits) (b.commits.answers.run now b.commits.finds)

-- ---- where all come

turn_has : (ps : List Place) (n m : ℕ → ℕ) → InTurn n ps m → (u k : ℕ) → n u ≤ k → k < m u → Contains ps (place u k)
turn_has [] n m h u k le lt = absurd (let same : m u ≡ n u = ap (λ (g : ℕ → ℕ). g u) h in omega arith)
turn_has (p ∷ ps) n m h u k le lt = elim (same_or u p.thread) [
  | inl e ↦ elim (same_or k (n u)) [
    | inl i ↦
        let index : p.index ≡ k = h.0 ∙ ap n (sym e) ∙ sym i in
        (0, omega arith, ap₂ place (sym e) index)
    | inr ne ↦
        let stands : one_record_more p.thread n u ≡ n u + 1 = more_same p.thread n u e in
        behind p ps (place u k) (turn_has ps (one_record_more p.thread n) m h.1 u k (omega arith) lt)
  ]
  | inr ne ↦
      let stands : one_record_more p.thread n u ≡ n u = more_other p.thread n u ne in
      behind p ps (place u k) (turn_has ps (one_record_more p.thread n) m h.1 u k (omega arith) lt)
] where
  behind : (p : Place) (ps : List Place) (q : Place) → Contains ps q → Contains (p ∷ ps) q
  behind p ps q (i, lt, is) = (suc i, omega arith, is)

module _ (s : Script) (parts : Parts) (said : PartsAreSaid s parts) where
  whole_has : (last : Store) (records : List (List Record)) → ComesWhole s parts last records → (t k : ℕ) (r : Record) → record_at records t k ≡ Some r → Contains parts.places (place t k)
  whole_has last records whole t k r at =
      let none = all_stand s.threads records whole.comes.labelled parts.places whole.stand said.places whole.comes.turns said.count in
      turn_has parts.places (λ _. 0) whole.stand whole.comes.turns t k (omega arith) (none t k r.footprint (ap (option_map (λ (q : Record). q.footprint)) at))

  -- the records are one, and the last store
  pub whole_both : (last end : Store) (records others : List (List Record)) → ComesWhole s parts last records → ComesWhole s parts end others → (records ≡ others) × (last ≡ end)
  whole_both last end records others h k =
      let one = replays_are_one s.limit s.threads records others h.comes.labelled k.comes.labelled parts.places (opening_store s) last end h.comes.replays k.comes.replays in
      let at : (t k : ℕ) → record_at records t k ≡ record_at others t k = λ t k'. by t k' (record_at records t k') (record_at others t k') refl refl one.1 in
      (same_lists 1 s.threads records others h.comes.labelled k.comes.labelled at, one.0)
    where
      by : (t i : ℕ) (o p : Option Record) → record_at records t i ≡ o → record_at others t i ≡ p → ((p : Place) → Contains parts.places p → record_at records p.thread p.index ≡ record_at others p.thread p.index) → record_at records t i ≡ record_at others t i
      by t i None None e f same = e ∙ sym f
      by t i (Some r) p e f same = same (place t i) (whole_has last records h t i r e)
      by t i None (Some q) e f same = same (place t i) (whole_has end others k t i q f)

  -- no place that comes stops a walk
  stops_never : (Wrong : Place → (ℕ → ℕ) → Store → Type 0) → Refutes s.limit s.threads parts.replies (opening_store s) parts.places Wrong → (p : Place) (front : List Place) → StopsAt s.limit s.threads parts.replies (opening_store s) parts.places Wrong p front → (last : Store) (records : List (List Record)) → ComesWhole s parts last records → ⊥
  stops_never Wrong refutes p front stops last records whole = refutes front p stops.back whole.stand last records (subst (λ (ps : List Place). PlacesReplayed s.limit s.threads parts.replies (opening_store s) ps whole.stand last records) stops.splits whole.comes) stops.stand stops.now stops.records stops.comes stops.wrong

  canonical_one : (records others : List (List Record)) (order again : List Place) → records ≡ others → IsCanonical (footprint_at records) order → IsCanonical (footprint_at others) again → order ≡ again
  canonical_one records others order again e c d =
      let a : Footprints = footprint_at records in
      let d' : IsCanonical a again = subst (λ (rs : List (List Record)). IsCanonical (footprint_at rs) again) (sym e) d in
      (one_order a order again (λ _. 0) (λ _. 0) c.stand c.versions d'.stand d'.versions c.chooses (none_ready a c.stand c.versions c.all) d'.chooses (none_ready a d'.stand d'.versions d'.all)).0

  -- a front of one list on which both agree is no end of what they have alike
  differs_once : (order : List Place) (i j : ℕ) → DiffersAt parts.places order i → DiffersAt parts.places order j → i < j → ⊥
  differs_once order i j d e lt =
      let short : length d.front < length e.front = (let a = d.at in let b = e.at in omega arith) in
      let (more, is) = further d.front e.front d.given e.given d.given_back e.given_back short (sym d.gives ∙ e.gives) in
      let (less, also) = further d.front e.front d.wanted e.wanted d.wanted_back e.wanted_back short (sym d.wants ∙ e.wants) in
      d.differ (first_differ d.front d.given d.wanted more less (sym is ∙ also))

  unlike_once : (m : ℕ → ℕ) (i j : ℕ) → UnlikeAt parts.state s.objects m i → UnlikeAt parts.state s.objects m j → i < j → ⊥
  unlike_once m i j d e lt =
      let long : length e.front ≡ length e.shown_front = ap length e.before ∙ mapped e.shown_front in
      let short : length d.front < length e.front = (let a = d.at in let b = e.at in omega arith) in
      let below : length d.shown_front < length e.shown_front = (let a = ap length d.before ∙ mapped d.shown_front in omega arith) in
      let (more, is) = further d.front e.front d.line e.line d.back e.back short (sym d.given ∙ e.given) in
      let (less, also) = further d.shown_front e.shown_front d.entry e.entry d.shown_back e.shown_back below (sym d.objects ∙ e.objects) in
      let lines : d.front ++ d.line ∷ more ≡ held_lines d.shown_front m ++ state_line d.entry.0 (shown d.entry.1 m) ∷ held_lines less m = sym is ∙ e.before ∙ ap (λ (names : Names). held_lines names m) also ∙ held_apart d.shown_front d.entry less m in
      d.differs (at_one d.front (held_lines d.shown_front m) d.line (state_line d.entry.0 (shown d.entry.1 m)) more (held_lines less m) (ap length d.before) lines)
    where
      mapped : (names : Names) → length (held_lines names m) ≡ length names
      mapped [] = refl
      mapped (x ∷ names) = ap suc (mapped names)

  -- ---- both faults

  pub later_one : (line again : ℕ) (w x : CheckWhy) → FailsIn s parts line w → FailsIn s parts again x → (line ≡ again) × (w ≡ x)
  later_one line again why.Form x h k = absurd h
  later_one line again w why.Form h k = absurd k
  later_one line again why.Turn why.Turn (p, front, h, e) (q, other, k, f) =
      let one = one_front s.limit s.threads parts.replies (opening_store s) parts.places (IsOutOfTurn s.limit s.threads parts.replies (opening_store s)) (IsOutOfTurn s.limit s.threads parts.replies (opening_store s)) (turn_refutes s.limit s.threads parts.replies (opening_store s) parts.places) (turn_refutes s.limit s.threads parts.replies (opening_store s) parts.places) p q front other h k in
      (e ∙ ap (λ (ps : List Place). place_number s.threads (length ps)) one ∙ sym f, refl)
  later_one line again why.Waits why.Waits (p, front, h, e) (q, other, k, f) =
      let one = one_front s.limit s.threads parts.replies (opening_store s) parts.places (HasToWait s.limit s.threads parts.replies (opening_store s)) (HasToWait s.limit s.threads parts.replies (opening_store s)) (waits_refutes s.limit s.threads parts.replies (opening_store s) parts.places) (waits_refutes s.limit s.threads parts.replies (opening_store s) parts.places) p q front other h k in
      (e ∙ ap (λ (ps : List Place). place_number s.threads (length ps)) one ∙ sym f, refl)
  later_one line again why.Reply why.Reply (p, front, h, e) (q, other, k, f) =
      let one = one_place s.limit s.threads parts.replies (opening_store s) parts.places (RepliesElse s.limit s.threads parts.replies (opening_store s)) (RepliesElse s.limit s.threads parts.replies (opening_store s)) (reply_refutes s.limit s.threads parts.replies (opening_store s) parts.places) (reply_refutes s.limit s.threads parts.replies (opening_store s) parts.places) p q front other h k in
      (e ∙ ap (reply_number s.threads) one ∙ sym f, refl)
  later_one line again why.Turn why.Waits (p, front, h, e) (q, other, k, f) =
      absurd (h.wrong (wrong_here s.limit s.threads parts.replies (opening_store s) parts.places (IsOutOfTurn s.limit s.threads parts.replies (opening_store s)) (HasToWait s.limit s.threads parts.replies (opening_store s)) (turn_refutes s.limit s.threads parts.replies (opening_store s) parts.places) (waits_refutes s.limit s.threads parts.replies (opening_store s) parts.places) p q front other h k).turn)
  later_one line again why.Turn why.Reply (p, front, h, e) (q, other, k, f) =
      absurd (h.wrong (wrong_here s.limit s.threads parts.replies (opening_store s) parts.places (IsOutOfTurn s.limit s.threads parts.replies (opening_store s)) (RepliesElse s.limit s.threads parts.replies (opening_store s)) (turn_refutes s.limit s.threads parts.replies (opening_store s) parts.places) (reply_refutes s.limit s.threads parts.replies (opening_store s) parts.places) p q front other h k).turn)
  later_one line again why.Waits why.Turn (p, front, h, e) (q, other, k, f) =
      absurd ((wrong_here s.limit s.threads parts.replies (opening_store s) parts.places (HasToWait s.limit s.threads parts.replies (opening_store s)) (IsOutOfTurn s.limit s.threads parts.replies (opening_store s)) (waits_refutes s.limit s.threads parts.replies (opening_store s) parts.places) (turn_refutes s.limit s.threads parts.replies (opening_store s) parts.places) p q front other h k) h.wrong.turn)
  later_one line again why.Reply why.Turn (p, front, h, e) (q, other, k, f) =
      absurd ((wrong_here s.limit s.threads parts.replies (opening_store s) parts.places (RepliesElse s.limit s.threads parts.replies (opening_store s)) (IsOutOfTurn s.limit s.threads parts.replies (opening_store s)) (reply_refutes s.limit s.threads parts.replies (opening_store s) parts.places) (turn_refutes s.limit s.threads parts.replies (opening_store s) parts.places) p q front other h k) h.wrong.turn)
  later_one line again why.Waits why.Reply (p, front, h, e) (q, other, k, f) =
      absurd (not_both s.limit s.threads parts.replies (opening_store s) parts.places p h.stand h.now h.wrong (wrong_here s.limit s.threads parts.replies (opening_store s) parts.places (HasToWait s.limit s.threads parts.replies (opening_store s)) (RepliesElse s.limit s.threads parts.replies (opening_store s)) (waits_refutes s.limit s.threads parts.replies (opening_store s) parts.places) (reply_refutes s.limit s.threads parts.replies (opening_store s) parts.places) p q front other h k))
  later_one line again why.Reply why.Waits (p, front, h, e) (q, other, k, f) =
      absurd (not_both s.limit s.threads parts.replies (opening_store s) parts.places p h.stand h.now (wrong_here s.limit s.threads parts.replies (opening_store s) parts.places (RepliesElse s.limit s.threads parts.replies (opening_store s)) (HasToWait s.limit s.threads parts.replies (opening_store s)) (reply_refutes s.limit s.threads parts.replies (opening_store s) parts.places) (waits_refutes s.limit s.threads parts.replies (opening_store s) parts.places) p q front other h k) h.wrong)
  later_one line again why.Turn why.Order (p, front, h, e) (j, k, f) = absurd (stops_never (IsOutOfTurn s.limit s.threads parts.replies (opening_store s)) (turn_refutes s.limit s.threads parts.replies (opening_store s) parts.places) p front h k.last k.records k.whole)
  later_one line again why.Waits why.Order (p, front, h, e) (j, k, f) = absurd (stops_never (HasToWait s.limit s.threads parts.replies (opening_store s)) (waits_refutes s.limit s.threads parts.replies (opening_store s) parts.places) p front h k.last k.records k.whole)
  later_one line again why.Reply why.Order (p, front, h, e) (j, k, f) = absurd (stops_never (RepliesElse s.limit s.threads parts.replies (opening_store s)) (reply_refutes s.limit s.threads parts.replies (opening_store s) parts.places) p front h k.last k.records k.whole)
  later_one line again why.Turn why.State (p, front, h, e) (j, k, f) = absurd (stops_never (IsOutOfTurn s.limit s.threads parts.replies (opening_store s)) (turn_refutes s.limit s.threads parts.replies (opening_store s) parts.places) p front h k.last k.records k.whole)
  later_one line again why.Waits why.State (p, front, h, e) (j, k, f) = absurd (stops_never (HasToWait s.limit s.threads parts.replies (opening_store s)) (waits_refutes s.limit s.threads parts.replies (opening_store s) parts.places) p front h k.last k.records k.whole)
  later_one line again why.Reply why.State (p, front, h, e) (j, k, f) = absurd (stops_never (RepliesElse s.limit s.threads parts.replies (opening_store s)) (reply_refutes s.limit s.threads parts.replies (opening_store s) parts.places) p front h k.last k.records k.whole)
  later_one line again why.Order why.Turn (j, k, f) (p, front, h, e) = absurd (stops_never (IsOutOfTurn s.limit s.threads parts.replies (opening_store s)) (turn_refutes s.limit s.threads parts.replies (opening_store s) parts.places) p front h k.last k.records k.whole)
  later_one line again why.Order why.Waits (j, k, f) (p, front, h, e) = absurd (stops_never (HasToWait s.limit s.threads parts.replies (opening_store s)) (waits_refutes s.limit s.threads parts.replies (opening_store s) parts.places) p front h k.last k.records k.whole)
  later_one line again why.Order why.Reply (j, k, f) (p, front, h, e) = absurd (stops_never (RepliesElse s.limit s.threads parts.replies (opening_store s)) (reply_refutes s.limit s.threads parts.replies (opening_store s) parts.places) p front h k.last k.records k.whole)
  later_one line again why.State why.Turn (j, k, f) (p, front, h, e) = absurd (stops_never (IsOutOfTurn s.limit s.threads parts.replies (opening_store s)) (turn_refutes s.limit s.threads parts.replies (opening_store s) parts.places) p front h k.last k.records k.whole)
  later_one line again why.State why.Waits (j, k, f) (p, front, h, e) = absurd (stops_never (HasToWait s.limit s.threads parts.replies (opening_store s)) (waits_refutes s.limit s.threads parts.replies (opening_store s) parts.places) p front h k.last k.records k.whole)
  later_one line again why.State why.Reply (j, k, f) (p, front, h, e) = absurd (stops_never (RepliesElse s.limit s.threads parts.replies (opening_store s)) (reply_refutes s.limit s.threads parts.replies (opening_store s) parts.places) p front h k.last k.records k.whole)
  later_one line again why.Order why.Order (i, h, e) (j, k, f) =
      let same = (whole_both h.last k.last h.records k.records h.whole k.whole).0 in
      let order = canonical_one h.records k.records h.order k.order same h.canonical k.canonical in
      let also : DiffersAt parts.places h.order j = subst (λ (ps : List Place). DiffersAt parts.places ps j) (sym order) k.differs in
      let index : i ≡ j = by_size i j (differs_once h.order i j h.differs also) (differs_once h.order j i also h.differs) in
      (e ∙ ap (place_number s.threads) index ∙ sym f, refl)
  later_one line again why.Order why.State (i, h, e) (j, k, f) =
      let same = (whole_both h.last k.last h.records k.records h.whole k.whole).0 in
      let order = canonical_one h.records k.records h.order parts.places same h.canonical k.canonical in
      let d = h.differs in
      absurd (d.differ (first_differ d.front d.given d.wanted d.given_back d.wanted_back (sym d.gives ∙ sym order ∙ d.wants)))
  later_one line again why.State why.Order (j, k, f) (i, h, e) =
      let same = (whole_both h.last k.last h.records k.records h.whole k.whole).0 in
      let order = canonical_one h.records k.records h.order parts.places same h.canonical k.canonical in
      let d = h.differs in
      absurd (d.differ (first_differ d.front d.given d.wanted d.given_back d.wanted_back (sym d.gives ∙ sym order ∙ d.wants)))
  later_one line again why.State why.State (i, h, e) (j, k, f) =
      let same : h.last ≡ k.last = (whole_both h.last k.last h.records k.records h.whole k.whole).1 in
      let also : UnlikeAt parts.state s.objects (values h.last) j = subst (λ (x : Store). UnlikeAt parts.state s.objects (values x) j) (sym same) k.unlike in
      let index : i ≡ j = by_size i j (unlike_once (values h.last) i j h.unlike also) (unlike_once (values h.last) j i also h.unlike) in
      (e ∙ ap (state_number s.threads) index ∙ sym f, refl)
