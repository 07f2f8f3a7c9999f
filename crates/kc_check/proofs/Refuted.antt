-- The text of a run fails no test behind that of its form.
use Rattle.std.proofs.Common.{◌≡◌, ℕ, zero, suc, ◌+◌, List, [], ◌∷◌, ◌++◌, Contains, Option, Some, None, length, map, refl, sym, ap, subst, ◌∙◌, arith}
use Rattle.std.specs.Prelude.{codes, slice_get}
use Rattle.kc_script_bundle.specs.declared.object.Object.{Object}
use Rattle.kc_history.proofs.Choice.{none_ready, one_order}
use Rattle.kc_history.specs.Order.{Footprints, IsCanonical}
use Rattle.kc_history.specs.Records.{footprint_at, record_at}
use Rattle.kc_history.specs.Text.{order_lines, reply_lines}
use Rattle.kc_history.specs.declared.record.Place.{Place}
use Rattle.kc_history.specs.declared.record.Record.{Record}
use Rattle.kc_model.specs.Store.{Store}
use Rattle.kc_script_bundle.specs.Script.{Names, Script}
use Rattle.kc_script_bundle.specs.State.{shown, state_line, state_text}
use Rattle.kc_script_runs.proofs.Determined.{canonical_has, place, replays_are_one, same_lists}
use Rattle.kc_script_bundle.specs.declared.operation.Command.{Command}
use Rattle.kc_script_runs.specs.Labels.{ThreadsHaveRecords, Label, label, labels}
use Rattle.kc_script_runs.specs.Run.{IsScriptRun, opening_store}
use Rattle.kc_xt.specs.Meaning.{values}
use Rattle.kc_check.proofs.Fronts.{not_out_of_turn, not_replying_else, not_waiting}
use Rattle.kc_check.proofs.Shown.{parts_of, run_again, run_comes, run_count, run_laid, run_state}
use Rattle.kc_check.proofs.Unique.{heads, parts_one, tails}
use Rattle.kc_check.specs.Faults.{PlacesReplayed, ComesWhole, FailsIn, HasToWait, IsDisordered, IsOutOfTurn, RepliesElse, ShowsElse, StopsAt}
use Rattle.kc_check.specs.Laid.{AllLines, AllReplyLines, AreFew, TextIsLaid}
use Rattle.kc_check.specs.Parts.{Parts}
use Rattle.kc_check.specs.Shown.{held_lines, replies_for}
use Rattle.kc_check.specs.declared.error.CheckWhy.{CheckWhy}
use Rattle.kc_check.specs.declared.error.CheckWhy.TheVariants as why

-- lists for the same threads have records at the same places
also_there : (threads : List (List Command)) (records others : List (List Record)) → ThreadsHaveRecords 1 threads records → ThreadsHaveRecords 1 threads others → (t k : ℕ) (q : Record) → record_at others t k ≡ Some q → (r : Record) × (record_at records t k ≡ Some r)
also_there threads records others h i t k q at = in_lists 1 threads records others h i t k q at
  where
    in_list : (xs ys : List Record) (ls : List Label) → map label xs ≡ ls → map label ys ≡ ls → (k : ℕ) (q : Record) → slice_get ys k ≡ Some q → (r : Record) × (slice_get xs k ≡ Some r)
    in_list xs [] ls e f k q at = absurd (cc)
    in_list [] (y ∷ ys) ls e f k q at = absurd (cc (e ∙ sym f))
    in_list (x ∷ xs) (y ∷ ys) ls e f zero q at = (x, refl)
    in_list (x ∷ xs) (y ∷ ys) ls e f (suc k) q at = in_list xs ys (map label ys) (tails (label x) (label y) (map label xs) (map label ys) (e ∙ sym f)) refl k q at

    in_lists : (j : ℕ) (threads : List (List Command)) (records others : List (List Record)) → ThreadsHaveRecords j threads records → ThreadsHaveRecords j threads others → (t k : ℕ) (q : Record) → record_at others t k ≡ Some q → (r : Record) × (record_at records t k ≡ Some r)
    in_lists j [] [] [] h i t k q at = absurd (cc)
    in_lists j [] [] (ys ∷ others) h i t k q at = absurd i
    in_lists j [] (xs ∷ records) others h i t k q at = absurd h
    in_lists j (cs ∷ threads) [] others h i t k q at = absurd h
    in_lists j (cs ∷ threads) (xs ∷ records) [] h i t k q at = absurd i
    in_lists j (cs ∷ threads) (xs ∷ records) (ys ∷ others) h i zero k q at = in_list xs ys (labels j 1 cs) h.0 i.0 k q at
    in_lists j (cs ∷ threads) (xs ∷ records) (ys ∷ others) h i (suc t) k q at = in_lists (j + 1) threads records others h.1 i.1 t k q at

-- records that come at all places of a run are the run's
pub whole_one : (s : Script) (parts : Parts) (records others : List (List Record)) (last end : Store) → IsScriptRun s records parts.places last → ComesWhole s parts end others → (records ≡ others) × (last ≡ end)
whole_one s parts records others last end run whole =
    let one = replays_are_one s.limit s.threads records others run.threads whole.comes.labelled parts.places (opening_store s) last end run.replays whole.comes.replays in
    let at : (t k : ℕ) → record_at records t k ≡ record_at others t k = λ t k. by t k (record_at records t k) (record_at others t k) refl refl one.1 in
    (same_lists 1 s.threads records others run.threads whole.comes.labelled at, one.0)
  where
    by : (t k : ℕ) (o p : Option Record) → record_at records t k ≡ o → record_at others t k ≡ p → ((p : Place) → Contains parts.places p → record_at records p.thread p.index ≡ record_at others p.thread p.index) → record_at records t k ≡ record_at others t k
    by t k None None e f same = e ∙ sym f
    by t k (Some r) p e f same = same (place t k) (canonical_has records parts.places run.canonical t k r e)
    by t k None (Some q) e f same = let (r, at) = also_there s.threads records others run.threads whole.comes.labelled t k q f in same (place t k) (canonical_has records parts.places run.canonical t k r at)

pub first_differ : {X : Type 0} (front : List X) (a b : X) (cs bs : List X) → front ++ a ∷ cs ≡ front ++ b ∷ bs → a ≡ b
first_differ [] a b cs bs e = heads a b cs bs e
first_differ (x ∷ front) a b cs bs e = first_differ front a b cs bs (tails x x (front ++ a ∷ cs) (front ++ b ∷ bs) e)

pub at_one : {X : Type 0} (xs ys : List X) (a b : X) (cs bs : List X) → length xs ≡ length ys → xs ++ a ∷ cs ≡ ys ++ b ∷ bs → a ≡ b
at_one [] [] a b cs bs long e = heads a b cs bs e
at_one [] (y ∷ ys) a b cs bs long e = absurd (omega arith)
at_one (x ∷ xs) [] a b cs bs long e = absurd (omega arith)
at_one (x ∷ xs) (y ∷ ys) a b cs bs long e = at_one xs ys a b cs bs (omega arith) (tails x y (xs ++ a ∷ cs) (ys ++ b ∷ bs) e)

pub held_apart : (front : Names) (entry : List ℕ × Object) (back : Names) (m : ℕ → ℕ) → held_lines (front ++ entry ∷ back) m ≡ held_lines front m ++ state_line entry.0 (shown entry.1 m) ∷ held_lines back m
held_apart [] entry back m = refl
held_apart (x ∷ front) entry back m = ap (λ (ls : List (List ℕ)). state_line x.0 (shown x.1 m) ∷ ls) (held_apart front entry back m)

module _ (s : Script) (parts : Parts) (records : List (List Record)) (last : Store) (run : IsScriptRun s records parts.places last) (whole : ComesWhole s parts last records) where
  stops_not : (Wrong : Place → (ℕ → ℕ) → Store → Type 0) → ((front : List Place) (p : Place) (back : List Place) → PlacesReplayed s.limit s.threads parts.replies (opening_store s) (front ++ p ∷ back) whole.stand last records → (stand : ℕ → ℕ) (now : Store) (others : List (List Record)) → PlacesReplayed s.limit s.threads parts.replies (opening_store s) front stand now others → Wrong p stand now → ⊥)
      → (p : Place) (front : List Place) → StopsAt s.limit s.threads parts.replies (opening_store s) parts.places Wrong p front → ⊥
  stops_not Wrong refutes p front stops = refutes front p stops.back (subst (λ (ps : List Place). PlacesReplayed s.limit s.threads parts.replies (opening_store s) ps whole.stand last records) stops.splits whole.comes) stops.stand stops.now stops.records stops.comes stops.wrong

  pub not_turn : (p : Place) (front : List Place) → StopsAt s.limit s.threads parts.replies (opening_store s) parts.places (IsOutOfTurn s.limit s.threads parts.replies (opening_store s)) p front → ⊥
  not_turn = stops_not (IsOutOfTurn s.limit s.threads parts.replies (opening_store s)) (λ front p back comes stand now others also. not_out_of_turn s.limit s.threads parts.replies (opening_store s) front p back whole.stand last records comes stand now others also)

  pub not_waits : (p : Place) (front : List Place) → StopsAt s.limit s.threads parts.replies (opening_store s) parts.places (HasToWait s.limit s.threads parts.replies (opening_store s)) p front → ⊥
  not_waits = stops_not (HasToWait s.limit s.threads parts.replies (opening_store s)) (λ front p back comes stand now others also. not_waiting s.limit s.threads parts.replies (opening_store s) front p back whole.stand last records comes stand now others also)

  pub not_reply : (p : Place) (front : List Place) → StopsAt s.limit s.threads parts.replies (opening_store s) parts.places (RepliesElse s.limit s.threads parts.replies (opening_store s)) p front → ⊥
  not_reply = stops_not (RepliesElse s.limit s.threads parts.replies (opening_store s)) (λ front p back comes stand now others also. not_replying_else s.limit s.threads parts.replies (opening_store s) front p back whole.stand last records comes stand now others also)

  pub not_order : (index : ℕ) → IsDisordered s parts index → ⊥
  not_order index d =
      let x = d.differs in
      let same = whole_one s parts records d.records last d.last run d.whole in
      let canonical : IsCanonical (footprint_at records) d.order = subst (λ (rs : List (List Record)). IsCanonical (footprint_at rs) d.order) (sym same.0) d.canonical in
      let a : Footprints = footprint_at records in
      let one = (one_order a parts.places d.order (λ _. 0) (λ _. 0) run.canonical.stand run.canonical.versions canonical.stand canonical.versions run.canonical.chooses (none_ready a run.canonical.stand run.canonical.versions run.canonical.all) canonical.chooses (none_ready a canonical.stand canonical.versions canonical.all)).0 in
      x.differ (first_differ x.front x.given x.wanted x.given_back x.wanted_back (sym x.gives ∙ one ∙ x.wants))

  pub not_state : parts.state ≡ held_lines s.objects (values last) → (index : ℕ) → ShowsElse s parts index → ⊥
  not_state held index e =
      let same = whole_one s parts records e.records last e.last run e.whole in
      let m : ℕ → ℕ = values e.last in
      let x = e.unlike in
      let held' : parts.state ≡ held_lines s.objects m = held ∙ ap (λ (y : Store). held_lines s.objects (values y)) same.1 in
      let given : x.front ++ x.line ∷ x.back ≡ held_lines x.shown_front m ++ state_line x.entry.0 (shown x.entry.1 m) ∷ held_lines x.shown_back m = sym x.given ∙ held' ∙ ap (λ (names : Names). held_lines names m) x.objects ∙ held_apart x.shown_front x.entry x.shown_back m in
      x.differs (at_one x.front (held_lines x.shown_front m) x.line (state_line x.entry.0 (shown x.entry.1 m)) x.back (held_lines x.shown_back m) (ap length x.before) given)

pub no_later_fault : (s : Script) (text : List ℕ) (parts : Parts) (records : List (List Record)) (order : List Place) (last : Store) (line : ℕ) (w : CheckWhy) → AreFew s.threads → IsScriptRun s records order last → AllReplyLines (replies_for s.threads records) → AllLines (held_lines s.objects (values last))
    → text ≡ reply_lines records ++ codes "order\n" ++ order_lines records order ++ codes "state\n" ++ state_text s.objects (values last) → TextIsLaid s text parts → FailsIn s parts line w → ⊥
no_later_fault s text parts records order last line w few run replies held spelled laid fails =
    let mine = run_laid s records order last run text (run_count s records order last run) replies held spelled in
    let same : parts_of s records order last run ≡ parts = parts_one s text (parts_of s records order last run) parts few mine laid in
    let run' : IsScriptRun s records parts.places last = subst (λ (x : Parts). IsScriptRun s records x.places last) same (run_again s records order last run) in
    let whole : ComesWhole s parts last records = subst (λ (x : Parts). ComesWhole s x last records) same (run_comes s records order last run) in
    let held_is : parts.state ≡ held_lines s.objects (values last) = sym (ap (λ (x : Parts). x.state) same) ∙ run_state s records order last run in
    by w run' whole held_is fails
  where
    by : (w : CheckWhy) → IsScriptRun s records parts.places last → ComesWhole s parts last records → parts.state ≡ held_lines s.objects (values last) → FailsIn s parts line w → ⊥
    by why.Form run' whole held_is f = f
    by why.Turn run' whole held_is (p, front, stops, is) = not_turn s parts records last run' whole p front stops
    by why.Waits run' whole held_is (p, front, stops, is) = not_waits s parts records last run' whole p front stops
    by why.Reply run' whole held_is (p, front, stops, is) = not_reply s parts records last run' whole p front stops
    by why.Order run' whole held_is (index, d, is) = not_order s parts records last run' whole index d
    by why.State run' whole held_is (index, e, is) = not_state s parts records last run' whole held_is index e
