-- The parts of a run's text.
use Rattle.std.proofs.Common.{◌≡◌, ℕ, zero, suc, ◌+◌, ◌<◌, ◌≤◌, List, [], ◌∷◌, ◌++◌, map, All, Contains, Option, Some, None, length, refl, sym, ap, ap₂, ◌∙◌, arith, slice_index_or}
use Rattle.std.proofs.lemmas.List.{append-nil, length-map}
use Rattle.std.proofs.lemmas.List.Elements.{Contains-get_or}
use Rattle.std.specs.List.{flat_map}
use Rattle.std.specs.Prelude.{IsSome, codes, slice_get}
use Rattle.kc_history.proofs.Choice.{some_is}
use Rattle.kc_history.specs.Records.{footprint_at, record_at}
use Rattle.kc_history.specs.Text.{marked_reply, order_lines, reply_line, reply_lines}
use Rattle.kc_history.specs.declared.record.Mark.{Mark}
use Rattle.kc_history.specs.declared.record.Mark.TheVariants as mark
use Rattle.kc_history.specs.declared.record.Place.{Place}
use Rattle.kc_history.specs.declared.record.Record.{Record}
use Rattle.kc_model.specs.Store.{Store}
use Rattle.kc_script_bundle.specs.Script.{Names, Script}
use Rattle.kc_script_bundle.specs.State.{shown, state_line, state_text}
use Rattle.kc_script_bundle.specs.declared.operation.Command.{Command}
use Rattle.kc_script_runs.proofs.Named.{replays_named}
use Rattle.kc_script_runs.specs.Labels.{ThreadsHaveRecords, Label, label, labels}
use Rattle.kc_script_runs.specs.Run.{IsScriptRun, opening_store}
use Rattle.kc_xt.specs.Meaning.{values}
use Rattle.kc_check.proofs.Counting.{all_counted, chosen_turns, place_within}
use Rattle.kc_check.proofs.Unique.{heads, tails}
use Rattle.kc_check.proofs.Whole.{labels_long, order_is}
use Rattle.std.specs.Option.{option_map}
use Rattle.kc_check.specs.Faults.{ComesWhole}
use Rattle.kc_check.specs.Forms.{AllReplies, AreHeld, IsFormed}
use Rattle.kc_check.specs.Laid.{AllLines, AllReplyLines, TextIsLaid}
use Rattle.kc_check.specs.Parts.{AsMany, IsThreadPlace, Parts, joined_lines, places_in, places_text, replies_text}
use Rattle.kc_check.specs.Shown.{held_lines, lines_for, replies_for}

-- ---- the replies of a thread

is_end : (r : Record) (thread : ℕ) (ls : List Label) → label r ∷ [] ≡ (let l : Label = record { thread = thread; mark = mark.End } in l) ∷ ls → reply_line r ≡ []
is_end r thread ls e = ap (λ (m : Mark). marked_reply m r) (ap (λ (l : Label). l.mark) (heads (label r) (record { thread = thread; mark = mark.End }) [] ls e))

lines_long : (thread n : ℕ) (cs : List Command) (rs : List Record) → map label rs ≡ labels thread n cs → length (lines_for cs rs) ≡ length cs
lines_long thread n [] rs e = refl
lines_long thread n (c ∷ cs) [] e = absurd (cc)
lines_long thread n (c ∷ cs) (r ∷ rs) e = ap suc (lines_long thread (n + 1) cs rs (tails (label r) _ (map label rs) (labels thread (n + 1) cs) e))

lines_joined : (thread n : ℕ) (cs : List Command) (rs : List Record) → map label rs ≡ labels thread n cs → flat_map reply_line rs ≡ joined_lines (lines_for cs rs)
lines_joined thread n [] [] e = absurd (cc)
lines_joined thread n [] (r ∷ []) e = append-nil (reply_line r) ∙ is_end r thread [] e
lines_joined thread n [] (r ∷ q ∷ rs) e = absurd (two (label r) (label q) (map label rs) (record { thread = thread; mark = mark.End }) e)
  where
    two : (a b : Label) (ls : List Label) (c : Label) → a ∷ b ∷ ls ≡ c ∷ [] → ⊥
    two a b ls c h = cc (tails a c (b ∷ ls) [] h)
lines_joined thread n (c ∷ cs) [] e = absurd (cc)
lines_joined thread n (c ∷ cs) (r ∷ rs) e = ap (λ (xs : List ℕ). reply_line r ++ xs) (lines_joined thread (n + 1) cs rs (tails (label r) _ (map label rs) (labels thread (n + 1) cs) e))

lines_said : (thread n : ℕ) (cs : List Command) (rs : List Record) → map label rs ≡ labels thread n cs → (k : ℕ) (r : Record) → slice_get rs k ≡ Some r → slice_index_or (lines_for cs rs) k [] ≡ reply_line r
lines_said thread n [] [] e k r at = absurd (cc)
lines_said thread n [] (q ∷ []) e zero r at = sym (is_end q thread [] e) ∙ ap reply_line (some_is q r at)
lines_said thread n [] (q ∷ []) e (suc k) r at = absurd (cc)
lines_said thread n [] (q ∷ p ∷ rs) e k r at = absurd (two (label q) (label p) (map label rs) (record { thread = thread; mark = mark.End }) e)
  where
    two : (a b : Label) (ls : List Label) (c : Label) → a ∷ b ∷ ls ≡ c ∷ [] → ⊥
    two a b ls c h = cc (tails a c (b ∷ ls) [] h)
lines_said thread n (c ∷ cs) [] e k r at = absurd (cc)
lines_said thread n (c ∷ cs) (q ∷ rs) e zero r at = ap reply_line (some_is q r at)
lines_said thread n (c ∷ cs) (q ∷ rs) e (suc k) r at = lines_said thread (n + 1) cs rs (tails (label q) _ (map label rs) (labels thread (n + 1) cs) e) k r at

-- ---- of all threads

replies_many : (j : ℕ) (threads : List (List Command)) (records : List (List Record)) → ThreadsHaveRecords j threads records → AsMany threads (replies_for threads records)
replies_many j [] [] h = tt
replies_many j [] (rs ∷ records) h = absurd h
replies_many j (cs ∷ threads) [] h = absurd h
replies_many j (cs ∷ threads) (rs ∷ records) h = (lines_long j 1 cs rs h.0, replies_many (j + 1) threads records h.1)

replies_joined : (j : ℕ) (threads : List (List Command)) (records : List (List Record)) → ThreadsHaveRecords j threads records → reply_lines records ≡ replies_text (replies_for threads records)
replies_joined j [] [] h = refl
replies_joined j [] (rs ∷ records) h = absurd h
replies_joined j (cs ∷ threads) [] h = absurd h
replies_joined j (cs ∷ threads) (rs ∷ records) h = ap₂ (λ (x y : List ℕ). x ++ y) (lines_joined j 1 cs rs h.0) (replies_joined (j + 1) threads records h.1)

replies_said : (j : ℕ) (threads : List (List Command)) (records : List (List Record)) → ThreadsHaveRecords j threads records → (t k : ℕ) (r : Record) → record_at records t k ≡ Some r → slice_index_or (slice_index_or (replies_for threads records) t []) k [] ≡ reply_line r
replies_said j [] [] h t k r at = absurd (cc)
replies_said j [] (rs ∷ records) h t k r at = absurd h
replies_said j (cs ∷ threads) [] h t k r at = absurd h
replies_said j (cs ∷ threads) (rs ∷ records) h zero k r at = lines_said j 1 cs rs h.0 k r at
replies_said j (cs ∷ threads) (rs ∷ records) h (suc t) k r at = replies_said (j + 1) threads records h.1 t k r at

pub held_joined : (names : Names) (m : ℕ → ℕ) → joined_lines (held_lines names m) ≡ state_text names m
held_joined [] m = refl
held_joined (entry ∷ names) m = ap (λ (xs : List ℕ). state_line entry.0 (shown entry.1 m) ++ xs) (held_joined names m)

there : (o : Option Record) → IsSome o → (r : Record) × (o ≡ Some r)
there None some = absurd (cc)
there (Some r) some = (r, refl)

-- ---- the run

module _ (s : Script) (records : List (List Record)) (order : List Place) (last : Store) (run : IsScriptRun s records order last) where
  pub parts_of : Parts
  parts_of = record { replies = replies_for s.threads records; places = order; state = held_lines s.objects (values last) }

  run_places : (p : Place) → Contains order p → IsThreadPlace s.threads p
  run_places p inside = let (r, at) = there (record_at records p.thread p.index) (replays_named s.limit s.threads records (opening_store s) last order run.replays p inside) in place_within s.threads records run.threads p r at

  pub run_each : All (IsThreadPlace s.threads) order
  run_each k d lt = run_places (slice_index_or order k d) (Contains-get_or order k d lt)

  pub run_comes : ComesWhole s parts_of last records
  unfolding parts_of
  run_comes = record {
    stand = run.canonical.stand;
    comes = record {
      labelled = run.threads;
      turns = chosen_turns (footprint_at records) order (λ _. 0) (λ _. 0) run.canonical.stand run.canonical.versions run.canonical.chooses;
      replays = run.replays;
      said = λ p inside r at. replies_said 1 s.threads records run.threads p.thread p.index r at;
    };
  }

  pub run_laid : (text : List ℕ) → length order ≡ places_in s.threads → AllReplyLines (replies_for s.threads records) → AllLines (held_lines s.objects (values last)) → text ≡ reply_lines records ++ codes "order\n" ++ order_lines records order ++ codes "state\n" ++ state_text s.objects (values last) → TextIsLaid s text parts_of
  unfolding parts_of
  run_laid text count replies held spelled = record {
    many = replies_many 1 s.threads records run.threads;
    replies = replies;
    places = run_each;
    count = count;
    objects = length-map s.objects (λ entry. state_line entry.0 (shown entry.1 (values last)));
    state = held;
    spelled = spelled ∙ ap₂ (λ (a b : List ℕ). a ++ codes "order\n" ++ b ++ codes "state\n" ++ state_text s.objects (values last)) (replies_joined 1 s.threads records run.threads) (order_is s.threads records run.threads order run_each (λ p inside. replays_named s.limit s.threads records (opening_store s) last order run.replays p inside))
        ∙ ap (λ (c : List ℕ). replies_text (replies_for s.threads records) ++ codes "order\n" ++ places_text s.threads order ++ codes "state\n" ++ c) (sym (held_joined s.objects (values last)));
  }

  pub run_formed : (text : List ℕ) → TextIsLaid s text parts_of → AllReplies 1 s.threads (replies_for s.threads records) → AreHeld s.objects (held_lines s.objects (values last)) → IsFormed s text parts_of
  unfolding parts_of
  run_formed text laid replies held = record { replies = replies; places = laid.places; count = laid.count; state = held; spelled = laid.spelled }

  pub run_again : IsScriptRun s records parts_of.places last
  unfolding parts_of
  run_again = run

  pub run_state : parts_of.state ≡ held_lines s.objects (values last)
  unfolding parts_of
  run_state = refl

  pub run_count : length order ≡ places_in s.threads
  run_count = all_counted s.threads records run.threads order run.canonical.stand run_each (chosen_turns (footprint_at records) order (λ _. 0) (λ _. 0) run.canonical.stand run.canonical.versions run.canonical.chooses) (λ u lt. taken 1 s.threads records run.threads u lt (λ k r at. run.canonical.all u k r.footprint (ap (option_map (λ (q : Record). q.footprint)) at)))
    where
      last_in : (xs : List Record) (n : ℕ) → n < length xs → (r : Record) × (slice_get xs n ≡ Some r)
      last_in [] n lt = absurd (omega arith)
      last_in (x ∷ xs) zero lt = (x, refl)
      last_in (x ∷ xs) (suc n) lt = last_in xs n (omega arith)

      taken : (j : ℕ) (threads : List (List Command)) (records : List (List Record)) → ThreadsHaveRecords j threads records → (u : ℕ) → u < length threads → {n : ℕ} → ((k : ℕ) (r : Record) → record_at records u k ≡ Some r → k < n) → length (slice_index_or threads u []) + 1 ≤ n
      taken j [] [] h u lt below = absurd (omega arith)
      taken j [] (rs ∷ records) h u lt below = absurd h
      taken j (cs ∷ threads) [] h u lt below = absurd h
      taken j (cs ∷ threads) (rs ∷ records) h zero lt below =
          let a = length-map rs label in
          let b = ap length h.0 in
          let c = labels_long j 1 cs in
          let (r, at) = last_in rs (length cs) (omega (arith, a, b, c)) in
          let d = below (length cs) r at in
          omega arith
      taken j (cs ∷ threads) (rs ∷ records) h (suc u) lt below = taken (j + 1) threads records h.1 u (omega arith) below
