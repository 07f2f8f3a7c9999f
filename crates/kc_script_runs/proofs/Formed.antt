-- What a thread commits leaves cells that stand for contents.
use Rattle.std.proofs.Common.{arith, ◌≡◌, ◌≢◌, ℕ, ◌+◌, ◌≤◌, ◌==◌, cond, ◌⊎◌, inl, inr, zero, suc, List, [], ◌∷◌, ◌++◌, Option, Some, None, slice_index_or, refl, sym, ap, subst, ◌∙◌}
use Rattle.std.proofs.Math.Path.{fun_ext}
use Rattle.std.specs.Prelude.{slice_get}
use Rattle.std.specs.Option.{option_map, unwrap_or}
use Rattle.kc_model.specs.declared.footprint.Put.{Put}
use Rattle.kc_model.specs.declared.footprint.TheConstants.{MOST}
use Rattle.kc_model.specs.declared.reply.Answer.{Answer}
use Rattle.kc_model.specs.declared.reply.Answer.TheVariants as answer
use Rattle.kc_model.specs.declared.reply.Reply.TheVariants as reply
use Rattle.kc_model.specs.Store.{Store, after, cell_after}
use Rattle.kc_xt.proofs.Spared.{spared, spares_if, spared-append, written-given_up}
use Rattle.kc_xt.proofs.Stay.{stays_unwritten}
use Rattle.kc_xt.proofs.Written.{map_after-at}
use Rattle.kc_xt.specs.Meaning.{Outcome, replied, retried, too_large, Meaning, Run, Touch, last_written, given_up, map_after, values, else_run, touched_after, lesser, limited}
use Rattle.kc_xt.specs.Program.{write, replies, retries, meaning}
use Rattle.kc_loc.specs.declared.operation.LocOp.TheVariants as loc
use Rattle.kc_history.proofs.Choice.{some_is}
use Rattle.kc_history.specs.declared.record.Place.{Place}
use Rattle.kc_history.specs.declared.record.Record.{Record}
use Rattle.kc_loc.proofs.LocLaw.{loc_stays}
use Rattle.kc_loc.specs.Meaning.{loc_program}
use Rattle.kc_script_bundle.proofs.Commands.{command_keeps}
use Rattle.kc_script_bundle.proofs.Keeping.{all_same}
use Rattle.kc_script_bundle.proofs.Opened.{script_opens}
use Rattle.kc_script_bundle.specs.Live.{live_threads, is_flagged, cleared}
use Rattle.kc_script_bundle.specs.Meaning.{command_meaning, alone_program, end_meaning}
use Rattle.kc_script_bundle.specs.On.{CommandIsOn, CommandsAreOn}
use Rattle.kc_script_bundle.specs.Script.{Names, Script, LieFrom}
use Rattle.kc_script_bundle.specs.State.{AreWellFormed, opening_contents}
use Rattle.kc_script_bundle.specs.declared.operation.Command.{Command}
use Rattle.kc_script_runs.specs.Run.{IsCommit, IsScriptRun, Replays, opening_store}
use Rattle.kc_script_runs.specs.Threads.{asked, meanings}
use Rattle.kc_xt.specs.Commit.{answer_of, kept, run_on}

-- ---- what a commit leaves

one_left : (s : Store) (l : ℕ) (o : Option ℕ) → (cell_after (option_map (λ v. (let p : Put = record { loc = record { 0 = l }; version = (s l).version; after = v } in p)) o) (s l)).value ≡ unwrap_or o (s l).value
one_left s l None = refl
one_left s l (Some v) = refl

-- the values that its touches leave
pub left_by : (m : Meaning) (s : Store) (r : Record) → IsCommit m s r → values (after r.footprint s) ≡ map_after (values s) (kept r.answer (run_on m s).touches)
left_by m s r commit = fun_ext (λ l.
    let ts : List Touch = kept r.answer (run_on m s).touches in
    ap (λ (p : Option Put). (cell_after p (s l)).value) ((commit.answers.makes s commit.finds).puts l) ∙ one_left s l (last_written ts l) ∙ sym (map_after-at (values s) ts l))

-- touches that write nothing leave the map as it was
nothing_left : (m : ℕ → ℕ) (ts : List Touch) → ((l : ℕ) → last_written ts l ≡ None) → map_after m ts ≡ m
nothing_left m ts none = fun_ext (λ l. map_after-at m ts l ∙ ap (λ (o : Option ℕ). unwrap_or o (m l)) (none l))

given_up_left : (m : ℕ → ℕ) (ts : List Touch) → map_after m (given_up ts) ≡ m
given_up_left m ts = nothing_left m (given_up ts) (written-given_up ts)

-- where nothing is written, nothing is left of any answer
kept_at : (m : ℕ → ℕ) (ts : List Touch) (a : Answer) (l : ℕ) → last_written ts l ≡ None → map_after m (kept a ts) l ≡ m l
kept_at m ts (answer.Reply b) l none = map_after-at m ts l ∙ ap (λ (o : Option ℕ). unwrap_or o (m l)) none
kept_at m ts answer.TooLarge l none = ap (λ (f : ℕ → ℕ). f l) (given_up_left m ts)

-- what comes of a command that would wait writes location 0 alone
alone_spares : (thread n : ℕ) (m : ℕ → ℕ) (ks : List ℕ) (l : ℕ) → 1 ≤ l → last_written (meaning (alone_program 0 thread) n m ks).touches l ≡ None
alone_spares thread n m ks l le =
    let other : 0 ≢ l = λ e. omega (arith, le, e) in
    spared l (alone_program 0 thread) n m ks (λ v.
    spares_if l (is_flagged thread v) (write 0 (cleared thread v) (replies reply.Cancelled)) (cond (live_threads v == 1) (replies reply.Stranded) retries) (other, tt) (spares_if l (live_threads v == 1) (replies reply.Stranded) retries tt tt))

answered_large : (a : Answer) → answer_of too_large ≡ Some a → answer.TooLarge ≡ a
answered_large a e = let f : Option Answer → Answer = of in ap f e where
  of : Option Answer → Answer
  of (Some b) = b
  of None = answer.TooLarge

pub answered_reply : (b : _) (a : Answer) → answer_of (replied b) ≡ Some a → answer.Reply b ≡ a
answered_reply b a e = let f : Option Answer → Answer = of in ap f e where
  of : Option Answer → Answer
  of (Some c) = c
  of None = answer.TooLarge

-- ---- a thread's commands, and its end

module _ (limit : ℕ) (names : Names) (lie : LieFrom 1 names) where
  -- a thread's command
  asked_formed : (thread : ℕ) (c : Command) (s : Store) (a : Answer) → CommandIsOn names c → answer_of (run_on (asked limit thread c) s).outcome ≡ Some a → AreWellFormed names (values s) → AreWellFormed names (map_after (values s) (kept a (run_on (asked limit thread c) s).touches))
  asked_formed thread c s a on answered formed = by (command_meaning c (lesser limit MOST) (values s) []) refl answered
    where
      by : (r : Run) → command_meaning c (lesser limit MOST) (values s) [] ≡ r → answer_of (else_run r.outcome r.touches (meaning (alone_program 0 thread) (lesser limit MOST) (values s) (touched_after [] r.touches))).outcome ≡ Some a
          → AreWellFormed names (map_after (values s) (kept a (else_run r.outcome r.touches (meaning (alone_program 0 thread) (lesser limit MOST) (values s) (touched_after [] r.touches))).touches))
      by r e given = by_outcome r.outcome r.touches (ap (λ (t : Run). t.outcome) e) (ap (λ (t : Run). t.touches) e) given where
        by_outcome : (o : Outcome) (ts : List Touch) → (command_meaning c (lesser limit MOST) (values s) []).outcome ≡ o → (command_meaning c (lesser limit MOST) (values s) []).touches ≡ ts
            → answer_of (else_run o ts (meaning (alone_program 0 thread) (lesser limit MOST) (values s) (touched_after [] ts))).outcome ≡ Some a → AreWellFormed names (map_after (values s) (kept a (else_run o ts (meaning (alone_program 0 thread) (lesser limit MOST) (values s) (touched_after [] ts))).touches))
        by_outcome (replied b) ts eo et given =
            let large : (command_meaning c (lesser limit MOST) (values s) []).outcome ≢ too_large = λ h. cc (eo, h) in
            let keeps : AreWellFormed names (map_after (values s) (command_meaning c (lesser limit MOST) (values s) []).touches) = command_keeps names c (lesser limit MOST) (values s) [] lie on formed large in
            subst (λ (d : Answer). AreWellFormed names (map_after (values s) (kept d ts))) (answered_reply b a given) (rw et at keeps)
        by_outcome retried ts eo et given =
            let us : List Touch = (meaning (alone_program 0 thread) (lesser limit MOST) (values s) (touched_after [] ts)).touches in
            let none : (l : ℕ) → 1 ≤ l → last_written (given_up ts ++ us) l ≡ None = λ l le. spared-append (given_up ts) us l (written-given_up ts l) (alone_spares thread (lesser limit MOST) (values s) (touched_after [] ts) l le) in
            all_same 1 names (values s) (map_after (values s) (kept a (given_up ts ++ us))) lie (λ l le. sym (kept_at (values s) (given_up ts ++ us) a l (none l le))) formed
        by_outcome too_large ts eo et given =
            subst (λ (d : Answer). AreWellFormed names (map_after (values s) (kept d ts))) (answered_large a given) (subst (AreWellFormed names) (sym (given_up_left (values s) ts)) formed)

  command_formed : (thread : ℕ) (c : Command) (s : Store) (r : Record) → CommandIsOn names c → IsCommit (asked limit thread c) s r → AreWellFormed names (values s) → AreWellFormed names (values (after r.footprint s))
  command_formed thread c s r on commit formed = subst (AreWellFormed names) (sym (left_by (asked limit thread c) s r commit)) (asked_formed thread c s r.answer on (commit.answers.run s commit.finds) formed)

  -- an end writes location 0 alone
  abbrev ended : Meaning
  ended = limited MOST (end_meaning 0)

  end_unwritten : (s : Store) (a : Answer) (l : ℕ) → 1 ≤ l → last_written (kept a (run_on ended s).touches) l ≡ None
  end_unwritten s (answer.Reply b) l le = stays_unwritten 0 1 (loc_program (loc.Decr (record { 0 = 0 })) replies) (loc_stays (loc.Decr (record { 0 = 0 }))) MOST (values s) [] l (λ c lo hi e. omega (arith, hi, e, le))
  end_unwritten s answer.TooLarge l le = written-given_up (run_on ended s).touches l

  end_formed : (s : Store) (r : Record) → IsCommit ended s r → AreWellFormed names (values s) → AreWellFormed names (values (after r.footprint s))
  end_formed s r commit formed =
      let same : (l : ℕ) → 1 ≤ l → values s l ≡ values (after r.footprint s) l =
      λ l le.
      let ts : List Touch = kept r.answer (run_on ended s).touches in
      sym (ap (λ (f : ℕ → ℕ). f l) (left_by ended s r commit) ∙ map_after-at (values s) ts l ∙ ap (λ (o : Option ℕ). unwrap_or o (values s l)) (end_unwritten s r.answer l le)) in
      all_same 1 names (values s) (values (after r.footprint s)) lie same formed

  -- what a thread commits is one of its commands, or its end
  meant : (thread : ℕ) (cs : List Command) → CommandsAreOn names cs → (i : ℕ) (m : Meaning) → slice_get (meanings limit thread cs) i ≡ Some m → ((c : Command) × CommandIsOn names c × (asked limit thread c ≡ m)) ⊎ (ended ≡ m)
  meant thread [] on zero m at = inr (some_is _ m at)
  meant thread [] on (suc i) m at = absurd (cc)
  meant thread (c ∷ cs) on zero m at = inl (c, on.0, some_is _ m at)
  meant thread (c ∷ cs) on (suc i) m at = meant thread cs on.1 i m at

  meant_formed : (thread : ℕ) (m : Meaning) (s : Store) (r : Record) → ((c : Command) × CommandIsOn names c × (asked limit thread c ≡ m)) ⊎ (ended ≡ m) → IsCommit m s r → AreWellFormed names (values s) → AreWellFormed names (values (after r.footprint s))
  meant_formed thread m s r (inl (c, on, is)) commit formed = command_formed thread c s r on (subst (λ (q : Meaning). IsCommit q s r) (sym is) commit) formed
  meant_formed thread m s r (inr is) commit formed = end_formed s r (subst (λ (q : Meaning). IsCommit q s r) (sym is) commit) formed

  -- one after another, to the end
  replays_formed : (threads : List (List Command)) (records : List (List Record)) (s e : Store) (ps : List Place) → ((t : ℕ) → CommandsAreOn names (slice_index_or threads t [])) → Replays limit threads records s ps e → AreWellFormed names (values s) → AreWellFormed names (values e)
  replays_formed threads records s e [] on replays formed = subst (λ (t : Store). AreWellFormed names (values t)) (sym replays) formed
  replays_formed threads records s e (p ∷ ps) on (m, r, means, stands, commit, rest) formed =
      replays_formed threads records (after r.footprint s) e ps on rest (meant_formed (p.thread + 1) m s r (meant (p.thread + 1) (slice_index_or threads p.thread []) (on p.thread) p.index m means) commit formed)

-- the cells of all objects stand for contents at the end of a run
pub run_formed : (script : Script) (records : List (List Record)) (order : List Place) (last : Store) → LieFrom 1 script.objects → ((t : ℕ) → CommandsAreOn script.objects (slice_index_or script.threads t [])) → IsScriptRun script records order last → AreWellFormed script.objects (values last)
run_formed script records order last lie on run =
    replays_formed script.limit script.objects lie script.threads records (opening_store script) last order on run.replays (opening_contents script.objects, script_opens _ script.objects lie)
