-- A command whose words and input are in order is done, or finds no memory.
use Rattle.std.proofs.Common.{◌≡◌, inl, inr, ℕ, zero, suc, ◌≤◌, All, Bool, List, [], ◌∷◌, ◌++◌, length, length-append, append-nil, drop, slice_get, Option, Some, None, Result, refl, sym, ap, ◌∙◌, subst, arith}
use Rattle.kc_model.specs.Outside.{ahead, CameWhole, CamePast, IsSpent, Rises, TookFront}
use Rattle.kc_model.specs.Shelves.{FetchedUntil, FetchPasses, Has, HasEach, IsLonger, file_of}
use Rattle.kc_model.specs.declared.outside.Failed.{Failed}
use Rattle.kc_model.specs.declared.outside.ShelfError.{ShelfError}
use Rattle.kc_script.specs.Parts.{SpellsParts}
use Rattle.kc_script.specs.Spells.{Spells}
use Rattle.kc_script_bundle.specs.Script.{Script}
use Rattle.kc_script.specs.declared.parser.TheConstants.{MOST_BYTES}
use Rattle.kc_top.proofs.Causes.{both_rises, fails_rises, front_rises, one_command}
use Rattle.kc_check.specs.Faults.{IsLegalText}
use Rattle.kc_check.specs.declared.error.CheckWhy.{CheckWhy}
use Rattle.kc_script.proofs.Agree.{spells_one}
use Rattle.kc_script_lines.specs.declared.fault.Why.{Why}
use Rattle.kc_text_files.specs.Files.{files_fault}
use Rattle.kc_top.specs.Checking.{IsRejected}
use Rattle.kc_top.specs.Complete.{AreGivenBoth, IsGiven, IsInOrder}
use Rattle.kc_top.specs.Reading.{BothRefuse, FetchedBoth}
use Rattle.kc_top.specs.Words.{command_of}
use Rattle.kc_top.specs.Statuses.{StatusSays, SaysOf}
use Rattle.kc_top.specs.declared.command_line.Command.{Command}
use Rattle.kc_top.specs.declared.command_line.Command.TheVariants as command
use Rattle.kc_top.specs.declared.command_line.Origin.TheVariants as origin
use Rattle.kc_top.specs.declared.served.Served.{Served}
use Rattle.kc_top.specs.declared.status.Status.{Status}
use Rattle.kc_top.specs.declared.status.Status.TheVariants as status

-- ---- the source

ahead_some : (bytes all : List ℕ) (left : Option (List ℕ)) → Some all ≡ ahead bytes left → (rest : List ℕ) × (left ≡ Some rest) × (all ≡ bytes ++ rest)
unfolding ahead
ahead_some bytes all None e = absurd (cc e)
ahead_some bytes all (Some rest) e = (rest, refl, cc e)

spent_none : (left : Option (List ℕ)) (rest : List ℕ) → left ≡ Some rest → IsSpent left → rest ≡ []
spent_none None rest e h = absurd (cc e)
spent_none (Some bytes) rest e h = cc (e, h)

module _ {S : Type 0} {left : S → Option (List ℕ)} {faults : S → ℕ} {gives : S → List ℕ → Result ℕ Failed → List ℕ → S → Type 0} where
  -- what came whole is what was told
  pub came_told : {s s' : S} {bytes all : List ℕ} → CameWhole left faults gives s bytes s' → left s ≡ Some all → all ≡ bytes
  came_told {s} {s'} {bytes} {all} c told =
      let (rest, is, whole) = ahead_some bytes all (left c.last) (sym told ∙ c.came.told) in
      whole ∙ ap (λ (x : List ℕ). bytes ++ x) (spent_none (left c.last) rest is c.end.spent) ∙ append-nil bytes

  -- no more comes than was told
  pub came_within : {limit : ℕ} {s s' : S} {all : List ℕ} → CamePast left faults gives limit s s' → left s ≡ Some all → length all ≤ limit → ⊥
  came_within {limit} {s} {s'} {all} c told le =
      let (rest, is, whole) = ahead_some c.bytes all (left s') (sym told ∙ c.came.told) in
      let long = ap length whole ∙ length-append c.bytes rest in
      let count = c.count in
      omega (arith, long, count, le)

-- ---- the sink

front_fails : {K : Type 0} {written : K → Option (List ℕ)} {faults : K → ℕ} {gives : K → List ℕ → Result ℕ Failed → K → Type 0} {bytes : List ℕ} {k k' : K} → TookFront written faults gives k bytes k' → Rises (faults k) (faults k')
front_fails {K} {written} {faults} {gives} {bytes} {k} {k'} f = subst (λ (n : ℕ). Rises n (faults k')) f.took.faultless f.fails.cause

-- ---- files

-- a file that is told has one content
one_has : (told : Option (List (List ℕ × List ℕ))) (all : List (List ℕ × List ℕ)) (name one other : List ℕ) → told ≡ Some all → Has told name one → Has told name other → one ≡ other
one_has None all name one other e a b = absurd (cc e)
one_has (Some files) all name one other e a b = cc (a, b)

-- so have several
pub same_each : (told : Option (List (List ℕ × List ℕ))) (all : List (List ℕ × List ℕ)) (names one other : List (List ℕ)) → told ≡ Some all → HasEach told names one → HasEach told names other → one ≡ other
same_each told all [] [] [] e a b = refl
same_each told all (n ∷ names) (x ∷ xs) (y ∷ ys) e a b = let p = one_has told all n x y e a.0 b.0 in let q = same_each told all names xs ys e a.1 b.1 in cc (p, q)
same_each told all [] (x ∷ xs) other e a b = absurd a
same_each told all [] [] (y ∷ ys) e a b = absurd b
same_each told all (n ∷ names) [] other e a b = absurd a
same_each told all (n ∷ names) (x ∷ xs) [] e a b = absurd b

-- none that is told is longer than it is
not_longer : (told : Option (List (List ℕ × List ℕ))) (all : List (List ℕ × List ℕ)) (name bytes : List ℕ) (limit : ℕ) → told ≡ Some all → Has told name bytes → length bytes ≤ limit → IsLonger told name limit → ⊥
not_longer None all name bytes limit e has le long = cc e
not_longer (Some files) all name bytes limit e has le long = let (other, is, lt) = long in let same : other ≡ bytes = cc (has, is) in let size = ap length same in omega (arith, lt, le, size)

got_within : (told : Option (List (List ℕ × List ℕ))) (all : List (List ℕ × List ℕ)) (limit : ℕ) (names files : List (List ℕ)) (i : ℕ) (name : List ℕ) → told ≡ Some all → HasEach told names files → All (λ (bytes : List ℕ). length bytes ≤ limit) files → slice_get names i ≡ Some name → IsLonger told name limit → ⊥
got_within told all limit [] files i name e has le at long = absurd (cc at)
got_within told all limit (n ∷ names) [] i name e has le at long = absurd has
got_within told all limit (n ∷ names) (x ∷ xs) zero name e has le at long = not_longer told all n x limit e has.0 (le 0 x (omega arith)) (subst (λ (y : List ℕ). IsLonger told y limit) (cc at) long)
got_within told all limit (n ∷ names) (x ∷ xs) (suc i) name e has le at long = got_within told all limit names xs i name e has.1 (λ k d lt. le (suc k) d (omega (arith, lt))) at long

module _ {F : Type 0} {told : F → Option (List (List ℕ × List ℕ))} {faults : F → ℕ} {sure : F → Bool} {gives : F → List ℕ → ℕ → Result (List ℕ) ShelfError → F → Type 0} {limit : ℕ} {f f' : F} {names : List (List ℕ)} where
  -- no fetch passes the limit where all files are within it
  pub none_passes : (all : List (List ℕ × List ℕ)) (files : List (List ℕ)) → told f ≡ Some all → HasEach (told f) names files → All (λ (bytes : List ℕ). length bytes ≤ limit) files → FetchedUntil told faults sure gives limit (FetchPasses told faults sure gives limit) f names f' → ⊥
  none_passes all files e has le u = got_within (told f) all limit names files u.count u.name e has le u.next (subst (λ t. IsLonger t u.name limit) u.fetched.kept u.ends.longer)

has_of : (told : Option (List (List ℕ × List ℕ))) (all : List (List ℕ × List ℕ)) (name bytes : List ℕ) → told ≡ Some all → file_of all name ≡ Some bytes → Has told name bytes
has_of None all name bytes e is = tt
has_of (Some files) all name bytes e is = cc (e, is)

module _ {F : Type 0} {told : F → Option (List (List ℕ × List ℕ))} {faults : F → ℕ} {sure : F → Bool} {gives : F → List ℕ → ℕ → Result (List ℕ) ShelfError → F → Type 0} {bundle text : List ℕ} {f f' : F} {line : ℕ} {why : CheckWhy} where
  -- a legal text that is told is not rejected
  pub none_rejected : (given : AreGivenBoth (told f) bundle text) → IsLegalText given.script given.text → IsRejected told faults sure gives bundle text f f' line why → ⊥
  none_rejected given legal r =
      let both = r.reads.both in
      let has = subst (λ (t : Option (List (List ℕ × List ℕ))). Has t text r.text) both.first.kept both.second.has in
      let parsed = one_has (told f) given.all bundle given.bundle r.reads.bundle given.told (has_of (told f) given.all bundle given.bundle given.told given.has_bundle) both.first.has in
      let printed = one_has (told f) given.all text given.text r.text given.told (has_of (told f) given.all text given.text given.told given.has_text) has in
      let script = spells_one r.reads.bundle given.script r.script (subst (λ (x : List ℕ). Spells x given.script) parsed given.spells) r.reads.spells in
      r.refuted (subst (λ (x : Script). IsLegalText x r.text) script (subst (λ (x : List ℕ). IsLegalText given.script x) printed legal))

module _ {F : Type 0} {told : F → Option (List (List ℕ × List ℕ))} {faults : F → ℕ} {sure : F → Bool} {gives : F → List ℕ → ℕ → Result (List ℕ) ShelfError → F → Type 0} {limit : ℕ} {f f' : F} {one_name other_name : List ℕ} where
  -- neither of two files passes its limit where both are within it
  neither_passes : (all : List (List ℕ × List ℕ)) (one other : List ℕ) → told f ≡ Some all → file_of all one_name ≡ Some one → file_of all other_name ≡ Some other → length one ≤ MOST_BYTES → length other ≤ limit → BothRefuse told faults sure gives limit one_name other_name f f' status.TooLong → ⊥
  neither_passes all one other e has_one has_other within_one within_other (inl p) = not_longer (told f) all one_name one MOST_BYTES e (has_of (told f) all one_name one e has_one) within_one p.longer
  neither_passes all one other e has_one has_other within_one within_other (inr p) = not_longer (told f) all other_name other limit e (has_of (told f) all other_name other e has_other) within_other (subst (λ t. IsLonger t other_name limit) p.2.kept p.3.longer)

  -- what was fetched of them is what was told
  both_told : (all : List (List ℕ × List ℕ)) (one other got_one got_other : List ℕ) → told f ≡ Some all → file_of all one_name ≡ Some one → file_of all other_name ≡ Some other → FetchedBoth told faults sure gives limit one_name other_name f got_one got_other f' → (one ≡ got_one) × (other ≡ got_other)
  both_told all one other got_one got_other e has_one has_other both = (
    one_has (told f) all one_name one got_one e (has_of (told f) all one_name one e has_one) both.first.has,
    one_has (told f) all other_name other got_other e (has_of (told f) all other_name other e has_other) (subst (λ t. Has t other_name got_other) both.first.kept both.second.has),
  )

-- files that have no fault have none
no_fault : (texts picks texts' picks' : List ℕ) (fault : ℕ × ℕ × Why) → texts ≡ texts' → picks ≡ picks' → files_fault texts picks ≡ None → files_fault texts' picks' ≡ Some fault → ⊥
no_fault texts picks texts' picks' fault one other right wrong = differ (files_fault texts' picks') (subst (λ (x : List ℕ). files_fault texts' x ≡ None) other (subst (λ (x : List ℕ). files_fault x picks ≡ None) one right)) wrong
  where
    differ : (o : Option (ℕ × ℕ × Why)) → o ≡ None → o ≡ Some fault → ⊥
    differ o none some = cc (none, some)

-- ---- each command

module _ {S F K : Type 0} (left : S → Option (List ℕ)) (source_faults : S → ℕ) (read_gives : S → List ℕ → Result ℕ Failed → List ℕ → S → Type 0)
    (files : F → Option (List (List ℕ × List ℕ))) (shelf_faults : F → ℕ) (sure : F → Bool) (fetch_gives : F → List ℕ → ℕ → Result (List ℕ) ShelfError → F → Type 0)
    (written : K → Option (List ℕ)) (sink_faults : K → ℕ) (write_gives : K → List ℕ → Result ℕ Failed → K → Type 0) (words : List (List ℕ))
    (s s' : S) (f f' : F) (k k' : K) (served : Served) where
  pub in_order : (c : Command) (e : Status) → IsGiven words c (left s) (files f) → (Rises (source_faults s) (source_faults s') → ⊥) → (Rises (shelf_faults f) (shelf_faults f') → ⊥) → (Rises (sink_faults k) (sink_faults k') → ⊥)
      → SaysOf left source_faults read_gives files shelf_faults sure fetch_gives written sink_faults write_gives words c s s' f f' k k' served e → IsInOrder c e
  in_order (command.Run o) status.Done given source shelf sink h = tt
  in_order (command.Run o) status.NoMemory given source shelf sink h = tt
  in_order (command.Run o) status.Usage given source shelf sink h = h
  in_order (command.Run o) (status.Illegal line why) given source shelf sink h = h
  in_order (command.Run o) status.WriteFault given source shelf sink h = sink (front_fails h.shows.shows.front)
  in_order (command.Run origin.Source) status.ReadFault given source shelf sink h = source (front_rises h.refuses.0)
  in_order (command.Run origin.Source) status.TooLong given source shelf sink h = came_within h.refuses.0 given.told given.within
  in_order (command.Run origin.Source) (status.Script part line why) given source shelf sink h =
      let none = h.refuses.0.1 in
      none.refused.1 given.script (subst (λ (x : List ℕ). Spells x given.script) (came_told none.all.came given.told) given.spells)
  in_order (command.Run (origin.Files n)) status.ReadFault given source shelf sink h = shelf (fails_rises h.refuses.0)
  in_order (command.Run (origin.Files n)) status.TooLong given source shelf sink h = none_passes given.all (given.setup ∷ given.rest) given.told given.has given.within h.refuses.0
  in_order (command.Run (origin.Files n)) (status.Script part line why) given source shelf sink h =
      let none = h.refuses.0 in
      let same = same_each (files f) given.all (drop n words) (given.setup ∷ given.rest) (none.setup ∷ none.rest) given.told given.has none.all.has in
      none.refused.1 given.script (spelled_on same given.spells)
    where
      spelled_on : {a b : List ℕ} {xs ys : List (List ℕ)} {script : Script} → a ∷ xs ≡ b ∷ ys → SpellsParts a xs script → SpellsParts b ys script
      spelled_on {a} {b} {xs} {ys} {script} e h = let one : a ≡ b = cc e in let rest : xs ≡ ys = cc e in subst (λ (x : List ℕ). SpellsParts x ys script) one (subst (λ (zs : List (List ℕ)). SpellsParts a zs script) rest h)
  in_order (command.Run (origin.Storm n)) status.ReadFault given source shelf sink h = absurd (cc h.refuses.0)
  in_order (command.Run (origin.Storm n)) status.TooLong given source shelf sink h = absurd (cc h.refuses.0)
  in_order (command.Run (origin.Storm n)) (status.Script part line why) given source shelf sink h = absurd (cc h.refuses.0)
  in_order command.Check status.Done given source shelf sink h = tt
  in_order command.Check status.NoMemory given source shelf sink h = tt
  in_order command.Check (status.Illegal line why) given source shelf sink h = tt
  in_order command.Check status.Usage given source shelf sink h = h.ends.0
  in_order command.Check status.WriteFault given source shelf sink h = sink (front_fails h.ends.1)
  in_order command.Check status.ReadFault given source shelf sink h = shelf (both_rises h.ends.0)
  in_order command.Check status.TooLong given source shelf sink h = neither_passes given.all given.bundle given.text given.told given.has_bundle given.has_text given.bundle_within given.text_within h.ends.0
  in_order command.Check (status.Script part line why) given source shelf sink h =
      let none = h.ends.0.1 in
      let same = both_told given.all given.bundle given.text none.bundle none.text given.told given.has_bundle given.has_text none.both in
      none.refused.1 given.script (subst (λ (x : List ℕ). Spells x given.script) same.0 given.spells)
  in_order command.Texts status.Done given source shelf sink h = tt
  in_order command.Texts status.NoMemory given source shelf sink h = tt
  in_order command.Texts status.Usage given source shelf sink h = h.ends.0
  in_order command.Texts (status.Illegal line why) given source shelf sink h = h.ends.0
  in_order command.Texts status.WriteFault given source shelf sink h = sink (front_fails h.ends.shows)
  in_order command.Texts status.ReadFault given source shelf sink h = shelf (both_rises h.ends.0)
  in_order command.Texts status.TooLong given source shelf sink h = neither_passes given.all given.texts given.picks given.told given.has_texts given.has_picks given.texts_within given.picks_within h.ends.0
  in_order command.Texts (status.Script part line why) given source shelf sink h =
      let finds = h.ends.0 in
      let same = both_told given.all given.texts given.picks finds.texts finds.picks given.told given.has_texts given.has_picks finds.both in
      no_fault given.texts given.picks finds.texts finds.picks (part, line, why) same.0 same.1 given.right finds.wrong

  meant : (c : Command) (e : Status) → command_of words ≡ Some c → IsGiven words c (left s) (files f) → (Rises (source_faults s) (source_faults s') → ⊥) → (Rises (shelf_faults f) (shelf_faults f') → ⊥) → (Rises (sink_faults k) (sink_faults k') → ⊥)
      → (d : Command) × (command_of words ≡ Some d) × SaysOf left source_faults read_gives files shelf_faults sure fetch_gives written sink_faults write_gives words d s s' f f' k k' served e → IsInOrder c e
  meant c e asked given source shelf sink h = in_order c e given source shelf sink (subst (λ (d : Command). SaysOf left source_faults read_gives files shelf_faults sure fetch_gives written sink_faults write_gives words d s s' f f' k k' served e) (one_command words h.1 asked) h.2)

  -- so words that ask for it
  pub says_in_order : (c : Command) (e : Status) → command_of words ≡ Some c → IsGiven words c (left s) (files f) → (Rises (source_faults s) (source_faults s') → ⊥) → (Rises (shelf_faults f) (shelf_faults f') → ⊥) → (Rises (sink_faults k) (sink_faults k') → ⊥)
      → StatusSays left source_faults read_gives files shelf_faults sure fetch_gives written sink_faults write_gives words s s' f f' k k' served e → IsInOrder c e
  says_in_order c status.Usage asked given source shelf sink h = absurd (cc (asked, h.0))
  says_in_order c status.Done asked given source shelf sink h = meant c status.Done asked given source shelf sink h
  says_in_order c status.WriteFault asked given source shelf sink h = meant c status.WriteFault asked given source shelf sink h
  says_in_order c status.ReadFault asked given source shelf sink h = meant c status.ReadFault asked given source shelf sink h
  says_in_order c status.TooLong asked given source shelf sink h = meant c status.TooLong asked given source shelf sink h
  says_in_order c status.NoMemory asked given source shelf sink h = meant c status.NoMemory asked given source shelf sink h
  says_in_order c (status.Script part line why) asked given source shelf sink h = meant c (status.Script part line why) asked given source shelf sink h
  says_in_order c (status.Illegal line why) asked given source shelf sink h = meant c (status.Illegal line why) asked given source shelf sink h
