-- What a thread commits touches no more locations than its limit.
use Rattle.std.proofs.Common.{◌≡◌, ℕ, suc, ◌<◌, ◌≤◌, Bool, true, false, cond, List, [], ◌∷◌, ◌++◌, Option, Some, None, Contains, length, map, refl, sym, ap, ◌∙◌, subst, arith}
use Rattle.std.specs.Prelude.{if◌then◌else◌, nat_lt, ◌==◌, ◌||◌}
use Rattle.std.proofs.lemmas.Bool.Decides.{nat_tests}
use Rattle.std.proofs.lemmas.List.{length-map}
use Rattle.kc_loc.specs.Meaning.{loc_program}
use Rattle.kc_model.proofs.Footprints.{read_at-contained}
use Rattle.kc_model.specs.Footprint.{Reads, Puts, put_location, read_at, read_location}
use Rattle.kc_model.specs.Rising.{IsRising, IsRisingAbove}
use Rattle.kc_model.specs.Store.{Store, Finds}
use Rattle.kc_model.specs.declared.footprint.Footprint.{Footprint}
use Rattle.kc_model.specs.declared.footprint.Put.{Put}
use Rattle.kc_model.specs.declared.footprint.Seen.{Seen}
use Rattle.kc_model.specs.declared.footprint.TheConstants.{MOST}
use Rattle.kc_model.specs.declared.plain_store.Cell.{Cell}
use Rattle.kc_model.specs.declared.reply.Answer.{Answer}
use Rattle.kc_model.specs.declared.reply.Answer.TheVariants as answer
use Rattle.kc_model.specs.declared.reply.Reply.{Reply}
use Rattle.kc_model.specs.declared.reply.Reply.TheVariants as reply
use Rattle.kc_script_bundle.specs.Meaning.{alone_program, command_meaning, end_meaning, op_meaning, op_program, thread_meaning}
use Rattle.kc_script_bundle.specs.declared.operation.Command.{Command}
use Rattle.kc_script_bundle.specs.declared.operation.Command.TheVariants as command
use Rattle.kc_script_bundle.specs.declared.operation.Op.{Op}
use Rattle.kc_script_runs.specs.Threads.{asked}
use Rattle.kc_term.proofs.Closed.{IsClosed, of_term}
use Rattle.kc_term.specs.Fit.{Each}
use Rattle.kc_term.specs.Tree.{operations}
use Rattle.kc_xt.proofs.Places.{rising-tail}
use Rattle.kc_xt.proofs.Spared.{touched-given_up as given_up-touched}
use Rattle.kc_xt.proofs.Touching.{touched-given_up}
use Rattle.kc_xt.specs.Commit.{Answers, kept, run_on}
use Rattle.kc_xt.specs.Meaning.{Outcome, replied, retried, too_large, Meaning, Run, Touch, contains_location, else_run, given_up, insert_location, is_touched, lesser, limited, then_run, touch, touched_after, values}
use Rattle.kc_xt.specs.Program.{Program, ends, read, write, full, has_room, meaning, replies, touching}

-- under a limit it touches no more locations
abbrev Few : Meaning → Type 0
Few p = (n : ℕ) (m : ℕ → ℕ) (ks : List ℕ) → length ks ≤ n → length (touched_after ks (p n m ks).touches) ≤ n

-- ---- programs

length-insert : (ks : List ℕ) (l : ℕ) → length (insert_location ks l) ≡ suc (length ks)
length-insert [] l = refl
length-insert (k ∷ ks) l = by (nat_lt k l) (length-insert ks l)
  where
    by : (b : Bool) → length (insert_location ks l) ≡ suc (length ks) → length (cond b (k ∷ insert_location ks l) (l ∷ k ∷ ks)) ≡ suc (suc (length ks))
    by true h = ap suc h
    by false h = refl

room_touch : (n : ℕ) (ks : List ℕ) (l : ℕ) → length ks ≤ n → has_room n ks l ≡ true → length (touch ks l) ≤ n
room_touch n ks l le room = by (contains_location ks l) room
  where
    by : (c : Bool) → cond c true (nat_lt (length ks) n) ≡ true → length (cond c ks (insert_location ks l)) ≤ n
    by true h = le
    by false h =
        let lt : length ks < n = grind (arith, nat_tests, h) in
        let e = length-insert ks l in
        omega (arith, lt, e)

few_touch : (n : ℕ) (ks : List ℕ) (t : Touch) (r : Run) → length ks ≤ n → (length (touch ks t.cell) ≤ n → length (touched_after (touch ks t.cell) r.touches) ≤ n) → length (touched_after ks (cond (has_room n ks t.cell) (touching t r) full).touches) ≤ n
few_touch n ks t r le rest = by (has_room n ks t.cell) refl
  where
    by : (b : Bool) → has_room n ks t.cell ≡ b → length (touched_after ks (cond b (touching t r) full).touches) ≤ n
    by true h = rest (room_touch n ks t.cell le h)
    by false h = le

program_few : (p : Program) → Few (meaning p)
program_few (ends o) n m ks le = le
program_few (read l k) n m ks le = few_touch n ks (record { cell = l; wrote = None }) _ le (λ h. program_few (k (m l)) n m (touch ks l) h)
program_few (write l v p) n m ks le = few_touch n ks (record { cell = l; wrote = Some v }) _ le (λ h. program_few p n _ (touch ks l) h)

-- ---- terms and commands

touched-append : (ks : List ℕ) (ts us : List Touch) → touched_after ks (ts ++ us) ≡ touched_after (touched_after ks ts) us
touched-append ks [] us = refl
touched-append ks (t ∷ ts) us = touched-append (touch ks t.cell) ts us

module _ (n : ℕ) (ks : List ℕ) (ts : List Touch) (le : length (touched_after ks ts) ≤ n) where
  few_then : (o : Outcome) (f : Reply → Run) → ((a : Reply) → length (touched_after (touched_after ks ts) (f a).touches) ≤ n) → length (touched_after ks (then_run o ts f).touches) ≤ n
  few_then (replied a) f rest = rw (touched-append ks ts (f a).touches) (rest a)
  few_then retried f rest = le
  few_then too_large f rest = le

  few_else : (o : Outcome) (r : Run) → length (touched_after (touched_after ks ts) r.touches) ≤ n → length (touched_after ks (else_run o ts r).touches) ≤ n
  few_else (replied a) r rest = le
  few_else retried r rest = rw (touched-append ks (given_up ts) r.touches, touched-given_up ks ts) rest
  few_else too_large r rest = le

few_closed : IsClosed Few
few_closed = record {
  nothing = λ items. program_few (replies (reply.Many items));
  behind = λ p q hp hq n m ks le. (let h = hp n m ks le in few_then n ks (p n m ks).touches h (p n m ks).outcome _ (λ a. hq a n _ _ h));
  either = λ p q hp hq n m ks le. (let h = hp n m ks le in few_else n ks (p n m ks).touches h (p n m ks).outcome _ (hq n m _ h));
}

each_few : (os : List Op) → Each (λ o. Few (op_meaning o)) os
each_few [] = tt
each_few (o ∷ os) = (program_few (op_program o replies), each_few os)

thread_few : (thread : ℕ) (c : Command) → Few (thread_meaning 0 thread c)
thread_few thread c = few_closed.either (command_meaning c) (meaning (alone_program 0 thread)) (by c) (program_few (alone_program 0 thread))
  where
    by : (c : Command) → Few (command_meaning c)
    by (command.One o) = program_few (op_program o replies)
    by (command.Block t) = of_term few_closed op_meaning t (each_few (operations t))

-- ---- footprints

without : List ℕ → ℕ → List ℕ
without [] l = []
without (k ∷ ks) l = cond (k == l) ks (k ∷ without ks l)

length-without : (ks : List ℕ) (l : ℕ) → contains_location ks l ≡ true → suc (length (without ks l)) ≡ length ks
unfolding without
length-without [] l h = absurd (cc)
length-without (k ∷ ks) l h = by (k == l) h (length-without ks l)
  where
    by : (b : Bool) → cond b true (contains_location ks l) ≡ true → (contains_location ks l ≡ true → suc (length (without ks l)) ≡ length ks) → suc (length (cond b ks (k ∷ without ks l))) ≡ suc (length ks)
    by true h rest = refl
    by false h rest = ap suc (rest h)

contains-without : (ks : List ℕ) (l j : ℕ) → l < j → contains_location ks j ≡ true → contains_location (without ks l) j ≡ true
unfolding without
contains-without [] l j lt h = absurd (cc)
contains-without (k ∷ ks) l j lt h = grind (arith, nat_tests, contains-without ks l j)

-- each of them is among these
abbrev AllIn : List ℕ → List ℕ → Type 0
AllIn ks [] = Unit {0}
AllIn ks (x ∷ xs) = (contains_location ks x ≡ true) × AllIn ks xs

all_without : (ks : List ℕ) (l : ℕ) (xs : List ℕ) (b : ℕ) → l ≤ b → IsRisingAbove b xs → AllIn ks xs → AllIn (without ks l) xs
all_without ks l [] b le rise h = tt
all_without ks l (x ∷ xs) b le (lt, rise) (h, hs) = (contains-without ks l x (omega arith) h, all_without ks l xs x (omega arith) rise hs)

-- rising numbers that are among some are no more than these
few_among : (xs ks : List ℕ) → IsRising xs → AllIn ks xs → length xs ≤ length ks
few_among [] ks rise h = omega arith
few_among (x ∷ xs) ks rise (h, hs) =
    let rest = few_among xs (without ks x) (rising-tail x xs rise) (all_without ks x xs x (omega arith) rise hs) in
    let e = length-without ks x h in
    omega (arith, rest, e)

all_in : {X : Type 0} (at : X → ℕ) (ks : List ℕ) (xs : List X) → ((x : X) → Contains xs x → contains_location ks (at x) ≡ true) → AllIn ks (map at xs)
all_in at ks [] h = tt
all_in at ks (x ∷ xs) h = (h x (0, omega arith, refl), all_in at ks xs (λ y (k, lt, e). h y (suc k, omega arith, e)))

-- a touched location is among those touched
touch_keeps : (ks : List ℕ) (l j : ℕ) → contains_location ks j ≡ true → contains_location (touch ks l) j ≡ true
touch_keeps ks l j h = by (contains_location ks l)
  where
    inserted : (ks : List ℕ) → contains_location ks j ≡ true → contains_location (insert_location ks l) j ≡ true
    inserted [] h = absurd (cc)
    inserted (k ∷ ks) h = grind (arith, nat_tests, inserted ks)

    by : (c : Bool) → contains_location (cond c ks (insert_location ks l)) j ≡ true
    by true = h
    by false = inserted ks h

touch_has : (ks : List ℕ) (l : ℕ) → contains_location (touch ks l) l ≡ true
touch_has ks l = by (contains_location ks l) refl
  where
    inserted : (ks : List ℕ) → contains_location (insert_location ks l) l ≡ true
    inserted [] = grind (arith, nat_tests)
    inserted (k ∷ ks) = grind (arith, nat_tests, inserted ks)

    by : (c : Bool) → contains_location ks l ≡ c → contains_location (cond c ks (insert_location ks l)) l ≡ true
    by true e = e
    by false e = inserted ks

stays_among : (ks : List ℕ) (ts : List Touch) (j : ℕ) → contains_location ks j ≡ true → contains_location (touched_after ks ts) j ≡ true
stays_among ks [] j h = h
stays_among ks (t ∷ ts) j h = stays_among (touch ks t.cell) ts j (touch_keeps ks t.cell j h)

among : (ks : List ℕ) (ts : List Touch) (l : ℕ) → is_touched ts l ≡ true → contains_location (touched_after ks ts) l ≡ true
among ks [] l h = absurd (cc)
among ks (t ∷ ts) l h = by (t.cell == l) refl h (among (touch ks t.cell) ts l)
  where
    by : (b : Bool) → (t.cell == l) ≡ b → (b || is_touched ts l) ≡ true → (is_touched ts l ≡ true → contains_location (touched_after (touch ks t.cell) ts) l ≡ true) → contains_location (touched_after (touch ks t.cell) ts) l ≡ true
    by true e h rest =
        let same : t.cell ≡ l = grind (arith, nat_tests, e) in
        stays_among (touch ks t.cell) ts l (subst (λ l. contains_location (touch ks t.cell) l ≡ true) same (touch_has ks t.cell))
    by false e h rest = rest h

kept_touched : (a : Answer) (ts : List Touch) (l : ℕ) → is_touched (kept a ts) l ≡ is_touched ts l
kept_touched (answer.Reply r) ts l = refl
kept_touched answer.TooLarge ts l = given_up-touched ts l

-- a store on which the reads stand
cell_of : Option Seen → Cell
cell_of None = record { version = 0; value = 0 }
cell_of (Some r) = record { version = r.version; value = r.value }

shown : List Seen → Store
shown rs l = cell_of (read_at rs l)

found : (f : Footprint) → IsRising (map read_location f.reads.items) → Finds f (shown f.reads.items)
unfolding shown cell_of
found f rise r reads = ap cell_of (read_at-contained f.reads.items r rise reads)

some_true : {A : Type 0} (b : Bool) (x y : A) → (if b then Some x else None) ≡ Some y → b ≡ true
some_true true x y e = refl
some_true false x y e = absurd (cc)

-- what is answered so reads and puts no more than the meaning touches
pub few_lines : (m : Meaning) (a : Answer) (f : Footprint) (n : ℕ) → Answers m a f → ((s : Store) → length (touched_after [] (run_on m s).touches) ≤ n) → (length f.reads.items ≤ n) × (length f.puts.items ≤ n)
few_lines m a f n h few =
    let s = shown f.reads.items in
    let made = h.makes s (found f h.well_made.reads_rise) in
    let ts = (run_on m s).touches in
    let ks = touched_after [] ts in
    let read_in : (r : Seen) → Reads f r → contains_location ks r.loc.0 ≡ true = (λ r d.
    among [] ts r.loc.0 (sym (kept_touched a ts r.loc.0) ∙ some_true _ _ r (sym (made.reads r.loc.0) ∙ read_at-contained f.reads.items r h.well_made.reads_rise d))) in
    let put_in : (p : Put) → Puts f p → contains_location ks p.loc.0 ≡ true = (λ p d.
    let (r, reads, there, same) = h.well_made.puts_read p d in
    subst (λ l. contains_location ks l ≡ true) there (read_in r reads)) in
    let reads = few_among (map read_location f.reads.items) ks h.well_made.reads_rise (all_in read_location ks f.reads.items read_in) in
    let puts = few_among (map put_location f.puts.items) ks h.well_made.puts_rise (all_in put_location ks f.puts.items put_in) in
    let many = length-map f.reads.items read_location in
    let many_puts = length-map f.puts.items put_location in
    let most = few s in
    (omega (arith, reads, many, most), omega (arith, puts, many_puts, most))

lesser_least : (n k : ℕ) → lesser n k ≤ n
lesser_least n k = by (nat_lt k n) refl
  where
    by : (b : Bool) → nat_lt k n ≡ b → (if b then k else n) ≤ n
    by true e = grind (arith, nat_tests, e)
    by false e = omega arith

-- a thread's command
pub command_few : (limit thread : ℕ) (c : Command) (s : Store) → length (touched_after [] (run_on (asked limit thread c) s).touches) ≤ limit
command_few limit thread c s =
    let a = thread_few thread c (lesser limit MOST) (values s) [] (omega arith) in
    let b = lesser_least limit MOST in
    omega (arith, a, b)

-- its end touches one location
pub end_few : (s : Store) → length (touched_after [] (run_on (limited MOST (end_meaning 0)) s).touches) ≤ 1
unfolding loc_program
end_few s = omega arith
