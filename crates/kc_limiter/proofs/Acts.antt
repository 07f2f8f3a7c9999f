-- What each act on a limiter makes of its values.
use Rattle.std.proofs.Common.{◌≡◌, ◌≢◌, ◌⊎◌, ℕ, ◌+◌, ◌<◌, ◌≤◌, Bool, true, false, cond, List, [], ◌∷◌, ◌++◌, length, None, Some, inl, inr, refl, sym, ap, subst, ◌∙◌, arith}
use Rattle.std.specs.Prelude.{◌==◌, ⊤}
use Rattle.std.proofs.lemmas.Bool.Decides.{nat_tests}
use borrow.Author.Tests.{eqb-false}
use Rattle.kc_compose.proofs.Leads.{leads_fed, leads_more, leads_say, leads_then, leads_wait, leads_when}
use Rattle.kc_compose.proofs.Stood.{OnlyWithin}
use Rattle.kc_compose.specs.Leads.{LeadsTo}
use Rattle.kc_compose.specs.Meaning.{both_meaning, fed_meaning, number_said, say_meaning, wait_meaning, when_meaning}
use Rattle.kc_compose.specs.Sort.{is_of}
use Rattle.kc_compose.specs.declared.sort.Sort.TheVariants.{Full, Is, Refusal}
use Rattle.kc_limiter.specs.declared.asking.InWindow.{InWindow}
use Rattle.kc_limiter.specs.declared.limiter.TheConstants.{LAST_WINDOW, PERMITS}
use Rattle.kc_loc.proofs.Values.{loc_has_value}
use Rattle.kc_loc.specs.Meaning.{loc_meaning, loc_value}
use Rattle.kc_loc.specs.declared.operation.LocOp.{LocOp}
use Rattle.kc_loc.specs.declared.operation.LocOp.TheVariants as loc
use Rattle.kc_model.specs.declared.footprint.Loc.{Loc}
use Rattle.kc_model.specs.declared.reply.Reply.{Reply}
use Rattle.kc_model.specs.declared.reply.Reply.TheVariants as reply
use Rattle.kc_queue.proofs.QueueLaw.{queue_stays}
use Rattle.kc_queue.proofs.Values.{queue_means}
use Rattle.kc_queue.specs.Meaning.{QueueStandsFor, queue_cells_end, queue_meaning, queue_program, queue_value}
use Rattle.kc_queue.specs.declared.operation.QueueAct.{QueueAct}
use Rattle.kc_queue.specs.declared.operation.QueueAct.TheVariants as queue
use Rattle.kc_queue.specs.declared.operation.QueueOp.{QueueOp}
use Rattle.kc_queue.specs.declared.queue.Queue.{Queue}
use Rattle.kc_xt.proofs.Stay.{stays_outside}
use Rattle.kc_xt.specs.Meaning.{Meaning, Outcome, put, replied, too_large}
use Rattle.kc_xt.specs.Program.{Plain, replies, wrapped}
use Rattle.kc_xt.specs.Structure.{Value}

abbrev pub Any : (ℕ → ℕ) → Type 0
Any m = ⊤

-- what a transaction makes of all values, whatever they are
abbrev pub Makes : ((ℕ → ℕ) → Reply → (ℕ → ℕ) → Type 0) → Meaning → Type 0
Makes R p = LeadsTo Any R p

-- ---- operations

fits : (o : Outcome) (a : Reply) → o ≡ replied a → o ≢ too_large
fits o a e = λ q. cc

said_number : (n : ℕ) (a : Reply) → replied (reply.Value n) ≡ replied a → a ≡ reply.Value n
said_number n a e = cc

pub gets : (l : Loc) → Makes (λ m a w. (a ≡ reply.Value (m l.0)) × (w ≡ m)) (loc_meaning (loc.Get l))
gets l n m ks a h e =
    let v = loc_has_value (loc.Get l) n m ks (fits _ a e) in
    (tt, (said_number (m l.0) a (sym v.0 ∙ e), v.1))

pub sets : (l : Loc) (k : ℕ) → Makes (λ m a w. w ≡ put m l.0 k) (loc_meaning (loc.Set l k))
sets l k n m ks a h e = (tt, (loc_has_value (loc.Set l k) n m ks (fits _ a e)).1)

pub raises : (l : Loc) → Makes (λ m a w. w ≡ put m l.0 (wrapped (m l.0 + 1))) (loc_meaning (loc.Incr l))
raises l n m ks a h e = (tt, (loc_has_value (loc.Incr l) n m ks (fits _ a e)).1)

asked : (n v : ℕ) (b : Reply) (t : Bool) → b ≡ reply.Value v → is_of (Is n) b ≡ t → (v == n) ≡ t
asked n v b t e is = ap (is_of (Is n)) (sym e) ∙ is

-- one more, or none at the last number
abbrev pub Turns : Loc → (ℕ → ℕ) → (ℕ → ℕ) → Type 0
Turns l m w = (w ≡ m) ⊎ ((m l.0 ≢ LAST_WINDOW) × (w ≡ put m l.0 (wrapped (m l.0 + 1))))

abbrev pub turning : Loc → Meaning
turning l = when_meaning (Is LAST_WINDOW) (loc_meaning (loc.Get l)) (say_meaning (reply.Bool false)) (loc_meaning (loc.Incr l))

pub turns_by_one : (l : Loc) → Makes (λ m a w. Turns l m w) (turning l)
turns_by_one l = leads_when Any (Is LAST_WINDOW) (λ m a w. (a ≡ reply.Value (m l.0)) × (w ≡ m)) (λ m a w. (a ≡ reply.Bool false) × (w ≡ m)) (λ m a w. w ≡ put m l.0 (wrapped (m l.0 + 1))) (λ m a w. Turns l m w) (loc_meaning (loc.Get l)) (say_meaning (reply.Bool false)) (loc_meaning (loc.Incr l))
    (gets l) (leads_say Any (reply.Bool false)) (raises l)
    (λ m w x b a one e two. inl (two.1 ∙ one.1))
    (λ m w x b a one e two. inr (eqb-false _ _ (asked LAST_WINDOW (m l.0) b false one.0 e), subst (λ u. x ≡ put u l.0 (wrapped (u l.0 + 1))) one.1 two))

-- an operation on a queue leaves all else, and of what its items were makes what it says
abbrev pub OnQueue : Queue → QueueAct → (ℕ → ℕ) → Reply → (ℕ → ℕ) → Type 0
OnQueue q act m a w = OnlyWithin q.base.0 (queue_cells_end q) m w × ((xs : List ℕ) → QueueStandsFor q m xs → ((queue_value q act xs).outcome ≡ replied a) × QueueStandsFor q w (queue_value q act xs).content)

pub lines : (q : Queue) (act : QueueAct) → (let o : QueueOp = record { queue = q; act = act } in Makes (OnQueue q act) (queue_meaning o))
lines q act n m ks a h e =
    let o : QueueOp = record { queue = q; act = act } in
    (tt, (λ l out. stays_outside q.base.0 (queue_cells_end q) (queue_program q act replies) (queue_stays o) n m ks l out, λ xs stood. let v = queue_means o xs n m ks stood (fits _ a e) in (sym v.0 ∙ e, v.1)))

-- ---- a client comes into the line

abbrev pub Enters : Queue → ℕ → (ℕ → ℕ) → (ℕ → ℕ) → Type 0
Enters q client m w = OnlyWithin q.base.0 (queue_cells_end q) m w × ((xs : List ℕ) → QueueStandsFor q m xs → QueueStandsFor q w (xs ++ client ∷ []))

entered : (q : Queue) (client : ℕ) (m w : ℕ → ℕ) (a : Reply) → is_of Full a ≡ false → OnQueue q (queue.Enq client) m a w → Enters q client m w
entered q client m w a fine (out, then) = (out, λ xs stood. let v = then xs stood in by_test xs (length xs == q.cap) v.0 v.1)
  where
    by_test : (xs : List ℕ) (t : Bool) → (let v : Value (List ℕ) = cond t (record { outcome = replied reply.Full; content = xs }) (record { outcome = replied reply.Unit; content = xs ++ client ∷ [] }) in v.outcome ≡ replied a → QueueStandsFor q w v.content → QueueStandsFor q w (xs ++ client ∷ []))
    by_test xs true e stood = absurd (cc)
    by_test xs false e stood = stood

abbrev entering : Queue → ℕ → Meaning
entering q client = let o : QueueOp = record { queue = q; act = queue.Enq client } in wait_meaning Full (queue_meaning o)

enters : (q : Queue) (client : ℕ) → Makes (λ m a w. Enters q client m w) (entering q client)
enters q client = let o : QueueOp = record { queue = q; act = queue.Enq client } in leads_more Any (λ m a w. (is_of Full a ≡ false) × OnQueue q (queue.Enq client) m a w) (λ m a w. Enters q client m w) (entering q client) (leads_wait Any Full (OnQueue q (queue.Enq client)) (queue_meaning o) (lines q (queue.Enq client))) (λ m w a any r. entered q client m w a r.0 r.1)

-- ---- a permit

module _ (i : InWindow) where
  abbrev seen : ℕ
  seen = i.seen.0

  abbrev count : ℕ
  count = i.count.0

  -- in the window whose number is given: nothing is done; or one permit more is given; or the first
  pub data IsGiven (window : ℕ) (m w : ℕ → ℕ) : Type 0 where
    refused : w ≡ m → IsGiven window m w
    more : m seen ≡ window → m count ≢ PERMITS → Enters i.granted i.client (put m count (wrapped (m count + 1))) w → IsGiven window m w
    first : m seen ≢ window → Enters i.granted i.client (put (put m seen window) count 1) w → IsGiven window m w

  -- whatever was counted, the client comes into the line
  enters_then : (o : LocOp) (f : (ℕ → ℕ) → ℕ → ℕ) → Makes (λ m a w. w ≡ f m) (loc_meaning o) → Makes (λ m a w. Enters i.granted i.client (f m) w) (both_meaning (loc_meaning o) (entering i.granted i.client))
  enters_then o f counts = leads_then Any (λ m a w. w ≡ f m) (λ m a w. Enters i.granted i.client (f m) w) (λ b m a w. Enters i.granted i.client m w) (loc_meaning o) (λ b. entering i.granted i.client) counts (λ b. enters i.granted i.client) (λ m w x b a one two. subst (λ u. Enters i.granted i.client u x) one two)

  abbrev counting : ℕ → ℕ
  counting v = wrapped (v + 1)

  -- one permit more, or none
  abbrev OneMore : (ℕ → ℕ) → Reply → (ℕ → ℕ) → Type 0
  OneMore m a w = (w ≡ m) ⊎ ((m count ≢ PERMITS) × Enters i.granted i.client (put m count (counting (m count))) w)

  abbrev more_meaning : Meaning
  more_meaning = when_meaning (Is PERMITS) (loc_meaning (loc.Get i.count)) (say_meaning (reply.Bool false)) (both_meaning (loc_meaning (loc.Incr i.count)) (entering i.granted i.client))

  gives_more : Makes OneMore more_meaning
  gives_more = leads_when Any (Is PERMITS) (λ m a w. (a ≡ reply.Value (m count)) × (w ≡ m)) (λ m a w. (a ≡ reply.Bool false) × (w ≡ m)) (λ m a w. Enters i.granted i.client (put m count (counting (m count))) w) OneMore (loc_meaning (loc.Get i.count)) (say_meaning (reply.Bool false)) (both_meaning (loc_meaning (loc.Incr i.count)) (entering i.granted i.client))
      (gets i.count) (leads_say Any (reply.Bool false)) (enters_then (loc.Incr i.count) (λ m. put m count (counting (m count))) (raises i.count))
      (λ m w x b a one e two. inl (two.1 ∙ one.1))
      (λ m w x b a one e two. let other = eqb-false _ _ (asked PERMITS (m count) b false one.0 e) in inr (other, subst (λ u. Enters i.granted i.client (put u count (counting (u count))) x) one.1 two))

  abbrev first_meaning : ℕ → Meaning
  first_meaning window = both_meaning (loc_meaning (loc.Set i.seen window)) (both_meaning (loc_meaning (loc.Set i.count 1)) (entering i.granted i.client))

  gives_first : (window : ℕ) → Makes (λ m a w. Enters i.granted i.client (put (put m seen window) count 1) w) (first_meaning window)
  gives_first window = leads_then Any (λ m a w. w ≡ put m seen window) (λ m a w. Enters i.granted i.client (put (put m seen window) count 1) w) (λ b m a w. Enters i.granted i.client (put m count 1) w) (loc_meaning (loc.Set i.seen window)) (λ b. both_meaning (loc_meaning (loc.Set i.count 1)) (entering i.granted i.client)) (sets i.seen window) (λ b. enters_then (loc.Set i.count 1) (λ m. put m count 1) (sets i.count 1)) (λ m w x b a one two. subst (λ u. Enters i.granted i.client (put u count 1) x) one two)

  abbrev pub given_meaning : ℕ → Meaning
  given_meaning window = when_meaning (Is window) (loc_meaning (loc.Get i.seen)) more_meaning (first_meaning window)

  gives : (window : ℕ) → Makes (λ m a w. IsGiven window m w) (given_meaning window)
  gives window = leads_when Any (Is window) (λ m a w. (a ≡ reply.Value (m seen)) × (w ≡ m)) OneMore (λ m a w. Enters i.granted i.client (put (put m seen window) count 1) w) (λ m a w. IsGiven window m w) (loc_meaning (loc.Get i.seen)) more_meaning (first_meaning window) (gets i.seen) gives_more (gives_first window)
      (λ m w x b a one e two. let same = asked window (m seen) b true one.0 e in of_more m x (grind (arith, nat_tests, same)) (subst (λ u. OneMore u a x) one.1 two))
      (λ m w x b a one e two. first (eqb-false _ _ (asked window (m seen) b false one.0 e)) (subst (λ u. Enters i.granted i.client (put (put u seen window) count 1) x) one.1 two))
    where
      of_more : (m w : ℕ → ℕ) → m seen ≡ window → (w ≡ m) ⊎ ((m count ≢ PERMITS) × Enters i.granted i.client (put m count (counting (m count))) w) → IsGiven window m w
      of_more m w same (inl e) = refused e
      of_more m w same (inr r) = more same r.0 r.1

  -- in the window that is
  abbrev pub asking_meaning : Loc → Meaning
  asking_meaning window = fed_meaning (loc_meaning (loc.Get window)) given_meaning

  pub gives_permit : (window : Loc) → Makes (λ m a w. IsGiven (m window.0) m w) (asking_meaning window)
  gives_permit window = leads_fed Any (λ m a w. (a ≡ reply.Value (m window.0)) × (w ≡ m)) (λ m a w. IsGiven (m window.0) m w) (λ k m a w. IsGiven k m w) (loc_meaning (loc.Get window)) given_meaning (gets window) gives
      (λ m w x b a k one e two. subst (λ u. IsGiven (m window.0) u x) one.1 (subst (λ j. IsGiven j w x) (fed (m window.0) k b one.0 e) two))
      (λ m w b one e. refused one.1)
    where
      fed : (v k : ℕ) (b : Reply) → b ≡ reply.Value v → number_said b ≡ Some k → k ≡ v
      fed v k b e said = cc

  pub gives_waiting : (window : Loc) → Makes (λ m a w. IsGiven (m window.0) m w) (wait_meaning Refusal (asking_meaning window))
  gives_waiting window = leads_more Any (λ m a w. (is_of Refusal a ≡ false) × IsGiven (m window.0) m w) (λ m a w. IsGiven (m window.0) m w) (wait_meaning Refusal (asking_meaning window)) (leads_wait Any Refusal (λ m a w. IsGiven (m window.0) m w) (asking_meaning window) (gives_permit window)) (λ m w a any r. r.1)
