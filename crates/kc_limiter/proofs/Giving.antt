-- What each act makes of counts and line: one permit more, counted in its window, or none.
use Rattle.std.proofs.Common.{◌≡◌, ◌≢◌, ◌⊎◌, ℕ, suc, ◌+◌, ◌<◌, ◌≤◌, Bool, true, false, cond, List, [], ◌∷◌, ◌++◌, inl, inr, refl, sym, ap, subst, ◌∙◌, arith}
use Rattle.std.specs.Prelude.{◌==◌}
use Rattle.std.proofs.lemmas.Bool.Decides.{nat_tests}
use borrow.Author.Tests.{eqb-false}
use Rattle.kc_compose.proofs.Leads.{leads_also, leads_more}
use Rattle.kc_compose.proofs.Stood.{OnlyWithin}
use Rattle.kc_limiter.proofs.Acts.{Any, Enters, IsGiven, Makes, OnQueue, Turns, asking_meaning, first, gives_permit, gives_waiting, lines, more, refused, turning, turns_by_one}
use Rattle.kc_limiter.specs.Asking.{client_of}
use Rattle.kc_limiter.specs.Limits.{GivesSo, CountsGo, HasCounts, IsLimiterLaid, LineGoes, comes, permits_cell, given_now, leaves, seen_cell, stays}
use Rattle.kc_limiter.specs.declared.limiter.Limiter.{Limiter}
use Rattle.kc_limiter.specs.declared.limiter.TheConstants.{CLIENTS, LAST_WINDOW, PERMITS}
use Rattle.kc_compose.specs.Meaning.{wait_meaning}
use Rattle.kc_compose.specs.declared.sort.Sort.TheVariants.{Refusal}
use Rattle.kc_loc.specs.Meaning.{loc_meaning}
use Rattle.kc_loc.specs.declared.operation.LocOp.TheVariants as loc
use Rattle.kc_model.specs.declared.reply.Reply.{Reply}
use Rattle.kc_queue.proofs.Standing.{queue_one, queue_own}
use Rattle.kc_queue.specs.Meaning.{QueueStandsFor, front_taken, queue_cells_end, queue_meaning}
use Rattle.kc_queue.specs.declared.operation.QueueAct.TheVariants as queue
use Rattle.kc_queue.specs.declared.operation.QueueOp.{QueueOp}
use Rattle.kc_xt.specs.Meaning.{Meaning, put, replied, retried}
use Rattle.kc_xt.specs.Program.{wrapped}
use Rattle.kc_xt.specs.Structure.{SameCells}

put_at : (m : ℕ → ℕ) (a v b : ℕ) → a ≡ b → put m a v b ≡ v
put_at m a v b same = let e : (a == b) ≡ true = grind (arith, nat_tests, same) in rw e refl

put_off : (m : ℕ → ℕ) (a v b : ℕ) → a ≢ b → put m a v b ≡ m b
put_off m a v b other = let e : (a == b) ≡ false = grind (arith, nat_tests, other) in rw e refl

abbrev given_of : ℕ → ℕ → ℕ → ℕ
given_of seen window count = cond (seen == window) count 0

given_there : (seen window count : ℕ) → seen ≡ window → given_of seen window count ≡ count
given_there seen window count same = let e : (seen == window) ≡ true = grind (arith, nat_tests, same) in rw e refl

given_none : (seen window count : ℕ) → seen ≢ window → given_of seen window count ≡ 0
given_none seen window count other = let e : (seen == window) ≡ false = grind (arith, nat_tests, other) in rw e refl

module _ (l : Limiter) where
  -- what leaves counts and line as they are, and the window as it is or the next one
  same_goes : (m w : ℕ → ℕ) → (w l.window.0 ≡ m l.window.0) ⊎ (w l.window.0 ≡ suc (m l.window.0)) → w l.window.0 ≤ LAST_WINDOW → ((d : ℕ) → d < CLIENTS → (w (seen_cell l d) ≡ m (seen_cell l d)) × (w (permits_cell l d) ≡ m (permits_cell l d))) → ((xs ys : List ℕ) → QueueStandsFor l.granted m xs → QueueStandsFor l.granted w ys → LineGoes l m w xs ys) → ((xs : List ℕ) → QueueStandsFor l.granted m xs → (ys : List ℕ) × QueueStandsFor l.granted w ys) → HasCounts l m → HasCounts l w × CountsGo l m w
  same_goes m w turned window cells moves lined has = (record { line = lined has.line.0 has.line.1; counts = λ d lt. let at = (cells d lt).1 in let top = has.counts d lt in omega (arith, at, top); window = window }, record { turned = turned; given = λ same d lt. let at = cells d lt in inl (rw (at.0, at.1, same) refl); line = moves })

  pub nothing_goes : (m : ℕ → ℕ) → HasCounts l m → HasCounts l m × CountsGo l m m
  nothing_goes m has = same_goes m m (inl refl) has.window (λ d lt. (refl, refl)) (λ xs ys before then. subst (LineGoes l m m xs) (queue_one l.granted m xs ys before then) (stays xs)) (λ xs stood. (xs, stood)) has

module _ (l : Limiter) (laid : IsLimiterLaid l) where
  abbrev now : ℕ
  now = l.window.0

  stays_before : (m w : ℕ → ℕ) → OnlyWithin l.granted.base.0 (queue_cells_end l.granted) m w → (a : ℕ) → a < l.granted.base.0 → w a ≡ m a
  stays_before m w out a lt = out a (λ c le under q. omega (arith, lt, le, q))

  -- what is put before the line leaves it
  line_stays : (m : ℕ → ℕ) (a v : ℕ) (xs : List ℕ) → a < l.granted.base.0 → QueueStandsFor l.granted m xs → QueueStandsFor l.granted (put m a v) xs
  line_stays m a v xs lt stood = queue_own l.granted m (put m a v) xs (λ c ge under. sym (put_off m a v c (λ q. omega (arith, lt, ge, q)))) stood

  -- the client is given one permit more, in this window, and comes into the line
  record GivesOne (client : ℕ) (m w : ℕ → ℕ) : Type 0 where
    window : w now ≡ m now
    seen : w (seen_cell l client) ≡ m now
    count : w (permits_cell l client) ≡ suc (given_now l m client)
    most : suc (given_now l m client) ≤ PERMITS
    others : (d : ℕ) → d < CLIENTS → d ≢ client → (w (seen_cell l d) ≡ m (seen_cell l d)) × (w (permits_cell l d) ≡ m (permits_cell l d))
    line : (xs : List ℕ) → QueueStandsFor l.granted m xs → QueueStandsFor l.granted w (xs ++ client ∷ [])

  one_goes : (client : ℕ) (m w : ℕ → ℕ) → client < CLIENTS → HasCounts l m → GivesOne client m w → HasCounts l w × CountsGo l m w
  one_goes client m w in_range has one = (record { line = lined has.line; counts = counted; window = let top = has.window in let same = one.window in omega (arith, top, same) }, record { turned = inl one.window; given = λ same d lt. each d lt (d == client) refl; line = moves })
    where
      lined : (xs : List ℕ) × QueueStandsFor l.granted m xs → (xs : List ℕ) × QueueStandsFor l.granted w xs
      lined (xs, stood) = (xs ++ client ∷ [], one.line xs stood)

      count_of : (d : ℕ) → d < CLIENTS → (t : Bool) → (d == client) ≡ t → w (permits_cell l d) ≤ PERMITS
      count_of d lt true e =
          let same : d ≡ client = grind (arith, nat_tests, e) in
          let at : w (permits_cell l d) ≡ suc (given_now l m client) = ap (λ x. w (permits_cell l x)) same ∙ one.count in
          let top = one.most in
          omega (arith, at, top)
      count_of d lt false e = let at = (one.others d lt (eqb-false _ _ e)).1 in let top = has.counts d lt in omega (arith, at, top)

      counted : (d : ℕ) → d < CLIENTS → w (permits_cell l d) ≤ PERMITS
      counted d lt = count_of d lt (d == client) refl

      this : given_now l w client ≡ suc (given_now l m client)
      this = given_there (w (seen_cell l client)) (w now) (w (permits_cell l client)) (one.seen ∙ sym one.window) ∙ one.count

      each : (d : ℕ) → d < CLIENTS → (t : Bool) → (d == client) ≡ t → (given_now l w d ≡ given_now l m d) ⊎ (given_now l w d ≡ suc (given_now l m d))
      each d lt true e = let same : d ≡ client = grind (arith, nat_tests, e) in inr (subst (λ x. given_now l w x ≡ suc (given_now l m x)) (sym same) this)
      each d lt false e = let at = one.others d lt (eqb-false _ _ e) in inl (rw (at.0, at.1, one.window) refl)

      moves : (xs ys : List ℕ) → QueueStandsFor l.granted m xs → QueueStandsFor l.granted w ys → LineGoes l m w xs ys
      moves xs ys before then = subst (LineGoes l m w xs) (queue_one l.granted w (xs ++ client ∷ []) ys (one.line xs before) then) (comes xs client in_range one.window this)

  -- ---- a permit

  module _ (client : ℕ) (in_range : client < CLIENTS) where
    gives_one : (m w : ℕ → ℕ) → HasCounts l m → IsGiven (client_of l client) (m now) m w → HasCounts l w × CountsGo l m w
    gives_one m w has (refused e) = subst (λ u. HasCounts l u × CountsGo l m u) (sym e) (nothing_goes l m has)
    gives_one m w has (more there fewer (out, lined)) = one_goes client m w in_range has (record {
      window = at now (omega (arith, laid.window, laid.seen, laid.counts)) ∙ put_off m cell v now (λ q. omega (arith, q, laid.window, laid.seen));
      seen = at (seen_cell l client) (omega (arith, laid.seen, laid.counts, in_range)) ∙ put_off m cell v (seen_cell l client) (λ q. omega (arith, q, laid.seen, in_range)) ∙ there;
      count = at cell inside ∙ put_at m cell v cell refl ∙ whole ∙ ap suc (sym was);
      most = let top = has.counts client in_range in omega (arith, top, fewer, was);
      others = λ d lt ne. (at (seen_cell l d) (omega (arith, laid.seen, laid.counts, lt)) ∙ put_off m cell v (seen_cell l d) (λ q. omega (arith, q, laid.seen, lt)), at (permits_cell l d) (omega (arith, laid.counts, lt)) ∙ put_off m cell v (permits_cell l d) (λ q. omega (arith, q, ne)));
      line = λ xs stood. lined xs (line_stays m cell v xs inside stood);
    })
      where
        cell : ℕ
        cell = permits_cell l client

        v : ℕ
        v = wrapped (m (permits_cell l client) + 1)

        inside : permits_cell l client < l.granted.base.0
        inside = omega (arith, laid.counts, in_range)

        at : (a : ℕ) → a < l.granted.base.0 → w a ≡ put m (permits_cell l client) (wrapped (m (permits_cell l client) + 1)) a
        at a lt = stays_before (put m (permits_cell l client) (wrapped (m (permits_cell l client) + 1))) w out a lt

        was : given_now l m client ≡ m (permits_cell l client)
        was = given_there (m (seen_cell l client)) (m now) (m (permits_cell l client)) there

        whole : wrapped (m (permits_cell l client) + 1) ≡ suc (m (permits_cell l client))
        whole = let top = has.counts client in_range in omega (arith, top)
    gives_one m w has (first other (out, lined)) = one_goes client m w in_range has (record {
      window = at now (omega (arith, laid.window, laid.seen, laid.counts)) ∙ off now (λ q. omega (arith, q, laid.window)) (λ q. omega (arith, q, laid.window, laid.seen));
      seen = at (seen_cell l client) (omega (arith, laid.seen, laid.counts, in_range)) ∙ put_off (put m (seen_cell l client) (m now)) (permits_cell l client) 1 (seen_cell l client) (λ q. omega (arith, q, laid.seen, in_range)) ∙ put_at m (seen_cell l client) (m now) (seen_cell l client) refl;
      count = at (permits_cell l client) inside ∙ put_at (put m (seen_cell l client) (m now)) (permits_cell l client) 1 (permits_cell l client) refl ∙ ap suc (sym none);
      most = omega (arith, none);
      others = λ d lt ne. (at (seen_cell l d) (omega (arith, laid.seen, laid.counts, lt)) ∙ off (seen_cell l d) (λ q. omega (arith, q, ne)) (λ q. omega (arith, q, laid.seen, lt)), at (permits_cell l d) (omega (arith, laid.counts, lt)) ∙ off (permits_cell l d) (λ q. omega (arith, q, laid.seen, in_range)) (λ q. omega (arith, q, ne)));
      line = λ xs stood. lined xs (line_stays (put m (seen_cell l client) (m now)) (permits_cell l client) 1 xs inside (line_stays m (seen_cell l client) (m now) xs (omega (arith, laid.seen, laid.counts, in_range)) stood));
    })
      where
        inside : permits_cell l client < l.granted.base.0
        inside = omega (arith, laid.counts, in_range)

        at : (a : ℕ) → a < l.granted.base.0 → w a ≡ put (put m (seen_cell l client) (m now)) (permits_cell l client) 1 a
        at a lt = stays_before (put (put m (seen_cell l client) (m now)) (permits_cell l client) 1) w out a lt

        off : (a : ℕ) → seen_cell l client ≢ a → permits_cell l client ≢ a → put (put m (seen_cell l client) (m now)) (permits_cell l client) 1 a ≡ m a
        off a this that = put_off (put m (seen_cell l client) (m now)) (permits_cell l client) 1 a that ∙ put_off m (seen_cell l client) (m now) a this

        none : given_now l m client ≡ 0
        none = given_none (m (seen_cell l client)) (m now) (m (permits_cell l client)) other

    so : (p : Meaning) → Makes (λ m a w. IsGiven (client_of l client) (m now) m w) p → GivesSo l p
    so p makes n m ks a has e = gives_one m _ has (makes n m ks a tt e).1

    pub permits : GivesSo l (asking_meaning (client_of l client) l.window)
    permits = so (asking_meaning (client_of l client) l.window) (gives_permit (client_of l client) l.window)

    pub permits_waiting : GivesSo l (wait_meaning Refusal (asking_meaning (client_of l client) l.window))
    permits_waiting = so (wait_meaning Refusal (asking_meaning (client_of l client) l.window)) (gives_waiting (client_of l client) l.window)

  -- ---- the next out of the line

  taken_goes : (m w : ℕ → ℕ) (a : Reply) → HasCounts l m → OnQueue l.granted queue.DeqWait m a w → HasCounts l w × CountsGo l m w
  taken_goes m w a has (out, then) = same_goes l m w (inl stayed) (let top = has.window in omega (arith, top, stayed))
      (λ d lt. (stays_before m w out (seen_cell l d) (omega (arith, laid.seen, laid.counts, lt)), stays_before m w out (permits_cell l d) (omega (arith, laid.counts, lt))))
      (λ xs ys before behind. let v = then xs before in moved xs ys v.0 (queue_one l.granted w _ ys v.1 behind))
      (λ xs stood. (_, (then xs stood).1)) has
    where
      stayed : w now ≡ m now
      stayed = stays_before m w out now (omega (arith, laid.window, laid.seen, laid.counts))

      moved : (xs ys : List ℕ) → (front_taken retried xs).outcome ≡ replied a → (front_taken retried xs).content ≡ ys → LineGoes l m w xs ys
      moved [] ys e same = absurd (cc)
      moved (x ∷ xs) ys e same = subst (LineGoes l m w (x ∷ xs)) same (leaves x xs)

  pub takes : (let o : QueueOp = record { queue = l.granted; act = queue.DeqWait } in GivesSo l (queue_meaning o))
  takes n m ks a has e = taken_goes m _ a has (lines l.granted queue.DeqWait n m ks a tt e).1

  -- ---- the next window

  turned_goes : (m w : ℕ → ℕ) → HasCounts l m → Turns l.window m w → HasCounts l w × CountsGo l m w
  turned_goes m w has (inl e) = subst (λ u. HasCounts l u × CountsGo l m u) (sym e) (nothing_goes l m has)
  turned_goes m w has (inr (other, e)) = subst (λ u. HasCounts l u × CountsGo l m u) (sym e) (same_goes l m (put m now v) (inr there) (let top = has.window in omega (arith, there, top, other))
      (λ d lt. (put_off m now v (seen_cell l d) (λ q. omega (arith, q, laid.window)), put_off m now v (permits_cell l d) (λ q. omega (arith, q, laid.window, laid.seen))))
      (λ xs ys before then. subst (LineGoes l m (put m now v) xs) (queue_one l.granted (put m now v) xs ys (stay xs before) then) (stays xs))
      (λ xs stood. (xs, stay xs stood)) has)
    where
      v : ℕ
      v = wrapped (m now + 1)

      there : put m now (wrapped (m now + 1)) now ≡ suc (m now)
      there = put_at m now (wrapped (m now + 1)) now refl ∙ (let top = has.window in omega (arith, top, other))

      stay : (xs : List ℕ) → QueueStandsFor l.granted m xs → QueueStandsFor l.granted (put m now (wrapped (m now + 1))) xs
      stay xs stood = line_stays m now (wrapped (m now + 1)) xs (omega (arith, laid.window, laid.seen, laid.counts)) stood

  pub turns : GivesSo l (turning l.window)
  turns n m ks a has e = turned_goes m _ has (turns_by_one l.window n m ks a tt e).1

-- ---- the opening

pub opens : (l : Limiter) (m : ℕ → ℕ) → QueueStandsFor l.granted m [] → ((i : ℕ) → i < CLIENTS → m (l.counts.base.0 + i) ≡ 0) → m l.window.0 ≡ 0 → HasCounts l m
opens l m line counts window = record { line = ([], line); counts = λ d lt. let none = counts d lt in omega (arith, none); window = omega (arith, window) }
