-- What each operation makes of lives and names.
use Rattle.std.proofs.Common.{◌≡◌, ◌≢◌, ℕ, ◌+◌, ◌-◌, ◌⊎◌, Bool, true, false, cond, refl, sym, ap, ◌∙◌, subst, arith, inl, inr}
use Rattle.std.specs.Prelude.{◌==◌, nat_lt, Option, Some, None}
use Rattle.std.proofs.lemmas.Bool.Decides.{nat_tests}
use Rattle.std.proofs.lemmas.Nat.{div-add-mod', div-mul-add, mod-mul-add}
use borrow.Author.Tests.{eqb-false}
use Rattle.kc_model.specs.declared.reply.Reply.{Reply}
use Rattle.kc_model.specs.declared.reply.Reply.TheVariants as reply
use Rattle.kc_shelf.proofs.ShelfLaw.{slot_in, slot_some}
use Rattle.kc_shelf.specs.Meaning.{IsFitShelfAct, IsSlot, IsTicket, count_at, first_free, head_at, last_life, life_at, life_of, next_at, shelf_program, slot_of, ticket_of}
use Rattle.kc_shelf.specs.declared.operation.ShelfAct.{ShelfAct}
use Rattle.kc_shelf.specs.declared.operation.ShelfAct.TheVariants as act
use Rattle.kc_shelf.specs.declared.shelf.TheConstants.{MOST_NAMES}
use Rattle.kc_shelf.specs.declared.shelf.Shelf.{Shelf}
use Rattle.kc_shelf_laws.specs.Lives.{ActTurns, IsOver, IsToCome, SlotsTurn, Turns, life_begun, name_had, name_lost, ticket_names, one_of}
use Rattle.kc_xt.specs.Meaning.{put, replied}
use Rattle.kc_xt.specs.Program.{Plain, Program, plain, replies}

-- a property of the plain run through a test
run_if : (P : Plain → Type 0) (m : ℕ → ℕ) (b : Bool) (p q : Program) → (b ≡ true → P (plain p m)) → (b ≡ false → P (plain q m)) → P (plain (cond b p q) m)
run_if P m true p q h g = h refl
run_if P m false p q h g = g refl

away : (m : ℕ → ℕ) (l v k : ℕ) → l ≢ k → put m l v k ≡ m k
away m l v k ne = grind (arith, nat_tests, ne)

there : (m : ℕ → ℕ) (l v : ℕ) → put m l v l ≡ v
there m l v = grind (arith, nat_tests)

is_same : (j k : ℕ) → (j == k) ≡ true → j ≡ k
is_same j k e = grind (arith, nat_tests, e)

isnt_same : (j k : ℕ) → j ≢ k → (j == k) ≡ false
isnt_same j k e = grind (arith, nat_tests, e)

module _ (t : Shelf) where
  -- ---- tickets

  pub one_ticket : (v w : ℕ) → slot_of t v ≡ slot_of t w → life_of t v ≡ life_of t w → v ≡ w
  one_ticket v w s l =
      let a = div-add-mod' v (t.slots + 1) in
      let b = div-add-mod' w (t.slots + 1) in
      sym a ∙ rw (s, l) b

  pub slot_named : (n l : ℕ) → IsSlot t n → slot_of t (ticket_of t n l) ≡ n
  slot_named n l h = mod-mul-add l (t.slots + 1) n (omega (arith, h))

  pub life_named : (n l : ℕ) → IsSlot t n → life_of t (ticket_of t n l) ≡ l
  life_named n l h = div-mul-add l (t.slots + 1) n (omega (arith, h))

  -- ---- one slot changes

  -- all slots but this one stay
  record Spares (n : ℕ) (m w : ℕ → ℕ) : Type 0 where
    life : (k : ℕ) → IsSlot t k → k ≢ n → w (life_at t k) ≡ m (life_at t k)
    count : (k : ℕ) → IsSlot t k → k ≢ n → w (count_at t k) ≡ m (count_at t k)

  spared_names : (n : ℕ) (m w : ℕ → ℕ) → Spares n m w → (v : ℕ) → IsTicket t v → slot_of t v ≢ n → ticket_names t w v ≡ ticket_names t m v
  spared_names n m w spares v ticket ne = rw (spares.life (slot_of t v) ticket ne, spares.count (slot_of t v) ticket ne) refl

  turns_by : (n : ℕ) (m w : ℕ → ℕ) → Spares n m w → (IsSlot t n → Turns (m (life_at t n)) (m (count_at t n)) (w (life_at t n)) (w (count_at t n))) → SlotsTurn t m w
  turns_by n m w spares here k slot = by_test (k == n) refl
    where
      by_test : (b : Bool) → (k == n) ≡ b → Turns (m (life_at t k)) (m (count_at t k)) (w (life_at t k)) (w (count_at t k))
      by_test true e = let q : k ≡ n = is_same k n e in subst (λ i. IsSlot t i → Turns (m (life_at t i)) (m (count_at t i)) (w (life_at t i)) (w (count_at t i))) (sym q) here slot
      by_test false e = let ne : k ≢ n = eqb-false k n e in inl (spares.life k slot ne, λ z. spares.count k slot ne ∙ z)

  -- no life and no count changes
  record Agrees (m w : ℕ → ℕ) : Type 0 where
    life : (k : ℕ) → IsSlot t k → w (life_at t k) ≡ m (life_at t k)
    count : (k : ℕ) → IsSlot t k → w (count_at t k) ≡ m (count_at t k)

  agrees_turns : (m w : ℕ → ℕ) → Agrees m w → SlotsTurn t m w
  agrees_turns m w a k slot = inl (a.life k slot, λ z. a.count k slot ∙ z)

  agrees_names : (m w : ℕ → ℕ) → Agrees m w → (v : ℕ) → IsTicket t v → ticket_names t w v ≡ ticket_names t m v
  agrees_names m w a v ticket = rw (a.life (slot_of t v) ticket, a.count (slot_of t v) ticket) refl

  agrees_still : (m : ℕ → ℕ) → Agrees m m
  agrees_still m = record { life = λ k h. refl; count = λ k h. refl }

  -- ---- the names of the ticket of a slot in its life

  pub named_here : (m : ℕ → ℕ) (v : ℕ) → m (life_at t (slot_of t v)) ≡ life_of t v → ticket_names t m v ≡ m (count_at t (slot_of t v))
  named_here m v is = let e : (m (life_at t (slot_of t v)) == life_of t v) ≡ true = grind (arith, nat_tests, is) in rw e refl

  named_not : (m : ℕ → ℕ) (v : ℕ) → m (life_at t (slot_of t v)) ≢ life_of t v → ticket_names t m v ≡ 0
  named_not m v ne = let e : (m (life_at t (slot_of t v)) == life_of t v) ≡ false = isnt_same _ _ ne in rw e refl

  -- the count of a ticket's slot changes, in its life
  record Recounts (u : ℕ) (m w : ℕ → ℕ) : Type 0 where
    spares : Spares (slot_of t u) m w
    in_life : m (life_at t (slot_of t u)) ≡ life_of t u
    life : w (life_at t (slot_of t u)) ≡ m (life_at t (slot_of t u))

  recounted : (u : ℕ) (m w : ℕ → ℕ) → Recounts u m w → (v : ℕ) → IsTicket t v → ((u ≡ v) × (ticket_names t m v ≡ m (count_at t (slot_of t u))) × (ticket_names t w v ≡ w (count_at t (slot_of t u)))) ⊎ ((u ≢ v) × (ticket_names t w v ≡ ticket_names t m v))
  recounted u m w r v ticket = by_slot (slot_of t v == slot_of t u) refl
    where
      by_life : (b : Bool) → (life_of t v == life_of t u) ≡ b → slot_of t v ≡ slot_of t u → ((u ≡ v) × (ticket_names t m v ≡ m (count_at t (slot_of t u))) × (ticket_names t w v ≡ w (count_at t (slot_of t u)))) ⊎ ((u ≢ v) × (ticket_names t w v ≡ ticket_names t m v))
      by_life true e q =
          let l : life_of t v ≡ life_of t u = is_same _ _ e in
          let same : v ≡ u = one_ticket v u q l in
          let lm : m (life_at t (slot_of t v)) ≡ life_of t v = rw (q, l) r.in_life in
          let lw : w (life_at t (slot_of t v)) ≡ life_of t v = rw (q, l) (r.life ∙ r.in_life) in
          inl (sym same, named_here m v lm ∙ ap (λ i. m (count_at t i)) q, named_here w v lw ∙ ap (λ i. w (count_at t i)) q)
      by_life false e q =
          let ne : life_of t v ≢ life_of t u = eqb-false _ _ e in
          let lm : m (life_at t (slot_of t v)) ≢ life_of t v = λ h. ne (sym h ∙ ap (λ i. m (life_at t i)) q ∙ r.in_life) in
          let lw : w (life_at t (slot_of t v)) ≢ life_of t v = λ h. ne (sym h ∙ ap (λ i. w (life_at t i)) q ∙ r.life ∙ r.in_life) in
          inr ((λ h. ne (ap (life_of t) (sym h))), named_not w v lw ∙ sym (named_not m v lm))

      by_slot : (b : Bool) → (slot_of t v == slot_of t u) ≡ b → ((u ≡ v) × (ticket_names t m v ≡ m (count_at t (slot_of t u))) × (ticket_names t w v ≡ w (count_at t (slot_of t u)))) ⊎ ((u ≢ v) × (ticket_names t w v ≡ ticket_names t m v))
      by_slot true e = by_life (life_of t v == life_of t u) refl (is_same _ _ e)
      by_slot false e =
          let ne : slot_of t v ≢ slot_of t u = eqb-false _ _ e in
          inr ((λ h. ne (ap (slot_of t) (sym h))), spared_names (slot_of t u) m w r.spares v ticket ne)

  -- a count that is put
  recounts : (m : ℕ → ℕ) (u c : ℕ) → IsTicket t u → m (life_at t (slot_of t u)) ≡ life_of t u → Recounts u m (put m (count_at t (slot_of t u)) c)
  recounts m u c ticket is = record {
    spares = record {
      life = λ k h ne. away m (count_at t (slot_of t u)) c (life_at t k) (omega (arith, h, ticket));
      count = λ k h ne. away m (count_at t (slot_of t u)) c (count_at t k) (omega (arith, h, ticket, ne));
    };
    in_life = is;
    life = away m (count_at t (slot_of t u)) c (life_at t (slot_of t u)) (omega (arith, ticket));
  }

  one_more : (u v x y c : ℕ) → ((u ≡ v) × (x ≡ c) × (y ≡ c + 1)) ⊎ ((u ≢ v) × (y ≡ x)) → y + 0 ≡ x + one_of (Some u) v
  one_more u v x y c (inl (q, a, b)) = let e : (u == v) ≡ true = grind (arith, nat_tests, q) in rw e (omega (arith, a, b))
  one_more u v x y c (inr (ne, a)) = let e : (u == v) ≡ false = isnt_same u v ne in rw e (omega (arith, a))

  one_less : (u v x y c : ℕ) → c ≢ 0 → ((u ≡ v) × (x ≡ c) × (y ≡ c - 1)) ⊎ ((u ≢ v) × (y ≡ x)) → y + one_of (Some u) v ≡ x + 0
  one_less u v x y c some (inl (q, a, b)) = let e : (u == v) ≡ true = grind (arith, nat_tests, q) in rw e (omega (arith, a, b, some))
  one_less u v x y c some (inr (ne, a)) = let e : (u == v) ≡ false = isnt_same u v ne in rw e (omega (arith, a))

  -- ---- a life begins

  -- the next life of slot n, which had no name, begins with one
  record BeginsLife (n : ℕ) (m w : ℕ → ℕ) : Type 0 where
    slot : IsSlot t n
    spares : Spares n m w
    life : w (life_at t n) ≡ m (life_at t n) + 1
    none : m (count_at t n) ≡ 0
    one : w (count_at t n) ≡ 1

  begins_names : (n u : ℕ) (m w : ℕ → ℕ) → BeginsLife n m w → u ≡ ticket_of t n (m (life_at t n) + 1) → (v : ℕ) → IsTicket t v → ticket_names t w v + 0 ≡ ticket_names t m v + one_of (Some u) v
  begins_names n u m w b is v ticket = by_slot (slot_of t v == n) refl
    where
      su : slot_of t u ≡ n
      su = ap (slot_of t) is ∙ slot_named n (m (life_at t n) + 1) b.slot

      lu : life_of t u ≡ m (life_at t n) + 1
      lu = ap (life_of t) is ∙ life_named n (m (life_at t n) + 1) b.slot

      none_before : slot_of t v ≡ n → ticket_names t m v ≡ 0
      none_before q = by_life (m (life_at t (slot_of t v)) == life_of t v)
        where
          zero_there : m (count_at t (slot_of t v)) ≡ 0
          zero_there = rw q b.none

          by_life : (c : Bool) → cond c (m (count_at t (slot_of t v))) 0 ≡ 0
          by_life true = zero_there
          by_life false = refl

      by_ticket : (c : Bool) → (u == v) ≡ c → slot_of t v ≡ n → ticket_names t w v + 0 ≡ ticket_names t m v + cond c 1 0
      by_ticket true e q =
          let same : u ≡ v = is_same u v e in
          let l : w (life_at t (slot_of t v)) ≡ life_of t v = ap (λ i. w (life_at t i)) q ∙ b.life ∙ sym lu ∙ ap (life_of t) same in
          let y : ticket_names t w v ≡ 1 = named_here w v l ∙ ap (λ i. w (count_at t i)) q ∙ b.one in
          let x = none_before q in
          omega (arith, x, y)
      by_ticket false e q =
          let ne : u ≢ v = eqb-false u v e in
          let l : w (life_at t (slot_of t v)) ≢ life_of t v = λ h. ne (one_ticket u v (su ∙ sym q) (lu ∙ sym b.life ∙ ap (λ i. w (life_at t i)) (sym q) ∙ h)) in
          let y = named_not w v l in
          let x = none_before q in
          omega (arith, x, y)

      by_slot : (c : Bool) → (slot_of t v == n) ≡ c → ticket_names t w v + 0 ≡ ticket_names t m v + one_of (Some u) v
      by_slot true e = by_ticket (u == v) refl (is_same _ _ e)
      by_slot false e =
          let ne : slot_of t v ≢ n = eqb-false _ _ e in
          let other : (u == v) ≡ false = isnt_same u v (λ h. ne (sym (ap (slot_of t) h) ∙ su)) in
          let x = spared_names n m w b.spares v ticket ne in
          rw other (omega (arith, x))

  begins_so : (n u : ℕ) (m w : ℕ → ℕ) → BeginsLife n m w → u ≡ ticket_of t n (m (life_at t n) + 1) → (v : ℕ) → Some u ≡ Some v → IsToCome t m v
  begins_so n u m w b is v e =
      let same : u ≡ v = cc in
      let su : slot_of t v ≡ n = ap (slot_of t) (sym same ∙ is) ∙ slot_named n (m (life_at t n) + 1) b.slot in
      let lu : life_of t v ≡ m (life_at t n) + 1 = ap (life_of t) (sym same ∙ is) ∙ life_named n (m (life_at t n) + 1) b.slot in
      rw (su, lu) (omega arith)

  begun_so : (n u : ℕ) (m w : ℕ → ℕ) → BeginsLife n m w → u ≡ ticket_of t n (m (life_at t n) + 1) → (v : ℕ) → Some u ≡ Some v → w (life_at t (slot_of t v)) ≡ life_of t v
  begun_so n u m w b is v e =
      let same : u ≡ v = cc in
      let su : slot_of t v ≡ n = ap (slot_of t) (sym same ∙ is) ∙ slot_named n (m (life_at t n) + 1) b.slot in
      let lu : life_of t v ≡ m (life_at t n) + 1 = ap (life_of t) (sym same ∙ is) ∙ life_named n (m (life_at t n) + 1) b.slot in
      ap (λ i. w (life_at t i)) su ∙ b.life ∙ sym lu

  begins_turns : (n : ℕ) (m w : ℕ → ℕ) → BeginsLife n m w → SlotsTurn t m w
  begins_turns n m w b = turns_by n m w b.spares (λ slot. inr (let l = b.life in omega (arith, l), b.none))

  -- ---- by operation

  -- how an operation ends, and what it makes
  pub record Leads (a : ShelfAct) (m : ℕ → ℕ) (w : Plain) : Type 0 where
    pub replies_so : Reply
    pub is : w.outcome ≡ replied replies_so
    pub turns : ActTurns t a replies_so m w.map

  nothing_of : (o : Option ℕ) → o ≡ None → (v : ℕ) → one_of o v ≡ 0
  nothing_of None e v = refl
  nothing_of (Some x) e v = absurd (cc)

  nothing : (a : ShelfAct) (r : Reply) (m w : ℕ → ℕ) → Agrees m w → name_had a r ≡ None → name_lost a r ≡ None → life_begun a r ≡ None → ((v : ℕ) → a ≡ act.Drop v → r ≡ reply.Empty → ⊥) → Leads a m (record { outcome = replied r; map = w })
  nothing a r m w agrees had lost first never = record {
    replies_so = r;
    is = refl;
    turns = record {
      turns = agrees_turns m w agrees;
      names = λ v ticket. let x = agrees_names m w agrees v ticket in let p = nothing_of (name_had a r) had v in let q = nothing_of (name_lost a r) lost v in omega (arith, x, p, q);
      begins = λ v ticket e. absurd (cc);
      begun = λ v ticket e. absurd (cc);
      ends = λ v e f. absurd (never v e f);
    };
  }

  life_put : (n l : ℕ) (m : ℕ → ℕ) → IsSlot t n → m (life_at t n) ≡ l → m (count_at t n) ≡ 0 → BeginsLife n m (put (put m (life_at t n) (l + 1)) (count_at t n) 1)
  life_put n l m slot is none = record {
    slot = slot;
    spares = record {
      life = λ k h ne. away (put m (life_at t n) (l + 1)) (count_at t n) 1 (life_at t k) (omega (arith, h, slot)) ∙ away m (life_at t n) (l + 1) (life_at t k) (omega (arith, h, slot, ne));
      count = λ k h ne. away (put m (life_at t n) (l + 1)) (count_at t n) 1 (count_at t k) (omega (arith, h, slot, ne)) ∙ away m (life_at t n) (l + 1) (count_at t k) (omega (arith, h, slot));
    };
    life = away (put m (life_at t n) (l + 1)) (count_at t n) 1 (life_at t n) (omega (arith, slot)) ∙ there m (life_at t n) (l + 1) ∙ ap (λ x. x + 1) (sym is);
    none = none;
    one = there (put m (life_at t n) (l + 1)) (count_at t n) 1;
  }

  -- behind a head that was put
  head_put : (m : ℕ → ℕ) (x : ℕ) → Agrees m (put m (head_at t) x)
  head_put m x = record {
    life = λ k h. away m (head_at t) x (life_at t k) (omega (arith, h));
    count = λ k h. away m (head_at t) x (count_at t k) (omega (arith, h));
  }

  -- and a next one
  listed : (m : ℕ → ℕ) (n x y : ℕ) → IsSlot t n → Agrees m (put (put m (next_at t n) x) (head_at t) y)
  listed m n x y slot = record {
    life = λ k h. away (put m (next_at t n) x) (head_at t) y (life_at t k) (omega (arith, h)) ∙ away m (next_at t n) x (life_at t k) (omega (arith, h, slot));
    count = λ k h. away (put m (next_at t n) x) (head_at t) y (count_at t k) (omega (arith, h)) ∙ away m (next_at t n) x (count_at t k) (omega (arith, h, slot));
  }

  begins_over : (n : ℕ) (m u w : ℕ → ℕ) → Agrees m u → BeginsLife n u w → BeginsLife n m w
  begins_over n m u w a b = record {
    slot = b.slot;
    spares = record {
      life = λ k h ne. b.spares.life k h ne ∙ a.life k h;
      count = λ k h ne. b.spares.count k h ne ∙ a.count k h;
    };
    life = b.life ∙ ap (λ x. x + 1) (a.life n b.slot);
    none = sym (a.count n b.slot) ∙ b.none;
    one = b.one;
  }

  begun : (a : ShelfAct) (n l : ℕ) (m w : ℕ → ℕ) → BeginsLife n m w → m (life_at t n) ≡ l → name_had a (reply.Value (ticket_of t n (l + 1))) ≡ Some (ticket_of t n (l + 1)) → name_lost a (reply.Value (ticket_of t n (l + 1))) ≡ None → life_begun a (reply.Value (ticket_of t n (l + 1))) ≡ Some (ticket_of t n (l + 1)) → Leads a m (record { outcome = replied (reply.Value (ticket_of t n (l + 1))); map = w })
  begun a n l m w b is had lost first = record {
    replies_so = reply.Value (ticket_of t n (l + 1));
    is = refl;
    turns = record {
      turns = begins_turns n m w b;
      names = λ v ticket. rw (had, lost) (begins_names n (ticket_of t n (l + 1)) m w b (ap (λ x. ticket_of t n (x + 1)) (sym is)) v ticket);
      begins = λ v ticket e. begins_so n (ticket_of t n (l + 1)) m w b (ap (λ x. ticket_of t n (x + 1)) (sym is)) v (sym first ∙ e);
      begun = λ v ticket e. begun_so n (ticket_of t n (l + 1)) m w b (ap (λ x. ticket_of t n (x + 1)) (sym is)) v (sym first ∙ e);
      ends = λ v e f. absurd (cc);
    };
  }

  more_names : (m : ℕ → ℕ) (u : ℕ) (a : ShelfAct) (r : Reply) → IsTicket t u → m (life_at t (slot_of t u)) ≡ life_of t u → m (count_at t (slot_of t u)) ≢ 0 → name_had a r ≡ Some u → name_lost a r ≡ None → life_begun a r ≡ None → ((v : ℕ) → a ≡ act.Drop v → r ≡ reply.Empty → ⊥) → Leads a m (record { outcome = replied r; map = put m (count_at t (slot_of t u)) (m (count_at t (slot_of t u)) + 1) })
  more_names m u a r ticket is some had lost first never =
      let c = m (count_at t (slot_of t u)) in
      let w = put m (count_at t (slot_of t u)) (c + 1) in
      let re = recounts m u (c + 1) ticket is in
      let at = there m (count_at t (slot_of t u)) (c + 1) in
      record {
        replies_so = r;
        is = refl;
        turns = record {
          turns = turns_by (slot_of t u) m w re.spares (λ slot. inl (re.life, λ z. absurd (some z)));
          names = λ v h. rw (had, lost) (one_more u v _ _ c (rw at at (recounted u m w re v h)));
          begins = λ v h e. absurd (cc);
          begun = λ v h e. absurd (cc);
          ends = λ v e f. absurd (never v e f);
        };
      }

  fewer_names : (m : ℕ → ℕ) (u : ℕ) (r : Reply) → IsTicket t u → m (life_at t (slot_of t u)) ≡ life_of t u → m (count_at t (slot_of t u)) ≢ 0 → name_lost (act.Drop u) r ≡ Some u → name_had (act.Drop u) r ≡ None → life_begun (act.Drop u) r ≡ None → (r ≡ reply.Empty → m (count_at t (slot_of t u)) ≡ 1) → Leads (act.Drop u) m (record { outcome = replied r; map = put m (count_at t (slot_of t u)) (m (count_at t (slot_of t u)) - 1) })
  fewer_names m u r ticket is some lost had first last =
      let c = m (count_at t (slot_of t u)) in
      let w = put m (count_at t (slot_of t u)) (c - 1) in
      let re = recounts m u (c - 1) ticket is in
      let at = there m (count_at t (slot_of t u)) (c - 1) in
      record {
        replies_so = r;
        is = refl;
        turns = record {
          turns = turns_by (slot_of t u) m w re.spares (λ slot. inl (re.life, λ z. absurd (some z)));
          names = λ v h. rw lost (one_less u v _ _ c some (rw at at (recounted u m w re v h)));
          begins = λ v h e. absurd (cc);
          begun = λ v h e. absurd (cc);
          ends = λ v e f. (let q : u ≡ v = same_drop u v e in let one = last f in let none : w (count_at t (slot_of t u)) ≡ 0 = at ∙ omega (arith, one) in subst (λ x. IsOver t w x) q (inr (re.life ∙ is, none)));
        };
      }
    where
      same_drop : (x y : ℕ) → act.Drop x ≡ act.Drop y → x ≡ y
      same_drop x y e = cc

  pub act_leads : (m : ℕ → ℕ) (a : ShelfAct) → IsFitShelfAct t a → Leads a m (plain (shelf_program t a replies) m)
  act_leads m act.Reserve fit =
      let n = first_free t (m (head_at t)) in
      run_if (Leads act.Reserve m) m (n == 0) _ _ (λ _. nothing act.Reserve reply.Empty m m (agrees_still m) refl refl refl (λ v e f. absurd (cc))) (λ some.
      run_if (Leads act.Reserve m) m (m (count_at t n) == 0) _ _
      (λ none. run_if (Leads act.Reserve m) m (nat_lt (m (life_at t n)) (last_life t)) _ _
      (λ _. let slot = slot_some t (m (head_at t)) some in
      let h = head_put m (m (next_at t n)) in
      begun act.Reserve n (m (life_at t n)) m _ (begins_over n m _ _ h (life_put n (m (life_at t n)) (put m (head_at t) (m (next_at t n))) slot (h.life n slot) (h.count n slot ∙ is_same _ _ none))) refl refl refl refl)
      (λ _. nothing act.Reserve reply.Full m m (agrees_still m) refl refl refl (λ v e f. absurd (cc))))
      (λ _. nothing act.Reserve reply.Full m m (agrees_still m) refl refl refl (λ v e f. absurd (cc))))
  act_leads m (act.Renew u) fit =
      let a = act.Renew u in
      let n = slot_of t u in
      run_if (Leads a m) m (m (life_at t n) == life_of t u) _ _
      (λ here. run_if (Leads a m) m (m (count_at t n) == 0) _ _
      (λ none. run_if (Leads a m) m (nat_lt (m (life_at t n)) (last_life t)) _ _
      (λ _. begun a n (m (life_at t n)) m _ (life_put n (m (life_at t n)) m fit refl (is_same _ _ none)) refl refl refl refl)
      (λ _. nothing a reply.Full m m (agrees_still m) refl refl refl (λ v e f. absurd (cc))))
      (λ _. nothing a (reply.Bool false) m m (agrees_still m) refl refl refl (λ v e f. absurd (cc))))
      (λ _. nothing a (reply.Bool false) m m (agrees_still m) refl refl refl (λ v e f. absurd (cc)))
  act_leads m (act.Name u) fit =
      let a = act.Name u in
      let n = slot_of t u in
      run_if (Leads a m) m (m (life_at t n) == life_of t u) _ _
      (λ here. run_if (Leads a m) m (m (count_at t n) == 0) _ _
      (λ _. nothing a (reply.Bool false) m m (agrees_still m) refl refl refl (λ v e f. absurd (cc)))
      (λ some. run_if (Leads a m) m (m (count_at t n) == MOST_NAMES) _ _
      (λ _. nothing a reply.Full m m (agrees_still m) refl refl refl (λ v e f. absurd (cc)))
      (λ _. more_names m u a reply.Unit fit (is_same _ _ here) (eqb-false _ _ some) refl refl refl (λ v e f. absurd (cc)))))
      (λ _. nothing a (reply.Bool false) m m (agrees_still m) refl refl refl (λ v e f. absurd (cc)))
  act_leads m (act.NameAt p) fit =
      let a = act.NameAt p in
      let u = m p.0 in
      let n = slot_of t u in
      run_if (Leads a m) m (n == 0) _ _ (λ _. nothing a reply.Empty m m (agrees_still m) refl refl refl (λ v e f. absurd (cc))) (λ there.
      run_if (Leads a m) m (m (life_at t n) == life_of t u) _ _
      (λ here. run_if (Leads a m) m (m (count_at t n) == 0) _ _
      (λ _. nothing a reply.Empty m m (agrees_still m) refl refl refl (λ v e f. absurd (cc)))
      (λ some. run_if (Leads a m) m (m (count_at t n) == MOST_NAMES) _ _
      (λ _. nothing a reply.Full m m (agrees_still m) refl refl refl (λ v e f. absurd (cc)))
      (λ _. more_names m u a (reply.Value u) (slot_in t u there) (is_same _ _ here) (eqb-false _ _ some) refl refl refl (λ v e f. absurd (cc)))))
      (λ _. nothing a reply.Empty m m (agrees_still m) refl refl refl (λ v e f. absurd (cc))))
  act_leads m (act.Drop u) fit =
      let a = act.Drop u in
      let n = slot_of t u in
      run_if (Leads a m) m (m (life_at t n) == life_of t u) _ _
      (λ here. run_if (Leads a m) m (m (count_at t n) == 0) _ _
      (λ _. nothing a (reply.Bool false) m m (agrees_still m) refl refl refl (λ v e f. absurd (cc)))
      (λ some. run_if (Leads a m) (put m (count_at t n) (m (count_at t n) - 1)) (m (count_at t n) == 1) _ _
      (λ one. fewer_names m u reply.Empty fit (is_same _ _ here) (eqb-false _ _ some) refl refl refl (λ _. is_same _ _ one))
      (λ _. fewer_names m u reply.Unit fit (is_same _ _ here) (eqb-false _ _ some) refl refl refl (λ e. absurd (cc)))))
      (λ _. nothing a (reply.Bool false) m m (agrees_still m) refl refl refl (λ v e f. absurd (cc)))
  act_leads m (act.Free u) fit =
      let a = act.Free u in
      let n = slot_of t u in
      run_if (Leads a m) m (m (life_at t n) == life_of t u) _ _
      (λ here. run_if (Leads a m) m (m (count_at t n) == 0) _ _
      (λ _. run_if (Leads a m) m (nat_lt (m (life_at t n)) (last_life t)) _ _
      (λ _. nothing a reply.Unit m _ (listed m n (m (head_at t)) n fit) refl refl refl (λ v e f. absurd (cc)))
      (λ _. nothing a reply.Empty m m (agrees_still m) refl refl refl (λ v e f. absurd (cc))))
      (λ _. nothing a (reply.Bool false) m m (agrees_still m) refl refl refl (λ v e f. absurd (cc))))
      (λ _. nothing a (reply.Bool false) m m (agrees_still m) refl refl refl (λ v e f. absurd (cc)))
