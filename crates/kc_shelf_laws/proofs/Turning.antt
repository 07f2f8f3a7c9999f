-- The entry of an operation turns slots and names as the operation and its reply say.
use Rattle.std.proofs.Common.{◌≡◌, ◌≢◌, ℕ, ◌+◌, ◌<◌, ◌⊎◌, Bool, true, false, cond, refl, sym, ap, ◌∙◌, subst, arith, inl, inr}
use Rattle.std.specs.Prelude.{◌==◌, Option, Some, None, []}
use Rattle.std.proofs.lemmas.Bool.Decides.{nat_tests}
use Rattle.kc_keep.proofs.Keeping.{left_by as keeps_left, says}
use Rattle.kc_model.proofs.Footprints.{read_at-contained}
use Rattle.kc_model.specs.Footprint.{IsWellMade, put_at, read_at}
use Rattle.kc_model.specs.Store.{Store, Finds, after, cell_after}
use Rattle.kc_model.specs.declared.footprint.Footprint.{Footprint}
use Rattle.kc_model.specs.declared.footprint.Put.{Put}
use Rattle.kc_model.specs.declared.footprint.Seen.{Seen}
use Rattle.kc_model.specs.declared.footprint.TheConstants.{MOST}
use Rattle.kc_model.specs.declared.plain_store.Cell.{Cell}
use Rattle.kc_model.specs.declared.reply.Answer.TheVariants as answer
use Rattle.kc_model.specs.declared.reply.Reply.{Reply}
use Rattle.kc_shelf.specs.Meaning.{IsFitShelfAct, IsSlot, IsTicket, count_at, life_at, life_of, shelf_op, shelf_meaning, shelf_program, slot_of, ticket_of}
use Rattle.kc_shelf.specs.declared.operation.ShelfAct.{ShelfAct}
use Rattle.kc_shelf.specs.declared.shelf.Shelf.{Shelf}
use Rattle.kc_shelf_laws.proofs.Acts.{act_leads, life_named, named_here, slot_named}
use Rattle.kc_shelf_laws.proofs.Footprints.{moved, read_moved, seen_is}
use Rattle.kc_shelf_laws.specs.Lives.{ActTurns, KeepsLives, Turns, values_left, name_had, name_lost, ticket_names, one_of, values_seen, value_put}
use Rattle.kc_xt.proofs.PlainRuns.{plain-meaning}
use Rattle.kc_xt.specs.Commit.{Answers, run_on}
use Rattle.kc_xt.specs.Meaning.{Outcome, replied, too_large, values}
use Rattle.kc_xt.specs.Program.{plain, replies}

reply_is : (a b : Reply) → replied a ≡ replied b → a ≡ b
reply_is a b e = cc

not_large : (o : Outcome) (r : Reply) → o ≡ replied r → o ≢ too_large
not_large o r e f = absurd (cc)

-- wherever the entry of an operation is found, it turns so
pub turned_so : (t : Shelf) (a : ShelfAct) (r : Reply) (f : Footprint) (s : Store) → IsFitShelfAct t a → Answers (shelf_meaning (shelf_op t a)) (answer.Reply r) f → Finds f s → ActTurns t a r (values s) (values (after f s))
turned_so t a r f s fit answers finds =
    let m = shelf_meaning (shelf_op t a) in
    let outcome : (run_on m s).outcome ≡ replied r = says (run_on m s).outcome r (answers.run s finds) in
    let is_plain = plain-meaning (shelf_program t a replies) MOST (values s) [] (not_large _ r outcome) in
    let leads = act_leads t (values s) a fit in
    let same : leads.replies_so ≡ r = reply_is _ _ (sym leads.is ∙ sym is_plain.0 ∙ outcome) in
    let left : values (after f s) ≡ (plain (shelf_program t a replies) (values s)).map = keeps_left m r s f answers finds ∙ is_plain.1 in
    subst (λ (w : ℕ → ℕ). ActTurns t a r (values s) w) (sym left) (subst (λ (b : Reply). ActTurns t a b (values s) (plain (shelf_program t a replies) (values s)).map) same leads.turns)

-- ---- with another value at a location that isn't read

with_value : Store → ℕ → ℕ → Store
with_value s l x k = cond (l == k) (record { version = 0; value = x }) (s k)

with_else : (s : Store) (l x k : ℕ) → l ≢ k → with_value s l x k ≡ s k
unfolding with_value
with_else s l x k ne = let e : (l == k) ≡ false = grind (arith, nat_tests, ne) in rw e refl

with_there : (s : Store) (l x : ℕ) → (with_value s l x l).value ≡ x
unfolding with_value
with_there s l x = let e : (l == l) ≡ true = grind (arith, nat_tests) in rw e refl

module _ (f : Footprint) (made : IsWellMade f) (l : ℕ) (unread : read_at f.reads.items l ≡ None) where
  finds_with : (s : Store) (x : ℕ) → Finds f s → Finds f (with_value s l x)
  finds_with s x finds = λ r there.
      let ne : l ≢ r.loc.0 = λ e. (let read = read_at-contained f.reads.items r made.reads_rise there in let none = subst (λ k. read_at f.reads.items k ≡ None) e unread in absurd (cc)) in
      with_else s l x r.loc.0 ne ∙ finds r there

  -- nothing was put there
  unput : put_at f.puts.items l ≡ None
  unput = by_put (put_at f.puts.items l) refl
    where
      by_put : (o : Option Put) → put_at f.puts.items l ≡ o → o ≡ None
      by_put None e = refl
      by_put (Some p) e = let seen = seen_is f made l p e in absurd (cc)

  after_there : (s : Store) (x : ℕ) → values (after f (with_value s l x)) l ≡ x
  after_there s x = ap (λ (o : Option Put). (cell_after o (with_value s l x l)).value) unput ∙ with_there s l x

  after_else : (s : Store) (x k : ℕ) → l ≢ k → values (after f (with_value s l x)) k ≡ values (after f s) k
  after_else s x k ne = ap (λ (c : Cell). (cell_after (put_at f.puts.items k) c).value) (with_else s l x k ne)

-- ---- an operation

age_of : Shelf → Option ℕ → ℕ
age_of t None = 0
age_of t (Some v) = life_of t v

younger : (t : Shelf) (o : Option ℕ) (v : ℕ) → age_of t o < life_of t v → one_of o v ≡ 0
unfolding age_of
younger t None v lt = refl
younger t (Some w) v lt = by_test (w == v) refl
  where
    by_test : (b : Bool) → (w == v) ≡ b → ◌≡◌ {A = ℕ} (cond b 1 0) 0
    by_test true e = let q : w ≡ v = grind (arith, nat_tests, e) in let lower : life_of t v < life_of t v = subst (λ i. life_of t i < life_of t v) q lt in absurd (omega (arith, lower))
    by_test false e = refl

same_names : (t : Shelf) (m w : ℕ → ℕ) (v : ℕ) → m (life_at t (slot_of t v)) ≡ w (life_at t (slot_of t v)) → m (count_at t (slot_of t v)) ≡ w (count_at t (slot_of t v)) → ticket_names t m v ≡ ticket_names t w v
same_names t m w v e g = rw (e, g) refl

all_stay : (a b c d : ℕ) → a ≡ c → d ≡ b → a + b ≡ c + d
all_stay a b c d e f = omega (arith, e, f)

all_seen : (a b c d : ℕ) → a ≡ d → c ≡ b → a + b ≡ c + d
all_seen a b c d e f = omega (arith, e, f)

module _ (t : Shelf) (a : ShelfAct) (r : Reply) (f : Footprint) (fit : IsFitShelfAct t a) (answers : Answers (shelf_meaning (shelf_op t a)) (answer.Reply r) f) where
  module _ (s : Store) (finds : Finds f s) (v : ℕ) (ticket : IsTicket t v) where
    -- a life that isn't read leaves the count
    count_stays : read_at f.reads.items (life_at t (slot_of t v)) ≡ None → values (after f s) (count_at t (slot_of t v)) ≡ values s (count_at t (slot_of t v))
    count_stays unread =
        let x = 1 + age_of t (name_had a r) + age_of t (name_lost a r) in
        let u = ticket_of t (slot_of t v) x in
        let q : slot_of t u ≡ slot_of t v = slot_named t (slot_of t v) x ticket in
        let p : life_of t u ≡ x = life_named t (slot_of t v) x ticket in
        let is_ticket : IsTicket t u = subst (IsSlot t) (sym q) ticket in
        let s' = with_value s (life_at t (slot_of t v)) x in
        let turned = turned_so t a r f s' fit answers (finds_with f answers.well_made (life_at t (slot_of t v)) unread s x finds) in
        let had : one_of (name_had a r) u ≡ 0 = younger t (name_had a r) u (rw p (omega arith)) in
        let lost : one_of (name_lost a r) u ≡ 0 = younger t (name_lost a r) u (rw p (omega arith)) in
        let before_life : values s' (life_at t (slot_of t u)) ≡ life_of t u = ap (λ i. values s' (life_at t i)) q ∙ with_there s (life_at t (slot_of t v)) x ∙ sym p in
        let after_life : values (after f s') (life_at t (slot_of t u)) ≡ life_of t u = ap (λ i. values (after f s') (life_at t i)) q ∙ after_there f answers.well_made (life_at t (slot_of t v)) unread s x ∙ sym p in
        let apart : life_at t (slot_of t v) ≢ count_at t (slot_of t v) = omega (arith, ticket) in
        let before_count : ticket_names t (values s') u ≡ values s (count_at t (slot_of t v)) = named_here t (values s') u before_life ∙ ap (λ i. values s' (count_at t i)) q ∙ ap (λ (c : Cell). c.value) (with_else s (life_at t (slot_of t v)) x (count_at t (slot_of t v)) apart) in
        let after_count : ticket_names t (values (after f s')) u ≡ values (after f s) (count_at t (slot_of t v)) = named_here t (values (after f s')) u after_life ∙ ap (λ i. values (after f s') (count_at t i)) q ∙ after_else f answers.well_made (life_at t (slot_of t v)) unread s x (count_at t (slot_of t v)) apart in
        let balance = turned.names u is_ticket in
        sym after_count ∙ equal_names _ _ _ _ balance had lost ∙ before_count
      where
        equal_names : (x y l h : ℕ) → x + l ≡ y + h → h ≡ 0 → l ≡ 0 → x ≡ y
        equal_names x y l h e g k = omega (arith, e, g, k)

    -- a count that isn't read leaves the life
    life_stays : read_at f.reads.items (count_at t (slot_of t v)) ≡ None → values (after f s) (life_at t (slot_of t v)) ≡ values s (life_at t (slot_of t v))
    life_stays unread =
        let s' = with_value s (count_at t (slot_of t v)) 1 in
        let turned = turned_so t a r f s' fit answers (finds_with f answers.well_made (count_at t (slot_of t v)) unread s 1 finds) in
        let apart : count_at t (slot_of t v) ≢ life_at t (slot_of t v) = omega (arith, ticket) in
        let some : values s' (count_at t (slot_of t v)) ≡ 1 = with_there s (count_at t (slot_of t v)) 1 in
        let same : values (after f s') (life_at t (slot_of t v)) ≡ values s' (life_at t (slot_of t v)) = by_turn _ _ _ _ some (turned.turns (slot_of t v) ticket) in
        sym (after_else f answers.well_made (count_at t (slot_of t v)) unread s 1 (life_at t (slot_of t v)) apart) ∙ same ∙ ap (λ (c : Cell). c.value) (with_else s (count_at t (slot_of t v)) 1 (life_at t (slot_of t v)) apart)
      where
        by_turn : (l c k d : ℕ) → c ≡ 1 → Turns l c k d → k ≡ l
        by_turn l c k d some (inl h) = h.0
        by_turn l c k d some (inr h) = absurd (omega (arith, some, h.1))

    -- where nothing was put all stays
    stays_unput : (l : ℕ) → put_at f.puts.items l ≡ None → (values (after f s) l ≡ values s l) × (values_left f l ≡ values_seen f l)
    stays_unput l e = (ap (λ (o : Option Put). (cell_after o (s l)).value) e, ap (λ (o : Option Put). value_put o (values_seen f l)) e)

    pub balanced : ticket_names t (values (after f s)) v + ticket_names t (values_seen f) v ≡ ticket_names t (values s) v + ticket_names t (values_left f) v
    balanced = by_life (read_at f.reads.items (life_at t (slot_of t v))) refl
      where
        stay : (values (after f s) (life_at t (slot_of t v)) ≡ values s (life_at t (slot_of t v))) → (values_left f (life_at t (slot_of t v)) ≡ values_seen f (life_at t (slot_of t v))) → (values (after f s) (count_at t (slot_of t v)) ≡ values s (count_at t (slot_of t v))) → (values_left f (count_at t (slot_of t v)) ≡ values_seen f (count_at t (slot_of t v))) → ticket_names t (values (after f s)) v + ticket_names t (values_seen f) v ≡ ticket_names t (values s) v + ticket_names t (values_left f) v
        stay p q x y = all_stay _ _ _ _ (same_names t (values (after f s)) (values s) v p x) (same_names t (values_left f) (values_seen f) v q y)

        left_where : (l : ℕ) → values (after f s) l ≡ values s l → ((values (after f s) l ≡ values s l) × (values_left f l ≡ values_seen f l)) ⊎ ((values (after f s) l ≡ values_left f l) × (values s l ≡ values_seen f l)) → values_left f l ≡ values_seen f l
        left_where l same (inl h) = h.1
        left_where l same (inr h) = sym h.0 ∙ same ∙ h.1

        by_count : (o : Option Seen) → read_at f.reads.items (count_at t (slot_of t v)) ≡ o → (values (after f s) (life_at t (slot_of t v)) ≡ values_left f (life_at t (slot_of t v))) × (values s (life_at t (slot_of t v)) ≡ values_seen f (life_at t (slot_of t v))) → ticket_names t (values (after f s)) v + ticket_names t (values_seen f) v ≡ ticket_names t (values s) v + ticket_names t (values_left f) v
        by_count (Some c) e life = let count = read_moved f s answers.well_made finds (count_at t (slot_of t v)) c e in all_seen _ _ _ _ (same_names t (values (after f s)) (values_left f) v life.0 count.0) (same_names t (values s) (values_seen f) v life.1 count.1)
        by_count None e life =
            let same = life_stays e in
            let count = stays_unput (count_at t (slot_of t v)) (unput f answers.well_made (count_at t (slot_of t v)) e) in
            stay same (sym life.0 ∙ same ∙ life.1) count.0 count.1

        by_life : (o : Option Seen) → read_at f.reads.items (life_at t (slot_of t v)) ≡ o → ticket_names t (values (after f s)) v + ticket_names t (values_seen f) v ≡ ticket_names t (values s) v + ticket_names t (values_left f) v
        by_life (Some l) e = by_count (read_at f.reads.items (count_at t (slot_of t v))) refl (read_moved f s answers.well_made finds (life_at t (slot_of t v)) l e)
        by_life None e =
            let same = count_stays e in
            let life = stays_unput (life_at t (slot_of t v)) (unput f answers.well_made (life_at t (slot_of t v)) e) in
            stay life.0 life.1 same (left_where (count_at t (slot_of t v)) same (moved f s answers.well_made finds (count_at t (slot_of t v))))

  pub keeps_lives : KeepsLives t f
  keeps_lives = record {
    made = answers.well_made;
    turns = λ s finds. (turned_so t a r f s fit answers finds).turns;
    names = λ s finds v ticket. balanced s finds v ticket;
  }

  -- what its own entry shows of names
  pub own_names : (s : Store) → Finds f s → (v : ℕ) → IsTicket t v → ticket_names t (values_left f) v + one_of (name_lost a r) v ≡ ticket_names t (values_seen f) v + one_of (name_had a r) v
  own_names s finds v ticket = sums _ _ _ _ _ _ (balanced s finds v ticket) ((turned_so t a r f s fit answers finds).names v ticket)
    where
      sums : (x y p q l h : ℕ) → x + p ≡ y + q → x + l ≡ y + h → q + l ≡ p + h
      sums x y p q l h e g = omega (arith, e, g)

-- an entry that puts none of the lives and counts
pub spares_lives : (t : Shelf) (f : Footprint) → IsWellMade f → ((n : ℕ) → IsSlot t n → (put_at f.puts.items (life_at t n) ≡ None) × (put_at f.puts.items (count_at t n) ≡ None)) → KeepsLives t f
spares_lives t f made none = record {
  made = made;
  turns = λ s finds n slot. (let e = none n slot in let life = stays s (life_at t n) e.0 in let count = stays s (count_at t n) e.1 in inl (life.0, λ z. count.0 ∙ z));
  names = λ s finds v ticket. (let e = none (slot_of t v) ticket in let life = stays s (life_at t (slot_of t v)) e.0 in let count = stays s (count_at t (slot_of t v)) e.1 in
      all_stay _ _ _ _ (same_names t (values (after f s)) (values s) v life.0 count.0) (same_names t (values_left f) (values_seen f) v life.1 count.1));
}
  where
    stays : (s : Store) (l : ℕ) → put_at f.puts.items l ≡ None → (values (after f s) l ≡ values s l) × (values_left f l ≡ values_seen f l)
    stays s l e = (ap (λ (o : Option Put). (cell_after o (s l)).value) e, ap (λ (o : Option Put). value_put o (values_seen f l)) e)
