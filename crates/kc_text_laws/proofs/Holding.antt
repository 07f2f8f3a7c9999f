-- From the entries of a history to well-formed cells, and to who holds a lease.
use Rattle.std.proofs.Common.{◌≡◌, ◌≢◌, ℕ, zero, suc, ◌+◌, ◌<◌, ◌⊎◌, Bool, true, false, cond, List, [], ◌∷◌, length, refl, sym, ap, ◌∙◌, subst, arith, inl, inr}
use Rattle.std.specs.Prelude.{◌==◌, ◌++◌, nat_lt, Option, Some, None, Contains, slice_index_or}
use Rattle.std.specs.Option.{option_map, unwrap_or}
use Rattle.std.proofs.lemmas.Bool.Decides.{nat_tests}
use borrow.Author.Tests.{eqb-false}
use Rattle.kc_model.proofs.Footprints.{read_at-contained}
use Rattle.kc_model.specs.Footprint.{IsWellMade, put_at, read_at}
use Rattle.kc_model.specs.Legal.{IsLegal}
use Rattle.kc_model.specs.Store.{Store, Finds, after, cell_after}
use Rattle.kc_model.specs.declared.footprint.Entry.{Entry}
use Rattle.kc_model.specs.declared.footprint.Footprint.{Footprint}
use Rattle.kc_model.specs.declared.footprint.Put.{Put}
use Rattle.kc_model.specs.declared.footprint.Seen.{Seen}
use Rattle.kc_model.specs.declared.footprint.TheConstants.{MOST}
use Rattle.kc_model.specs.declared.plain_store.Cell.{Cell}
use Rattle.kc_text.proofs.Forming.{act_keeps, formed_same, opens_formed, plain_if}
use Rattle.kc_model.specs.declared.reply.Answer.TheVariants as answer
use Rattle.kc_model.specs.declared.reply.Reply.TheVariants as reply
use Rattle.kc_text.proofs.kc_store.Placing.{finds_behind}
use Rattle.kc_text.proofs.Replies.{says_there}
use Rattle.kc_text.proofs.Room.{text_small}
use Rattle.kc_text.specs.Forming.{AreZero, IsCell, TextsAreWellFormed}
use Rattle.kc_text_laws.specs.Holding.{ActsOnTexts, EndsItsOwn, KeepTexts, LeavesTexts, LeasesAre, ends_lease, holders, holders_after, nobody, opens_lease, turns, without, written_at}
use Rattle.kc_text.specs.Meaning.{IsFitAct, IsText, leases_at, text_named, names_at, op, place_at, text_meaning, text_program}
use Rattle.kc_text.specs.declared.operation.TextAct.{TextAct}
use Rattle.kc_text.specs.declared.operation.TextAct.TheVariants as act
use Rattle.kc_text.specs.declared.texts.TheConstants.{BURIED}
use Rattle.kc_text.specs.declared.texts.Texts.{Texts}
use Rattle.kc_xt.proofs.PlainRuns.{plain-meaning}
use Rattle.kc_xt.proofs.Written.{map_after-at}
use Rattle.kc_xt.specs.Commit.{Answers, run_on}
use Rattle.kc_xt.specs.Meaning.{put, values}
use Rattle.kc_xt.specs.Program.{Plain, plain, replies}

-- ---- what a footprint leaves

left_by : (o : Option Put) (s : Store) (l : ℕ) → (cell_after o (s l)).value ≡ unwrap_or (option_map (λ (p : Put). p.after) o) (s l).value
left_by None s l = refl
left_by (Some p) s l = refl

-- at a location stands what was written there, or what stood before
left_at : (f : Footprint) (s : Store) (l : ℕ) → values (after f s) l ≡ unwrap_or (written_at f l) (values s l)
left_at f s l = left_by (put_at f.puts.items l) s l

found_put : (ps : List Put) (l : ℕ) (p : Put) → put_at ps l ≡ Some p → Contains ps p × (p.loc.0 ≡ l)
found_put [] l p e = absurd (cc)
found_put (q ∷ ps) l p e = by_test (q.loc.0 == l) refl e (found_put ps l p)
  where
    by_test : (b : Bool) → (q.loc.0 == l) ≡ b → cond b (Some q) (put_at ps l) ≡ Some p → (put_at ps l ≡ Some p → Contains ps p × (p.loc.0 ≡ l)) → Contains (q ∷ ps) p × (p.loc.0 ≡ l)
    by_test true h e ih = let same : q ≡ p = cc in ((zero, omega arith, same), ap (λ (r : Put). r.loc.0) (sym same) ∙ grind (arith, nat_tests, h))
    by_test false h e ih = let rest = ih e in ((suc rest.0.0, omega (arith, rest.0.1), rest.0.2), rest.1)

-- a test of what was read and what was put is one of what stands before and behind
pub turned : (test : ℕ → ℕ → Bool) → ((x : ℕ) → test x x ≡ false) → (f : Footprint) (s : Store) → IsWellMade f → Finds f s → (l : ℕ) → turns test (read_at f.reads.items l) (put_at f.puts.items l) ≡ test (values s l) (values (after f s) l)
turned test none f s made finds l = by_put (put_at f.puts.items l) refl
  where
    untouched : (r : Option Seen) → turns test r None ≡ false
    untouched (Some r) = refl
    untouched None = refl

    by_put : (o : Option Put) → put_at f.puts.items l ≡ o → turns test (read_at f.reads.items l) o ≡ test (values s l) (cell_after o (s l)).value
    by_put None e = untouched (read_at f.reads.items l) ∙ sym (none (values s l))
    by_put (Some p) e =
        let found = found_put f.puts.items l p e in
        let r = made.puts_read p found.0 in
        let at : r.0.loc.0 ≡ l = r.2 ∙ found.1 in
        let read : read_at f.reads.items l ≡ Some r.0 = subst (λ k. read_at f.reads.items k ≡ Some r.0) at (read_at-contained f.reads.items r.0 made.reads_rise r.1) in
        let stood : values s l ≡ r.0.value = subst (λ k. values s k ≡ r.0.value) at (ap (λ (c : Cell). c.value) (finds r.0 r.1)) in
        rw (read, stood) refl

pub not_below : (x : ℕ) → nat_lt x x ≡ false
not_below x = grind (arith, nat_tests)

-- ---- the leases of a text, by one operation

abbrev pub ByOne : ℕ → ℕ → Type 0
ByOne x y = (y ≡ x) ⊎ ((y ≡ x + 1) ⊎ (x ≡ y + 1))

module _ (t : Texts) where
  pub cell_of_leases : (j : ℕ) → IsText t j → IsCell t (leases_at t j)
  cell_of_leases j h = (omega arith, omega arith)

  module _ (m : ℕ → ℕ) (j : ℕ) (text : IsText t j) where
    abbrev Turns : Plain → Type 0
    Turns w = ByOne (m (leases_at t j)) (w.map (leases_at t j))

    leased : (i v : ℕ) → IsText t i → ByOne (m (leases_at t i)) v → ByOne (m (leases_at t j)) (put m (leases_at t i) v (leases_at t j))
    leased i v h by = by_test (i == j) refl
      where
        by_test : (b : Bool) → (i == j) ≡ b → ByOne (m (leases_at t j)) (put m (leases_at t i) v (leases_at t j))
        by_test true e =
            let q : i ≡ j = grind (arith, nat_tests, e) in
            let here : put m (leases_at t i) v (leases_at t j) ≡ v = grind (arith, nat_tests, q) in
            rw here (subst (λ k. ByOne (m (leases_at t k)) v) q by)
        by_test false e = let ne : i ≢ j = eqb-false _ _ e in inl (grind (arith, nat_tests, ne, h, text))

    pub act_turns : (a : TextAct) → IsFitAct t a → Turns (plain (text_program t a replies) m)
    act_turns (act.Name p i) fit =
        plain_if Turns m (m (names_at t i) == BURIED) _ _ (λ _. inl refl) (λ _.
        plain_if Turns m (m (place_at t p) == i) _ _ (λ _. inl refl) (λ _.
        plain_if Turns m (text_named t (m (place_at t p)) == 0) _ _
        (λ z. inl (grind (arith, nat_tests, fit, text)))
        (λ z. let is : text_named t (m (place_at t p)) ≡ m (place_at t p) = grind (arith, nat_tests, z) in
        let some : IsText t (text_named t (m (place_at t p))) = (grind (arith, nat_tests, z), grind (arith, nat_tests, z)) in
        inl (grind (arith, nat_tests, fit, text, some)))))
    act_turns (act.Clear p) fit =
        plain_if Turns m (text_named t (m (place_at t p)) == 0) _ _ (λ _. inl refl) (λ _.
        plain_if Turns m (text_named t (m (place_at t p)) == 0) _ _
        (λ z. inl (grind (arith, nat_tests, fit, text)))
        (λ z. let some : IsText t (text_named t (m (place_at t p))) = (grind (arith, nat_tests, z), grind (arith, nat_tests, z)) in
        inl (grind (arith, nat_tests, fit, text, some))))
    act_turns (act.Lease p) fit =
        plain_if Turns m (text_named t (m (place_at t p)) == 0) _ _ (λ _. inl refl) (λ z.
        plain_if Turns m (m (leases_at t (text_named t (m (place_at t p)))) == BURIED) _ _ (λ _. inl refl) (λ _.
        leased _ _ (grind (arith, nat_tests, z), grind (arith, nat_tests, z)) (inr (inl refl))))
    act_turns (act.Return i) fit =
        plain_if Turns m (m (leases_at t i) == 0) _ _ (λ _. inl refl) (λ z.
        leased i _ fit (inr (inr (let ne : m (leases_at t i) ≢ 0 = eqb-false _ _ z in omega (arith, ne)))))
    act_turns (act.Bury i) fit =
        plain_if Turns m (m (names_at t i) == 0) _ _
        (λ _. plain_if Turns m (m (leases_at t i) == 0) _ _ (λ _. inl (grind (arith, nat_tests, fit, text))) (λ _. inl refl))
        (λ _. inl refl)

  -- ---- one entry

  -- what an entry that acts on the texts leaves in a cell
  pub acted : (s : Store) (f : Footprint) (a : ActsOnTexts t s f) (l : ℕ) → IsCell t l → values (after f s) l ≡ (plain (text_program t a.act replies) (values s)).map l
  acted s f a l cell =
      let ts = (run_on (text_meaning (op t a.act)) s).touches in
      let is_plain = plain-meaning (text_program t a.act replies) MOST (values s) [] (text_small (op t a.act) s) in
      left_at f s l ∙ ap (λ (o : Option ℕ). unwrap_or o (values s l)) (a.puts l cell) ∙ sym (map_after-at (values s) ts l) ∙ ap (λ (w : ℕ → ℕ). w l) is_plain.1

  pub left : (s : Store) (f : Footprint) → LeavesTexts t f → (l : ℕ) → IsCell t l → values (after f s) l ≡ values s l
  left s f a l cell = left_at f s l ∙ ap (λ (o : Option ℕ). unwrap_or o (values s l)) (a l cell)

  length-without : (k : ℕ) (ks : List ℕ) → Contains ks k → length (without k ks) + 1 ≡ length ks
  length-without k [] (i, lt, e) = absurd (omega arith)
  length-without k (x ∷ xs) (i, lt, e) = by_test (x == k) refl i lt e (length-without k xs)
    where
      by_test : (b : Bool) → (x == k) ≡ b → (i : ℕ) → i < length (x ∷ xs) → slice_index_or (x ∷ xs) i k ≡ k → (Contains xs k → length (without k xs) + 1 ≡ length xs) → length (cond b xs (x ∷ without k xs)) + 1 ≡ length (x ∷ xs)
      by_test true h i lt e ih = omega arith
      by_test false h zero lt e ih = absurd (eqb-false _ _ h e)
      by_test false h (suc i) lt e ih = let r = ih (i, omega arith, e) in omega (arith, r)

  pub no_turn : (test : ℕ → ℕ → Bool) (r : Option Seen) (o : Option Put) → option_map (λ (p : Put). p.after) o ≡ None → turns test r o ≡ false
  no_turn test (Some r) None e = refl
  no_turn test None None e = refl
  no_turn test r (Some p) e = absurd (cc)

  holds_by : (j : ℕ) (e : Entry) (ks : List ℕ) (x y : ℕ) → x ≡ length ks → opens_lease t j e.footprint ≡ nat_lt x y → ends_lease t j e.footprint ≡ nat_lt y x → (ends_lease t j e.footprint ≡ true → Contains ks e.caller) → ByOne x y → y ≡ length (holders_after t j e ks)
  holds_by j e ks x y is opens ends own (inl h) =
      let a : opens_lease t j e.footprint ≡ false = opens ∙ grind (arith, nat_tests, h) in
      let b : ends_lease t j e.footprint ≡ false = ends ∙ grind (arith, nat_tests, h) in
      rw (a, b) (h ∙ is)
  holds_by j e ks x y is opens ends own (inr (inl h)) =
      let a : opens_lease t j e.footprint ≡ true = opens ∙ grind (arith, nat_tests, h) in
      rw a (omega (arith, h, is))
  holds_by j e ks x y is opens ends own (inr (inr h)) =
      let a : opens_lease t j e.footprint ≡ false = opens ∙ grind (arith, nat_tests, h) in
      let b : ends_lease t j e.footprint ≡ true = ends ∙ grind (arith, nat_tests, h) in
      let c = length-without e.caller ks (own b) in
      rw (a, b) (omega (arith, h, is, c))

  pub record Stand (s : Store) (held : ℕ → List ℕ) : Type 0 where
    pub formed : TextsAreWellFormed t (values s)
    pub leases : LeasesAre t (values s) held

  pub step : (s : Store) (held : ℕ → List ℕ) (e : Entry) → Finds e.footprint s → (LeavesTexts t e.footprint ⊎ ActsOnTexts t s e.footprint) → EndsItsOwn t held e → Stand s held → Stand (after e.footprint s) (λ j. holders_after t j e (held j))
  step s held e finds (inl leaves) own h = record {
    formed = formed_same t (values s) _ (left s e.footprint leaves) h.formed;
    leases = λ j text.
        let l = leases_at t j in
        let w : written_at e.footprint l ≡ None = leaves l (cell_of_leases j text) in
        let a : opens_lease t j e.footprint ≡ false = no_turn nat_lt (read_at e.footprint.reads.items l) (put_at e.footprint.puts.items l) w in
        let b : ends_lease t j e.footprint ≡ false = no_turn (λ x y. nat_lt y x) (read_at e.footprint.reads.items l) (put_at e.footprint.puts.items l) w in
        rw (a, b) (left s e.footprint leaves l (cell_of_leases j text) ∙ h.leases j text);
  }
  step s held e finds (inr acts) own h =
      let left_in = acted s e.footprint acts in
      record {
        formed = formed_same t (plain (text_program t acts.act replies) (values s)).map _ left_in (act_keeps t (values s) h.formed acts.act acts.fit);
        leases = λ j text.
            let l = leases_at t j in
            let is = left_in l (cell_of_leases j text) in
            let by = act_turns (values s) j text acts.act acts.fit in
            holds_by j e (held j) (values s l) (values (after e.footprint s) l) (h.leases j text)
            (turned nat_lt not_below e.footprint s acts.made finds l)
            (turned (λ x y. nat_lt y x) not_below e.footprint s acts.made finds l)
            (own j text)
            (rw is by);
      }

  -- ---- histories

  pub opened_stand : (s : Store) → AreZero t (values s) → Stand s nobody
  opened_stand s z = record { formed = opens_formed t (values s) z; leases = λ j text. z (leases_at t j) (cell_of_leases j text) }

  -- what the entries of a legal list leave, where these keep to the operations
  pub stand_behind : (es : List Entry) (s end : Store) (held : ℕ → List ℕ) → IsLegal s es end → KeepTexts t s held es → Stand s held → Stand end (λ j. holders t j (held j) es)
  stand_behind [] s end held same keep h = subst (λ x. Stand x held) (sym same) h
  stand_behind (x ∷ xs) s end held legal keep h = stand_behind xs (after x.footprint s) end _ legal.1 keep.2 (step s held x legal.0 keep.0 keep.1 h)

-- at a burial in such a list nobody holds a lease of the text
pub none_held : (t : Texts) (s m end : Store) (before behind : List Entry) (j : ℕ) (x : Entry) → IsLegal s before m → IsLegal s (before ++ x ∷ behind) end → AreZero t (values s) → KeepTexts t s nobody before → IsText t j → Answers (text_meaning (op t (act.Bury j))) (answer.Reply reply.Unit) x.footprint → holders t j [] before ≡ []
none_held t s m end before behind j x first legal zeros keep text answers =
    let stand = stand_behind t before s m nobody first keep (opened_stand t s zeros) in
    let says = says_there t (act.Bury j) (answer.Reply reply.Unit) x.footprint m answers (finds_behind s m end before behind x first legal) in
    no_items (holders t j [] before) (sym (stand.leases j text) ∙ says.1)
  where
    no_items : (ks : List ℕ) → length ks ≡ 0 → ks ≡ []
    no_items [] e = refl
    no_items (k ∷ ks) e = absurd (omega arith)
