-- Well-formed cells, and how many leases are open, whoever ends them.
use Rattle.std.proofs.Common.{◌≡◌, ℕ, ◌<◌, ◌⊎◌, true, false, List, [], ◌∷◌, sym, ◌∙◌, subst, arith, inl, inr}
use Rattle.std.specs.Prelude.{◌++◌, nat_lt, None, All}
use Rattle.std.proofs.lemmas.Bool.Decides.{nat_tests}
use Rattle.std.proofs.lemmas.List.Elements.{All-head, All-tail}
use Rattle.kc_model.specs.Legal.{IsLegal}
use Rattle.kc_model.specs.Store.{Store, Finds, after}
use Rattle.kc_model.specs.declared.footprint.Entry.{Entry}
use Rattle.kc_model.specs.declared.footprint.Footprint.{Footprint}
use Rattle.kc_model.specs.declared.reply.Answer.TheVariants as answer
use Rattle.kc_model.specs.declared.reply.Reply.TheVariants as reply
use Rattle.kc_text.proofs.Forming.{act_keeps, formed_same, opens_formed}
use Rattle.kc_text.proofs.Replies.{says_there}
use Rattle.kc_text.proofs.kc_store.Placing.{finds_behind}
use Rattle.kc_text.specs.Forming.{AreZero, TextsAreWellFormed}
use Rattle.kc_text.specs.Meaning.{IsText, leases_at, op, text_meaning, text_program}
use Rattle.kc_text.specs.declared.operation.TextAct.TheVariants as act
use Rattle.kc_text.specs.declared.texts.Texts.{Texts}
use Rattle.kc_text_laws.proofs.Holding.{ByOne, act_turns, acted, cell_of_leases, left, no_turn, not_below, turned}
use Rattle.kc_text_laws.proofs.Owning.{acts}
use Rattle.kc_text_laws.specs.Handed.{KeepToTexts, open_leases}
use Rattle.kc_text_laws.specs.Holding.{ActsOnTexts, LeavesTexts, ends_lease, opens_lease, written_at}
use Rattle.kc_text_laws.specs.Owning.{IsTextOperation, held_on}
use Rattle.kc_xt.specs.Commit.{Answers}
use Rattle.kc_xt.specs.Meaning.{values}
use Rattle.kc_xt.specs.Program.{plain, replies}

module _ (t : Texts) where
  counts_by : (j : ℕ) (f : Footprint) (n x y : ℕ) → x ≡ n → opens_lease t j f ≡ nat_lt x y → ends_lease t j f ≡ nat_lt y x → ByOne x y → y ≡ held_on t j f n
  counts_by j f n x y is opens ends (inl h) =
      let a : opens_lease t j f ≡ false = opens ∙ grind (arith, nat_tests, h) in
      let b : ends_lease t j f ≡ false = ends ∙ grind (arith, nat_tests, h) in
      rw (a, b) (h ∙ is)
  counts_by j f n x y is opens ends (inr (inl h)) =
      let a : opens_lease t j f ≡ true = opens ∙ grind (arith, nat_tests, h) in
      rw a (omega (arith, h, is))
  counts_by j f n x y is opens ends (inr (inr h)) =
      let a : opens_lease t j f ≡ false = opens ∙ grind (arith, nat_tests, h) in
      let b : ends_lease t j f ≡ true = ends ∙ grind (arith, nat_tests, h) in
      rw (a, b) (omega (arith, h, is))

  -- the cells are well formed, and so many leases of each text are open
  pub record StandOpen (s : Store) (n : ℕ → ℕ) : Type 0 where
    pub formed : TextsAreWellFormed t (values s)
    pub leases : (j : ℕ) → IsText t j → values s (leases_at t j) ≡ n j

  open_step : (s : Store) (n : ℕ → ℕ) (f : Footprint) → Finds f s → (LeavesTexts t f ⊎ ActsOnTexts t s f) → StandOpen s n → StandOpen (after f s) (λ j. held_on t j f (n j))
  open_step s n f finds (inl leaves) h = record {
    formed = formed_same t (values s) _ (left t s f leaves) h.formed;
    leases = λ j text.
        let l = leases_at t j in
        let w : written_at f l ≡ None = leaves l (cell_of_leases t j text) in
        let a : opens_lease t j f ≡ false = no_turn t nat_lt _ _ w in
        let b : ends_lease t j f ≡ false = no_turn t (λ x y. nat_lt y x) _ _ w in
        rw (a, b) (left t s f leaves l (cell_of_leases t j text) ∙ h.leases j text);
  }
  open_step s n f finds (inr a) h =
      let left_in = acted t s f a in
      record {
        formed = formed_same t (plain (text_program t a.act replies) (values s)).map _ left_in (act_keeps t (values s) h.formed a.act a.fit);
        leases = λ j text.
            let l = leases_at t j in
            let is = left_in l (cell_of_leases t j text) in
            let by = act_turns t (values s) j text a.act a.fit in
            counts_by j f (n j) (values s l) (values (after f s) l) (h.leases j text)
            (turned nat_lt not_below f s a.made finds l)
            (turned (λ x y. nat_lt y x) not_below f s a.made finds l)
            (rw is by);
      }

  pub opened_none : (s : Store) → AreZero t (values s) → StandOpen s (λ j. 0)
  opened_none s z = record { formed = opens_formed t (values s) z; leases = λ j text. z (leases_at t j) (cell_of_leases t j text) }

  -- behind a legal list whose entries keep to the operations
  pub open_behind : (es : List Entry) (s end : Store) (n : ℕ → ℕ) → IsLegal s es end → KeepToTexts t s es → StandOpen s n → StandOpen end (λ j. open_leases t j (n j) es)
  open_behind [] s end n same keep h = subst (λ x. StandOpen x n) (sym same) h
  open_behind (x ∷ xs) s end n legal keep h = open_behind xs (after x.footprint s) end _ legal.1 keep.1 (open_step s n x.footprint legal.0 keep.0 h)

  -- a lease that an entry ends was open
  ends_open : (s : Store) (n : ℕ → ℕ) (f : Footprint) (j : ℕ) → IsText t j → Finds f s → (LeavesTexts t f ⊎ ActsOnTexts t s f) → StandOpen s n → ends_lease t j f ≡ true → 0 < n j
  ends_open s n f j text finds (inl leaves) h ends =
      let w : written_at f (leases_at t j) ≡ None = leaves (leases_at t j) (cell_of_leases t j text) in
      let b : ends_lease t j f ≡ false = no_turn t (λ x y. nat_lt y x) _ _ w in
      absurd (cc)
  ends_open s n f j text finds (inr a) h ends =
      let l = leases_at t j in
      let b : nat_lt (values (after f s) l) (values s l) ≡ true = sym (turned (λ x y. nat_lt y x) not_below f s a.made finds l) ∙ ends in
      let is = h.leases j text in
      grind (arith, nat_tests, b, is)

  pub ends_behind : (before behind : List Entry) (x : Entry) (s end : Store) (n : ℕ → ℕ) (j : ℕ) → IsText t j → IsLegal s (before ++ x ∷ behind) end → KeepToTexts t s (before ++ x ∷ behind) → StandOpen s n → ends_lease t j x.footprint ≡ true → 0 < open_leases t j (n j) before
  ends_behind [] behind x s end n j text legal keep h ends = ends_open s n x.footprint j text legal.0 keep.0 h ends
  ends_behind (y ∷ ys) behind x s end n j text legal keep h ends = ends_behind ys behind x (after y.footprint s) end _ j text legal.1 keep.1 (open_step s n y.footprint legal.0 keep.0 h) ends

  -- entries of operations keep to them
  pub operations_keep : (es : List Entry) (s end : Store) → IsLegal s es end → All (λ (x : Entry). LeavesTexts t x.footprint ⊎ IsTextOperation t x.footprint) es → KeepToTexts t s es
  operations_keep [] s end legal all = tt
  operations_keep (x ∷ xs) s end legal all = (by_kind (All-head Kind x xs all), operations_keep xs (after x.footprint s) end legal.1 (All-tail Kind x xs all))
    where
      Kind : Entry → Type 0
      Kind e = LeavesTexts t e.footprint ⊎ IsTextOperation t e.footprint

      by_kind : LeavesTexts t x.footprint ⊎ IsTextOperation t x.footprint → LeavesTexts t x.footprint ⊎ ActsOnTexts t s x.footprint
      by_kind (inl a) = inl a
      by_kind (inr a) = inr (acts t x.footprint s a legal.0)

-- at a burial no lease of the text is open
pub none_open : (t : Texts) (s m end : Store) (before behind : List Entry) (j : ℕ) (x : Entry) → IsLegal s before m → IsLegal s (before ++ x ∷ behind) end → AreZero t (values s) → KeepToTexts t s before → IsText t j → Answers (text_meaning (op t (act.Bury j))) (answer.Reply reply.Unit) x.footprint → open_leases t j 0 before ≡ 0
none_open t s m end before behind j x first legal zeros keep text answers =
    let stand = open_behind t before s m (λ i. 0) first keep (opened_none t s zeros) in
    let says = says_there t (act.Bury j) (answer.Reply reply.Unit) x.footprint m answers (finds_behind s m end before behind x first legal) in
    sym (stand.leases j text) ∙ says.1
