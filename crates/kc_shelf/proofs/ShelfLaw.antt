-- Each operation's program keeps below its end, and touches a cell before it retries.
use Rattle.std.proofs.Common.{◌≡◌, ℕ, ◌+◌, ◌<◌, ◌≤◌, true, false, cond, arith, mod-lt}
use Rattle.std.specs.Prelude.{Result, ◌==◌, nat_lt}
use Rattle.std.proofs.lemmas.Bool.Decides.{nat_tests}
use Rattle.kc_model.specs.declared.plain_store.TheConstants.{MOST_LOCATIONS}
use Rattle.kc_model.specs.declared.reply.Reply.{Reply}
use Rattle.kc_shelf.specs.Meaning.{IsFitShelfOp, IsFitShelfAct, IsSlot, IsTicket, act_end, begin_life, count_at, first_free, head_at, last_life, life_at, life_of, next_at, shelf_cells_end, shelf_end, shelf_meaning, shelf_program, slot_of}
use Rattle.kc_shelf.specs.declared.operation.ShelfAct.{ShelfAct}
use Rattle.kc_shelf.specs.declared.operation.ShelfAct.TheVariants as act
use Rattle.kc_shelf.specs.declared.operation.ShelfOp.{ShelfOp}
use Rattle.kc_shelf.specs.declared.shelf.TheConstants.{MOST_NAMES}
use Rattle.kc_shelf.specs.declared.shelf.Shelf.{Shelf}
use Rattle.kc_xt.proofs.Laws.{TouchesFirst}
use Rattle.kc_xt.proofs.Stay.{stays_if, stays_test, stays_law}
use Rattle.kc_xt.specs.Law.{Obeys}
use Rattle.kc_xt.specs.Log.{Log}
use Rattle.kc_xt.specs.Peeks.{Gives}
use Rattle.kc_xt.specs.Program.{replies}
use Rattle.kc_xt.specs.Stays.{Stays}
use Rattle.kc_xt.specs.Steps.{Does}
use Rattle.kc_xt.specs.declared.stop.Stop.{Stop}

pub is_below : (a b : ℕ) → a < b → nat_lt a b ≡ true
is_below a b h = grind (arith, nat_tests, h)

pub isnt_below : (a b : ℕ) → b ≤ a → nat_lt a b ≡ false
isnt_below a b h = grind (arith, nat_tests, h)

module _ (t : Shelf) where
  -- a number that isn't 0 names a slot
  pub slot_some : (h : ℕ) → (first_free t h == 0) ≡ false → IsSlot t (first_free t h)
  slot_some h e = (grind (arith, nat_tests), grind (arith, nat_tests))

  pub is_slot : (n : ℕ) → n < t.slots + 1 → (n == 0) ≡ false → IsSlot t n
  is_slot n lt e = (grind (arith, nat_tests, e), omega (arith, lt))

  pub slot_in : (v : ℕ) → (slot_of t v == 0) ≡ false → IsTicket t v
  slot_in v e = is_slot (slot_of t v) (mod-lt v (omega arith)) e

  next_hi : (n : ℕ) → IsSlot t n → next_at t n < shelf_cells_end t
  next_hi n h = omega arith

  life_hi : (n : ℕ) → IsSlot t n → life_at t n < shelf_cells_end t
  life_hi n h = omega arith

  count_hi : (n : ℕ) → IsSlot t n → count_at t n < shelf_cells_end t
  count_hi n h = omega arith

  head_hi : head_at t < shelf_cells_end t
  head_hi = omega arith

  -- the end of a name at a place is above the cells and above the place
  end_ge : (p e : ℕ) → p < MOST_LOCATIONS → e ≤ cond (nat_lt p e) e (cond (nat_lt p MOST_LOCATIONS) (p + 1) MOST_LOCATIONS)
  end_ge p e h = grind (arith, nat_tests, h)

  end_above : (p e : ℕ) → p < MOST_LOCATIONS → p < cond (nat_lt p e) e (cond (nat_lt p MOST_LOCATIONS) (p + 1) MOST_LOCATIONS)
  end_above p e h = grind (arith, nat_tests, h)

  less : {a b c : ℕ} → a < b → b ≤ c → a < c
  less h g = omega (arith, h, g)

  -- what begins a life
  begins : (n l : ℕ) → IsSlot t n → Stays 0 (shelf_cells_end t) (begin_life t n l replies)
  begins n l s = (omega arith, life_hi n s, (omega arith, count_hi n s, tt))

  act_stays : (a : ShelfAct) → IsFitShelfAct t a → Stays 0 (act_end t a) (shelf_program t a replies)
  act_stays act.Reserve fit = (
    omega arith,
    head_hi,
    λ h. stays_test _ _ (first_free t h == 0) _ _ (λ _. tt) (λ e. let s = slot_some h e in (
      omega arith,
      next_hi _ s,
      λ x. (
        omega arith,
        life_hi _ s,
        λ l. (
          omega arith,
          count_hi _ s,
          λ c. stays_if _ _ (c == 0) _ _
              (stays_if _ _ (nat_lt l (last_life t)) _ _ (omega arith, head_hi, begins (first_free t h) l s) tt) tt,
        ),
      ),
    )),
  )
  act_stays (act.Renew v) fit = (
    omega arith,
    life_hi (slot_of t v) fit,
    λ l. stays_if _ _ (l == life_of t v) _ _ (
      omega arith,
      count_hi (slot_of t v) fit,
      λ c. stays_if _ _ (c == 0) _ _
          (stays_if _ _ (nat_lt l (last_life t)) _ _ (begins (slot_of t v) l fit) tt) tt,
    ) tt,
  )
  act_stays (act.Name v) fit = (
    omega arith,
    life_hi (slot_of t v) fit,
    λ l. stays_if _ _ (l == life_of t v) _ _
        (omega arith, count_hi (slot_of t v) fit, λ c. stays_if _ _ (c == 0) _ _ tt (stays_if _ _ (c == MOST_NAMES) _ _ tt (omega arith, count_hi (slot_of t v) fit, tt))) tt,
  )
  act_stays (act.NameAt p) fit =
      let ge = end_ge p.0 (shelf_cells_end t) fit in (
        omega arith,
        end_above p.0 (shelf_cells_end t) fit,
        λ v. stays_test _ _ (slot_of t v == 0) _ _ (λ _. tt) (λ e. let s = slot_in v e in (
          omega arith,
          less (life_hi (slot_of t v) s) ge,
          λ l. stays_if _ _ (l == life_of t v) _ _
              (omega arith, less (count_hi (slot_of t v) s) ge, λ c. stays_if _ _ (c == 0) _ _ tt (stays_if _ _ (c == MOST_NAMES) _ _ tt (omega arith, less (count_hi (slot_of t v) s) ge, tt))) tt,
        )),
      )
  act_stays (act.Drop v) fit = (
    omega arith,
    life_hi (slot_of t v) fit,
    λ l. stays_if _ _ (l == life_of t v) _ _
        (omega arith, count_hi (slot_of t v) fit, λ c. stays_if _ _ (c == 0) _ _ tt (omega arith, count_hi (slot_of t v) fit, stays_if _ _ (c == 1) _ _ tt tt)) tt,
  )
  act_stays (act.Free v) fit = (
    omega arith,
    life_hi (slot_of t v) fit,
    λ l. stays_if _ _ (l == life_of t v) _ _ (
      omega arith,
      count_hi (slot_of t v) fit,
      λ c. stays_if _ _ (c == 0) _ _
          (stays_if _ _ (nat_lt l (last_life t)) _ _ (omega arith, head_hi, λ h. (omega arith, next_hi (slot_of t v) fit, (omega arith, head_hi, tt))) tt) tt,
    ) tt,
  )

act_first : (t : Shelf) (a : ShelfAct) → TouchesFirst (shelf_program t a replies)
act_first t act.Reserve = tt
act_first t (act.Renew v) = tt
act_first t (act.Name v) = tt
act_first t (act.NameAt p) = tt
act_first t (act.Drop v) = tt
act_first t (act.Free v) = tt

-- what does its program obeys the law
pub shelf_law : {P : Type 0} (gives : Gives P) (o : ShelfOp) {x y : Log P} (r : Result Reply Stop) → IsFitShelfOp o → Does gives (shelf_program o.shelf o.act) x r y → Obeys gives (shelf_meaning o) (shelf_end o) x r y
shelf_law gives o r fit d = stays_law _ _ gives (shelf_program o.shelf o.act) (act_stays o.shelf o.act fit) (act_first o.shelf o.act) r d
