-- As a shelf opens nothing is named.
use Rattle.std.proofs.Common.{◌≡◌, ℕ, zero, suc, ◌+◌, ◌-◌, ◌*◌, ◌%◌, ◌<◌, Bool, true, false, cond, List, [], ◌∷◌, refl, sym, ap, ◌∙◌, arith}
use Rattle.std.specs.Prelude.{◌==◌, Contains}
use Rattle.std.proofs.lemmas.Bool.Decides.{nat_tests}
use Rattle.kc_shelf.specs.Meaning.{IsTicket, count_at, life_at, life_of, shelf_cells, shelf_opening, slot_of}
use Rattle.kc_shelf.specs.declared.shelf.Shelf.{Shelf}
use Rattle.kc_shelf_laws.specs.Names.{HasNoNames, places_of}

-- a number that three divides opens with 0, but for the head
third_opens : (t : Shelf) (k : ℕ) → shelf_opening t (3 * k + 3) ≡ 0
third_opens t k =
    let first : (3 * k + 3 == 0) ≡ false = grind (arith, nat_tests) in
    let rest : (3 * k + 3) % 3 ≡ 0 = omega arith in
    let next : ((3 * k + 3) % 3 == 1) ≡ false = grind (arith, nat_tests, rest) in
    rw (first, next) refl

none_there : (ps : List ℕ) (m : ℕ → ℕ) (v : ℕ) → 0 < v → ((l : ℕ) → Contains ps l → m l ≡ 0) → places_of ps m v ≡ 0
none_there [] m v some zeros = refl
none_there (p ∷ ps) m v some zeros =
    let here : m p ≡ 0 = zeros p (zero, omega arith, refl) in
    let other : (m p == v) ≡ false = grind (arith, nat_tests, here, some) in
    let rest = none_there ps m v some (λ l h. zeros l (suc h.0, omega (arith, h.1), h.2)) in
    rw other (omega (arith, rest))

ticket_some : (t : Shelf) (v : ℕ) → IsTicket t v → 0 < v
ticket_some t zero ticket = absurd (omega arith)
ticket_some t (suc v) ticket = omega arith

pub opens : (t : Shelf) (ps : List ℕ) (m : ℕ → ℕ) → ((i : ℕ) → i < shelf_cells t → m (t.base.0 + i) ≡ shelf_opening t i) → ((l : ℕ) → Contains ps l → m l ≡ 0) → HasNoNames t ps m
opens t ps m cells zeros v ticket =
    let n = slot_of t v in
    let at : t.base.0 + (3 * (n - 1) + 3) ≡ count_at t n = omega (arith, ticket) in
    let count : m (count_at t n) ≡ 0 = sym (ap m at) ∙ cells (3 * (n - 1) + 3) (omega (arith, ticket)) ∙ third_opens t (n - 1) in
    (by_life (m (life_at t n) == life_of t v) count, none_there ps m v (ticket_some t v ticket) zeros)
  where
    by_life : (b : Bool) → m (count_at t (slot_of t v)) ≡ 0 → cond b (m (count_at t (slot_of t v))) 0 ≡ 0
    by_life true e = e
    by_life false e = refl
