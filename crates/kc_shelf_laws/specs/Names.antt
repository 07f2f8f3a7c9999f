-- Who has names of a ticket, as the entries of a history tell: callers in hand, and locations.
use Rattle.std.specs.Prelude.{◌≡◌, ℕ, zero, suc, ◌+◌, ◌-◌, ◌≤◌, ◌==◌, cond, List, [], ◌∷◌}
use Rattle.kc_model.specs.declared.footprint.Entry.{Entry}
use Rattle.kc_model.specs.declared.footprint.Footprint.{Footprint}
use Rattle.kc_shelf.specs.Meaning.{IsTicket}
use Rattle.kc_shelf.specs.declared.shelf.Shelf.{Shelf}
use Rattle.kc_shelf_laws.specs.Lives.{KeepsLives, values_left, ticket_names, values_seen}

-- how many of these locations hold a ticket
abbrev pub places_of : List ℕ → (ℕ → ℕ) → (ticket : ℕ) → ℕ
places_of [] m v = 0
places_of (l ∷ ls) m v = cond (m l == v) 1 0 + places_of ls m v

-- By an entry its caller gains each name that the count gains and each that a place loses, and gives each that the count loses and each that a place gains; what stays stands on both sides.
abbrev pub names_gained : Shelf → List ℕ → Footprint → (ticket : ℕ) → ℕ
names_gained t ps f v = ticket_names t (values_left f) v + places_of ps (values_seen f) v

abbrev pub names_given : Shelf → List ℕ → Footprint → (ticket : ℕ) → ℕ
names_given t ps f v = ticket_names t (values_seen f) v + places_of ps (values_left f) v

-- how many names are in hand behind an entry, of so many before
abbrev pub in_hand_behind : Shelf → List ℕ → Footprint → (ticket held : ℕ) → ℕ
in_hand_behind t ps f v n = (n + names_gained t ps f v) - names_given t ps f v

-- it gives no more than it has and gains
abbrev pub GivesItsOwn : Shelf → List ℕ → (ℕ → ℕ) → Footprint → Type 0
GivesItsOwn t ps held f = (v : ℕ) → IsTicket t v → names_given t ps f v ≤ held v + names_gained t ps f v

-- ---- one caller

-- a caller's own entries, in order, where it has so many names in hand before them
abbrev pub CallerKeepsNames : Shelf → List ℕ → (ℕ → ℕ) → List Entry → Type 0
CallerKeepsNames t ps held [] = Unit {0}
CallerKeepsNames t ps held (e ∷ es) = KeepsLives t e.footprint × GivesItsOwn t ps held e.footprint × CallerKeepsNames t ps (λ v. in_hand_behind t ps e.footprint v (held v)) es

-- ---- all callers

-- what each caller has in hand of each ticket, behind an entry and behind some
abbrev pub hands_behind : Shelf → List ℕ → Entry → (ℕ → ℕ → ℕ) → ℕ → ℕ → ℕ
hands_behind t ps e held k v = cond (e.caller == k) (in_hand_behind t ps e.footprint v (held k v)) (held k v)

abbrev pub hands : Shelf → List ℕ → (ℕ → ℕ → ℕ) → List Entry → ℕ → ℕ → ℕ
hands t ps held [] = held
hands t ps held (e ∷ es) = hands t ps (hands_behind t ps e held) es

abbrev pub empty_hand : ℕ → ℕ
empty_hand v = 0

abbrev pub empty_hands : ℕ → ℕ → ℕ
empty_hands k = empty_hand

-- the entries keep lives, and each gives what its caller has
abbrev pub KeepNames : Shelf → List ℕ → (ℕ → ℕ → ℕ) → List Entry → Type 0
KeepNames t ps held [] = Unit {0}
KeepNames t ps held (e ∷ es) = KeepsLives t e.footprint × GivesItsOwn t ps (held e.caller) e.footprint × KeepNames t ps (hands_behind t ps e held) es

-- what the callers below n have in hand
abbrev pub all_hands : ℕ → (ℕ → ℕ → ℕ) → (ticket : ℕ) → ℕ
all_hands zero held v = 0
all_hands (suc n) held v = held n v + all_hands n held v

-- the count of each ticket is the names of callers and of places
abbrev pub NamesAre : Shelf → List ℕ → (callers : ℕ) → (ℕ → ℕ) → (ℕ → ℕ → ℕ) → Type 0
NamesAre t ps n m held = (v : ℕ) → IsTicket t v → ticket_names t m v ≡ all_hands n held v + places_of ps m v

-- no ticket has a name, and no place holds one
abbrev pub HasNoNames : Shelf → List ℕ → (ℕ → ℕ) → Type 0
HasNoNames t ps m = (v : ℕ) → IsTicket t v → (ticket_names t m v ≡ 0) × (places_of ps m v ≡ 0)
