-- The lives and names of slots, and what an entry makes of them.
use Rattle.std.specs.Prelude.{◌≡◌, ℕ, ◌+◌, ◌<◌, ◌==◌, ◌⊎◌, cond, List, ◌∷◌, ◌++◌, Option, Some, None}
use Rattle.kc_model.specs.Footprint.{IsWellMade, put_at, read_at}
use Rattle.kc_model.specs.Legal.{IsLegal}
use Rattle.kc_model.specs.Store.{Store, Finds, after}
use Rattle.kc_model.specs.declared.footprint.Entry.{Entry}
use Rattle.kc_model.specs.declared.footprint.Footprint.{Footprint}
use Rattle.kc_model.specs.declared.footprint.Put.{Put}
use Rattle.kc_model.specs.declared.footprint.Seen.{Seen}
use Rattle.kc_model.specs.declared.reply.Reply.{Reply}
use Rattle.kc_model.specs.declared.reply.Reply.TheVariants as reply
use Rattle.kc_shelf.specs.Meaning.{IsSlot, IsTicket, count_at, life_at, life_of, slot_of}
use Rattle.kc_shelf.specs.declared.operation.ShelfAct.{ShelfAct}
use Rattle.kc_shelf.specs.declared.operation.ShelfAct.TheVariants as act
use Rattle.kc_shelf.specs.declared.shelf.Shelf.{Shelf}
use Rattle.kc_xt.specs.Meaning.{values}

-- ---- where these values stand

-- how many names a ticket has: the count of its slot, while that is in its life
abbrev pub ticket_names : Shelf → (ℕ → ℕ) → (ticket : ℕ) → ℕ
ticket_names t m v = cond (m (life_at t (slot_of t v)) == life_of t v) (m (count_at t (slot_of t v))) 0

-- its life hasn't begun; is over: a later one has begun, or it has no name left
abbrev pub IsToCome : Shelf → (ℕ → ℕ) → (ticket : ℕ) → Type 0
IsToCome t m v = m (life_at t (slot_of t v)) < life_of t v

abbrev pub IsOver : Shelf → (ℕ → ℕ) → (ticket : ℕ) → Type 0
IsOver t m v = (life_of t v < m (life_at t (slot_of t v))) ⊎ ((m (life_at t (slot_of t v)) ≡ life_of t v) × (m (count_at t (slot_of t v)) ≡ 0))

-- from such a life and count of a slot to such: the life stays, and a count of 0 does; or a later life begins, where the count was 0
abbrev pub Turns : (life count later then : ℕ) → Type 0
Turns l c k d = ((k ≡ l) × (c ≡ 0 → d ≡ 0)) ⊎ ((l < k) × (c ≡ 0))

abbrev pub SlotsTurn : Shelf → (ℕ → ℕ) → (ℕ → ℕ) → Type 0
SlotsTurn t m w = (n : ℕ) → IsSlot t n → Turns (m (life_at t n)) (m (count_at t n)) (w (life_at t n)) (w (count_at t n))

-- ---- of an entry

abbrev pub value_seen : Option Seen → ℕ
value_seen None = 0
value_seen (Some r) = r.value

abbrev pub value_put : Option Put → ℕ → ℕ
value_put None n = n
value_put (Some p) n = p.after

-- what a footprint read, and what it left, by locations; 0 where it read nothing
abbrev pub values_seen : Footprint → ℕ → ℕ
values_seen f l = value_seen (read_at f.reads.items l)

abbrev pub values_left : Footprint → ℕ → ℕ
values_left f l = value_put (put_at f.puts.items l) (values_seen f l)

-- wherever it is found, slots turn so, and the names of each ticket change as in what it saw
pub record KeepsLives (t : Shelf) (f : Footprint) : Type 0 where
  pub made : IsWellMade f
  pub turns : (s : Store) → Finds f s → SlotsTurn t (values s) (values (after f s))
  pub names : (s : Store) → Finds f s → (v : ℕ) → IsTicket t v → ticket_names t (values (after f s)) v + ticket_names t (values_seen f) v ≡ ticket_names t (values s) v + ticket_names t (values_left f) v

-- ---- by operations and replies

-- the ticket whose life an operation begins that replied so
abbrev pub life_begun : ShelfAct → Reply → Option ℕ
life_begun act.Reserve (reply.Value v) = Some v
life_begun (act.Renew w) (reply.Value v) = Some v
life_begun a r = None

-- the ticket that has a name more, and the one that has a name less
abbrev pub name_had : ShelfAct → Reply → Option ℕ
name_had act.Reserve (reply.Value v) = Some v
name_had (act.Renew w) (reply.Value v) = Some v
name_had (act.Name v) reply.Unit = Some v
name_had (act.NameAt p) (reply.Value v) = Some v
name_had a r = None

abbrev pub name_lost : ShelfAct → Reply → Option ℕ
name_lost (act.Drop v) reply.Unit = Some v
name_lost (act.Drop v) reply.Empty = Some v
name_lost a r = None

-- 1 for this ticket
abbrev pub one_of : Option ℕ → (ticket : ℕ) → ℕ
one_of None v = 0
one_of (Some w) v = cond (w == v) 1 0

-- an operation that replied so leads from these values to those
pub record ActTurns (t : Shelf) (a : ShelfAct) (r : Reply) (m w : ℕ → ℕ) : Type 0 where
  pub turns : SlotsTurn t m w
  pub names : (v : ℕ) → IsTicket t v → ticket_names t w v + one_of (name_lost a r) v ≡ ticket_names t m v + one_of (name_had a r) v
  pub begins : (v : ℕ) → IsTicket t v → life_begun a r ≡ Some v → IsToCome t m v
  pub begun : (v : ℕ) → IsTicket t v → life_begun a r ≡ Some v → w (life_at t (slot_of t v)) ≡ life_of t v
  pub ends : (v : ℕ) → a ≡ act.Drop v → r ≡ reply.Empty → IsOver t w v

-- one of these entries, from this store on, finds names of the ticket and leaves it over
pub record EndsAtOne (t : Shelf) (s : Store) (es : List Entry) (v : ℕ) : Type 0 where
  pub before : List Entry
  pub last : Entry
  pub behind : List Entry
  pub is : es ≡ before ++ last ∷ behind
  pub store : Store
  pub legal : IsLegal s before store
  pub named : 0 < ticket_names t (values store) v
  pub over : IsOver t (values (after last.footprint store)) v
