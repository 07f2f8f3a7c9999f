-- What the operations on a shelf mean, for every content of their cells.
use Rattle.std.specs.Prelude.{ℕ, ◌+◌, ◌-◌, ◌*◌, ◌/◌, ◌%◌, ◌<◌, ◌≤◌, ◌==◌, ◌&&◌, nat_lt, false, cond}
use Rattle.kc_model.specs.declared.plain_store.TheConstants.{MOST_LOCATIONS}
use Rattle.kc_model.specs.declared.reply.Reply.{Reply}
use Rattle.kc_model.specs.declared.reply.Reply.TheVariants as reply
use Rattle.kc_shelf.specs.declared.operation.ShelfAct.{ShelfAct}
use Rattle.kc_shelf.specs.declared.operation.ShelfAct.TheVariants as act
use Rattle.kc_shelf.specs.declared.operation.ShelfOp.{ShelfOp}
use Rattle.kc_shelf.specs.declared.shelf.TheConstants.{MOST_NAMES}
use Rattle.kc_shelf.specs.declared.shelf.Shelf.{Shelf}
use Rattle.kc_xt.specs.Meaning.{Meaning}
use Rattle.kc_xt.specs.Program.{Program, read, write, replies, meaning}

abbrev pub shelf_cells : Shelf → ℕ
shelf_cells t = 1 + 3 * t.slots

abbrev pub shelf_cells_end : Shelf → ℕ
shelf_cells_end t = t.base.0 + shelf_cells t

abbrev pub IsSlot : Shelf → ℕ → Type 0
IsSlot t n = (1 ≤ n) × (n ≤ t.slots)

abbrev pub head_at : Shelf → ℕ
head_at t = t.base.0

abbrev pub next_at : Shelf → ℕ → ℕ
next_at t n = t.base.0 + 1 + 3 * (n - 1)

abbrev pub life_at : Shelf → ℕ → ℕ
life_at t n = t.base.0 + 1 + 3 * (n - 1) + 1

abbrev pub count_at : Shelf → ℕ → ℕ
count_at t n = t.base.0 + 1 + 3 * (n - 1) + 2

abbrev pub first_free : Shelf → ℕ → ℕ
first_free t h = cond (nat_lt t.slots h) 0 h

-- each slot free, and the next one behind it
abbrev pub shelf_opening : Shelf → ℕ → ℕ
shelf_opening t index = cond (index == 0) 1 (cond (index % 3 == 1 && nat_lt (index / 3 + 1) t.slots) (index / 3 + 2) 0)

-- ---- tickets

abbrev pub slot_of : Shelf → ℕ → ℕ
slot_of t v = v % (t.slots + 1)

abbrev pub life_of : Shelf → ℕ → ℕ
life_of t v = v / (t.slots + 1)

abbrev pub ticket_of : Shelf → (slot life : ℕ) → ℕ
ticket_of t n l = l * (t.slots + 1) + n

-- with one more, a ticket would have more than 32 bits
abbrev pub last_life : Shelf → ℕ
last_life t = (4294967295 - t.slots) / (t.slots + 1)

abbrev pub IsTicket : Shelf → ℕ → Type 0
IsTicket t v = IsSlot t (slot_of t v)

-- ---- the operations

abbrev pub begin_life : Shelf → (slot life : ℕ) → (Reply → Program) → Program
begin_life t n l k = write (life_at t n) (l + 1) (write (count_at t n) 1 (k (reply.Value (ticket_of t n (l + 1)))))

abbrev pub reserve_program : Shelf → (Reply → Program) → Program
reserve_program t k =
    read (head_at t) (λ h. cond (first_free t h == 0) (k reply.Empty)
    (read (next_at t (first_free t h)) (λ x. read (life_at t (first_free t h)) (λ l. read (count_at t (first_free t h)) (λ c.
    cond (c == 0) (cond (nat_lt l (last_life t)) (write (head_at t) x (begin_life t (first_free t h) l k)) (k reply.Full)) (k reply.Full))))))

abbrev pub shelf_renew_program : Shelf → (ticket : ℕ) → (Reply → Program) → Program
shelf_renew_program t v k =
    read (life_at t (slot_of t v)) (λ l. cond (l == life_of t v)
    (read (count_at t (slot_of t v)) (λ c. cond (c == 0) (cond (nat_lt l (last_life t)) (begin_life t (slot_of t v) l k) (k reply.Full)) (k (reply.Bool false))))
    (k (reply.Bool false)))

abbrev pub shelf_name_program : Shelf → (ticket : ℕ) → (Reply → Program) → Program
shelf_name_program t v k =
    read (life_at t (slot_of t v)) (λ l. cond (l == life_of t v)
    (read (count_at t (slot_of t v)) (λ c. cond (c == 0) (k (reply.Bool false)) (cond (c == MOST_NAMES) (k reply.Full) (write (count_at t (slot_of t v)) (c + 1) (k reply.Unit)))))
    (k (reply.Bool false)))

abbrev pub name_at_program : Shelf → (place : ℕ) → (Reply → Program) → Program
name_at_program t p k =
    read p (λ v. cond (slot_of t v == 0) (k reply.Empty)
    (read (life_at t (slot_of t v)) (λ l. cond (l == life_of t v)
    (read (count_at t (slot_of t v)) (λ c. cond (c == 0) (k reply.Empty) (cond (c == MOST_NAMES) (k reply.Full) (write (count_at t (slot_of t v)) (c + 1) (k (reply.Value v))))))
    (k reply.Empty))))

abbrev pub drop_program : Shelf → (ticket : ℕ) → (Reply → Program) → Program
drop_program t v k =
    read (life_at t (slot_of t v)) (λ l. cond (l == life_of t v)
    (read (count_at t (slot_of t v)) (λ c. cond (c == 0) (k (reply.Bool false)) (write (count_at t (slot_of t v)) (c - 1) (cond (c == 1) (k reply.Empty) (k reply.Unit)))))
    (k (reply.Bool false)))

abbrev pub free_program : Shelf → (ticket : ℕ) → (Reply → Program) → Program
free_program t v k =
    read (life_at t (slot_of t v)) (λ l. cond (l == life_of t v)
    (read (count_at t (slot_of t v)) (λ c. cond (c == 0) (cond (nat_lt l (last_life t)) (read (head_at t) (λ h. write (next_at t (slot_of t v)) h (write (head_at t) (slot_of t v) (k reply.Unit)))) (k reply.Empty)) (k (reply.Bool false))))
    (k (reply.Bool false)))

abbrev pub shelf_program : Shelf → ShelfAct → (Reply → Program) → Program
shelf_program t act.Reserve k = reserve_program t k
shelf_program t (act.Renew v) k = shelf_renew_program t v k
shelf_program t (act.Name v) k = shelf_name_program t v k
shelf_program t (act.NameAt p) k = name_at_program t p.0 k
shelf_program t (act.Drop v) k = drop_program t v k
shelf_program t (act.Free v) k = free_program t v k

abbrev pub shelf_meaning : ShelfOp → Meaning
shelf_meaning o = meaning (shelf_program o.shelf o.act replies)

-- ---- which are fit, and where they lie

abbrev pub IsFitShelfAct : Shelf → ShelfAct → Type 0
IsFitShelfAct t act.Reserve = Unit {0}
IsFitShelfAct t (act.Renew v) = IsTicket t v
IsFitShelfAct t (act.Name v) = IsTicket t v
IsFitShelfAct t (act.NameAt p) = p.0 < MOST_LOCATIONS
IsFitShelfAct t (act.Drop v) = IsTicket t v
IsFitShelfAct t (act.Free v) = IsTicket t v

abbrev pub IsFitShelfOp : ShelfOp → Type 0
IsFitShelfOp o = IsFitShelfAct o.shelf o.act

abbrev pub act_end : Shelf → ShelfAct → ℕ
act_end t (act.NameAt p) = cond (nat_lt p.0 (shelf_cells_end t)) (shelf_cells_end t) (cond (nat_lt p.0 MOST_LOCATIONS) (p.0 + 1) MOST_LOCATIONS)
act_end t _ = shelf_cells_end t

abbrev pub shelf_end : ShelfOp → ℕ
shelf_end o = act_end o.shelf o.act

abbrev pub shelf_op : Shelf → ShelfAct → ShelfOp
shelf_op t a = record { shelf = t; act = a }
