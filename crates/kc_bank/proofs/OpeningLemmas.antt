use Rattle.std.proofs.Common.{◌≡◌, ◌∙◌, ◌+◌, ◌<◌, ◌∷◌, ◌++◌, ℕ, zero, suc, List, [], ap, append_assoc, arith, get_or, length, length-append, refl, subst, sym}
use Rattle.std.proofs.Math.ListN.{get_or-append}
use Rattle.std.proofs.lemmas.List.{get_or-append-add}
use Rattle.std.proofs.lemmas.List.FromFn.{get_or-map-range_with_len, length-map-range_with_len, map-range_with_len_more}
use Rattle.kc_bank.specs.Opening.{empty_bank, empty_line, no_accounts, cell_values}
use Rattle.kc_hash.specs.Content.{hash_opening}
use Rattle.kc_hash.specs.Meaning.{hash_cells}
use Rattle.kc_hash.specs.declared.Hash.{Hash}
use Rattle.kc_model.specs.Store.{opened, store_of}
use Rattle.kc_queue.specs.Meaning.{queue_cells, queue_opening}
use Rattle.kc_queue.specs.declared.Queue.{Queue}
use Rattle.kc_xt.specs.Meaning.{values}
use Rattle.kc_xt.specs.Structure.{Opened}

-- one more value was added
pub values_more : (opening : ℕ → ℕ) (i : ℕ) (front before more : List ℕ) → before ≡ front ++ cell_values opening i →
    more ≡ before ++ opening i ∷ [] → more ≡ front ++ cell_values opening (i + 1)
values_more opening i front before more so_far e =
    e ∙ ap (λ xs. xs ++ opening i ∷ []) so_far ∙ append_assoc front (cell_values opening i) (opening i ∷ []) ∙
    ap (λ xs. front ++ xs) (sym (map-range_with_len_more opening 0 i i (omega arith)))

-- an opened store has the values, all at version 0
pub opened_value : (vs : List ℕ) (l : ℕ) → values (store_of (opened vs)) l ≡ get_or vs l 0
opened_value [] l = refl
opened_value (v ∷ vs) zero = refl
opened_value (v ∷ vs) (suc l) = opened_value vs l

pub opened_fresh : (vs : List ℕ) (l : ℕ) → (store_of (opened vs) l).version ≡ 0
opened_fresh [] l = refl
opened_fresh (v ∷ vs) zero = refl
opened_fresh (v ∷ vs) (suc l) = opened_fresh vs l

-- a structure's values stand behind what is in front of them
behind : (front : List ℕ) (opening : ℕ → ℕ) (n lo i : ℕ) → length front ≡ lo → i < n →
    get_or (front ++ cell_values opening n) (lo + i) 0 ≡ opening i
behind front opening n lo i at lt =
    subst (λ l. get_or (front ++ cell_values opening n) (l + i) 0 ≡ opening i) at
    (get_or-append-add front (cell_values opening n) i 0 ∙
    get_or-map-range_with_len opening 0 n i i 0 lt (omega arith))

long : (front : List ℕ) (opening : ℕ → ℕ) (n : ℕ) → length (front ++ cell_values opening n) ≡ length front + n
long front opening n = omega (arith, length-append front (cell_values opening n), length-map-range_with_len opening 0 n)

module _ (accounts : Hash) (line urgent : Queue) where
  abbrev to_accounts : List ℕ
  to_accounts = 0 ∷ [] ++ no_accounts accounts

  abbrev to_line : List ℕ
  to_line = to_accounts ++ empty_line line

  accounts_long : length to_accounts ≡ 1 + hash_cells accounts
  accounts_long = long (0 ∷ []) (hash_opening accounts) (hash_cells accounts)

  line_long : length to_line ≡ 1 + hash_cells accounts + queue_cells line
  line_long = omega (arith, accounts_long, long to_accounts (queue_opening line) (queue_cells line))

  pub accounts_opened : accounts.base.0 ≡ 1 →
      Opened accounts.base.0 (hash_cells accounts) (hash_opening accounts) (values (store_of (opened (empty_bank accounts line urgent))))
  accounts_opened at i lt =
      opened_value (empty_bank accounts line urgent) (accounts.base.0 + i) ∙
      get_or-append to_line (empty_line urgent) 0 (accounts.base.0 + i) (omega (arith, line_long)) ∙
      get_or-append to_accounts (empty_line line) 0 (accounts.base.0 + i) (omega (arith, accounts_long)) ∙
      behind (0 ∷ []) (hash_opening accounts) (hash_cells accounts) accounts.base.0 i (sym at) lt

  pub line_opened : line.base.0 ≡ 1 + hash_cells accounts →
      Opened line.base.0 (queue_cells line) (queue_opening line) (values (store_of (opened (empty_bank accounts line urgent))))
  line_opened at i lt =
      opened_value (empty_bank accounts line urgent) (line.base.0 + i) ∙
      get_or-append to_line (empty_line urgent) 0 (line.base.0 + i) (omega (arith, line_long)) ∙
      behind to_accounts (queue_opening line) (queue_cells line) line.base.0 i (accounts_long ∙ sym at) lt

  pub urgent_opened : urgent.base.0 ≡ 1 + hash_cells accounts + queue_cells line →
      Opened urgent.base.0 (queue_cells urgent) (queue_opening urgent) (values (store_of (opened (empty_bank accounts line urgent))))
  urgent_opened at i lt =
      opened_value (empty_bank accounts line urgent) (urgent.base.0 + i) ∙
      behind to_line (queue_opening urgent) (queue_cells urgent) urgent.base.0 i (line_long ∙ sym at) lt
