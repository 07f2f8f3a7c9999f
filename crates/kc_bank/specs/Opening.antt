-- What the bank's cells open with.
use Rattle.std.specs.Prelude.{ℕ, List, [], ◌∷◌, ◌++◌, map}
use Rattle.std.specs.List.{range_with_len}
use Rattle.kc_hash.specs.Content.{hash_opening}
use Rattle.kc_hash.specs.Meaning.{hash_cells}
use Rattle.kc_hash.specs.declared.Hash.{Hash}
use Rattle.kc_queue.specs.Meaning.{queue_cells, queue_opening}
use Rattle.kc_queue.specs.declared.Queue.{Queue}

-- the values of these many cells
abbrev pub cell_values : (ℕ → ℕ) → ℕ → List ℕ
cell_values opening cells = map opening (range_with_len 0 cells)

abbrev pub no_accounts : Hash → List ℕ
no_accounts accounts = cell_values (hash_opening accounts) (hash_cells accounts)

abbrev pub empty_line : Queue → List ℕ
empty_line line = cell_values (queue_opening line) (queue_cells line)

-- no payout was made, there are no accounts, and both lines are empty
abbrev pub empty_bank : Hash → Queue → Queue → List ℕ
empty_bank accounts line urgent =
    0 ∷ [] ++ no_accounts accounts ++ empty_line line ++ empty_line urgent
