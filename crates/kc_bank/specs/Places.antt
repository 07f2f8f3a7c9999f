use Rattle.std.specs.Prelude.{◌≤◌}
use Rattle.kc_bank.specs.declared.bank.TheConstants.{BANK_CELLS}
use Rattle.kc_hash.specs.Meaning.{hash_cells_end as accounts_end}
use Rattle.kc_hash.specs.declared.Hash.{Hash}
use Rattle.kc_queue.specs.Meaning.{queue_cells_end as line_end}
use Rattle.kc_queue.specs.declared.Queue.{Queue}

-- the table's cells are the bank's
abbrev pub AccountsWithin : Hash → Type 0
AccountsWithin accounts = accounts_end accounts ≤ BANK_CELLS

-- the line's cells are the bank's
abbrev pub LineWithin : Queue → Type 0
LineWithin line = line_end line ≤ BANK_CELLS
