-- What the calls that open and close answer.
use Rattle.std.specs.Prelude.{◌≡◌, ℕ, ◌<◌, ◌⊎◌, false, List, length}
use Rattle.kc_c.specs.Clients.{OpensAll, some_open}
use Rattle.kc_c.specs.declared.answers.TheConstants.{DONE, BAD_SIZE, NO_MEMORY}
use Rattle.kc_c.specs.declared.handle.KcasCaller.{KcasCaller}
use Rattle.kc_hang.specs.kc_machine.declared.machine.TheConstants.{MOST_CALLERS}
use Rattle.kc_model.specs.declared.errors.OpenError.{OpenError}
use Rattle.kc_model.specs.declared.errors.OpenError.TheVariants as failed
use Rattle.kc_model.specs.declared.plain_store.TheConstants.{MOST_LOCATIONS}

-- too many values, no handle, or too many
abbrev pub IsBadSize : List ℕ → List KcasCaller → Type 0
IsBadSize values handles = (MOST_LOCATIONS < length values) ⊎ ((length handles ≡ 0) ⊎ (MOST_CALLERS < length handles))

-- a store was opened, or there was no memory: then no handle is open
abbrev pub OpensStore : List ℕ → ℕ → List KcasCaller → Type 0
OpensStore values n new = ((n ≡ DONE) × OpensAll values new) ⊎ ((n ≡ NO_MEMORY) × (some_open new ≡ false))

abbrev pub number_of_error : OpenError → ℕ
number_of_error failed.NoMemory = NO_MEMORY
number_of_error failed.TooManyLocs = BAD_SIZE
number_of_error failed.TooManyCallers = BAD_SIZE
