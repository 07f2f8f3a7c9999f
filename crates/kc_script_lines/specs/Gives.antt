-- What a function that reads lines returned, beside what the grammar gives.
use Rattle.std.specs.Prelude.{◌≡◌, Result, Ok, Err}
use Rattle.kc_script_lines.specs.declared.complaint.Complaint.{Complaint}
use Rattle.kc_script_lines.specs.declared.complaint.Complaint.TheVariants as complaint
use Rattle.kc_script_lines.specs.declared.fault.Why.{Why}

-- it stopped for what the grammar finds wrong, or for want of memory
abbrev pub Fails : {Y : Type 0} → Complaint → Result Y Why → Type 0
Fails complaint.NoMemory read = Unit {0}
Fails (complaint.Here why) read = read ≡ Err why

-- what it returned, seen by view, is what the grammar gives
abbrev pub GivesAsGrammar : {X Y : Type 0} → (X → Y) → Result X Complaint → Result Y Why → Type 0
GivesAsGrammar view (Ok x) read = read ≡ Ok (view x)
GivesAsGrammar view (Err e) read = Fails e read

-- what a function that takes no memory returned, seen by view, is what the grammar gives
abbrev pub ReadsAsGrammar : {X Y : Type 0} → (X → Y) → Result X Why → Result Y Why → Type 0
ReadsAsGrammar view (Ok x) read = read ≡ Ok (view x)
ReadsAsGrammar view (Err e) read = read ≡ Err e

-- it brought a reader to the state that the grammar gives
abbrev pub Reaches : {X Y : Type 0} → Y → Result X Complaint → Result Y Why → Type 0
Reaches new (Ok x) read = read ≡ Ok new
Reaches new (Err e) read = Fails e read

-- it brought a reader there, and takes no memory
abbrev pub Arrives : {X Y : Type 0} → Y → Result X Why → Result Y Why → Type 0
Arrives new (Ok x) read = read ≡ Ok new
Arrives new (Err e) read = read ≡ Err e
