-- Why bytes are refused.
use Rattle.std.specs.Prelude.{◌≡◌, ℕ, List, Some}
use Rattle.kc_script_lines.specs.declared.fault.ScriptError.{ScriptError}
use Rattle.kc_script_lines.specs.declared.fault.ScriptError.TheVariants as error
use Rattle.kc_script.specs.FirstFault.{first_fault}
use Rattle.kc_script.specs.Spells.{Spells}
use Rattle.kc_script_bundle.specs.Script.{Script}

-- they spell no script
abbrev pub SpellNone : List ℕ → Type 0
SpellNone bytes = (s : Script) → Spells bytes s → ⊥

-- a fault is their first, and they spell no script; want of memory says nothing
abbrev pub Refused : List ℕ → ScriptError → Type 0
Refused bytes (error.Fault line why) = (first_fault bytes ≡ Some (line, why)) × SpellNone bytes
Refused bytes error.NoMemory = Unit {0}
