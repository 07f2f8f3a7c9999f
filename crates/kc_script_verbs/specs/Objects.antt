-- Objects by their names.
use Rattle.std.specs.Prelude.{ℕ, List, [], ◌∷◌, Option, Some, None, Result, Ok, Err, is_some, not, if◌then◌else◌}
use Rattle.std.specs.Str.{bytes_eq}
use Rattle.kc_cache.specs.declared.cache.Cache.{Cache}
use Rattle.kc_cells.specs.declared.accumulator.Accumulator.{Accumulator}
use Rattle.kc_cells.specs.declared.mvar.Mvar.{Mvar}
use Rattle.kc_cells.specs.declared.promise.Promise.{Promise}
use Rattle.kc_model.specs.declared.footprint.Loc.{Loc}
use Rattle.kc_queue.specs.declared.queue.Queue.{Queue}
use Rattle.kc_script_bundle.specs.declared.object.Object.{Object}
use Rattle.kc_script_lines.specs.Tests.{◌>>=◌, wants, found}
use Rattle.kc_script_lines.specs.Words.{is_name}
use Rattle.kc_script_lines.specs.declared.fault.Why.{Why}
use Rattle.kc_script_lines.specs.declared.fault.Why.TheVariants.{UnknownName, RepeatedName, BadName, WrongKind}
use Rattle.kc_stack.specs.declared.stack.Stack.{Stack}
use Rattle.kc_script_bundle.specs.declared.object.Object.TheVariants as object
use Rattle.kc_script_bundle.specs.Script.{Names}
use Rattle.kc_script_verbs.specs.declared.objects.Table.{Table}
use Rattle.kc_script_verbs.specs.declared.objects.Table.TheVariants as tables

-- the object of this name
abbrev pub object_of : Names → List ℕ → Option Object
object_of [] name = None
object_of (entry ∷ names) name = if bytes_eq name entry.0 then Some entry.1 else object_of names name

-- a name that is declared
unfoldable pub new_name : Names → List ℕ → Result (List ℕ) Why
new_name names name = do
  good ← wants (is_name name) BadName
  new ← wants (not (is_some (object_of names name))) RepeatedName
  Ok name

-- the object of a name that is used
unfoldable pub used : Names → List ℕ → Result Object Why
used names name = found (if is_name name then object_of names name else None) UnknownName

-- ---- an object as one of the kind that a command is on

abbrev pub as_loc : Object → Result Loc Why
as_loc (object.Loc at value) = Ok at
as_loc _ = Err WrongKind

abbrev pub as_stack : Object → Result Stack Why
as_stack (object.Stack s) = Ok s
as_stack _ = Err WrongKind

abbrev pub as_queue : Object → Result Queue Why
as_queue (object.Queue q) = Ok q
as_queue _ = Err WrongKind

abbrev pub as_table : Object → Result Table Why
as_table (object.Hash h) = Ok (tables.Hash h)
as_table (object.Grow g) = Ok (tables.Grow g)
as_table _ = Err WrongKind

abbrev pub as_cache : Object → Result Cache Why
as_cache (object.Cache c) = Ok c
as_cache _ = Err WrongKind

abbrev pub as_mvar : Object → Result Mvar Why
as_mvar (object.Mvar x) = Ok x
as_mvar _ = Err WrongKind

abbrev pub as_promise : Object → Result Promise Why
as_promise (object.Promise p) = Ok p
as_promise _ = Err WrongKind

abbrev pub as_acc : Object → Result Accumulator Why
as_acc (object.Acc a) = Ok a
as_acc _ = Err WrongKind
