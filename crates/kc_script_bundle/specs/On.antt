-- On which objects commands work.
use Rattle.std.specs.Prelude.{◌≡◌, ℕ, ◌≤◌, List, [], ◌∷◌, length}
use Rattle.kc_loc.specs.declared.operation.LocOp.{LocOp}
use Rattle.kc_model.specs.declared.footprint.Loc.{Loc}
use Rattle.kc_loc.specs.declared.operation.LocOp.TheVariants as loc
use Rattle.kc_term.specs.Tree.{operations}
use Rattle.kc_term.specs.declared.term.TheConstants.{MOST_OPERATIONS}
use Rattle.kc_script_bundle.specs.Live.{IsThreadNumber}
use Rattle.kc_script_bundle.specs.declared.cancel.Cancel.{Cancel}
use Rattle.kc_script_bundle.specs.declared.object.Object.TheVariants as object
use Rattle.kc_script_bundle.specs.declared.operation.Op.{Op}
use Rattle.kc_script_bundle.specs.declared.operation.Op.TheVariants as op
use Rattle.kc_script_bundle.specs.declared.operation.Command.{Command}
use Rattle.kc_script_bundle.specs.declared.operation.Command.TheVariants as command
use Rattle.kc_script_bundle.specs.Script.{Names, HasObject}

-- a location that is declared
abbrev pub IsLocation : Names → Loc → Type 0
IsLocation names l = (value : ℕ) × HasObject names (object.Loc l value)

abbrev pub LocIsOn : Names → LocOp → Type 0
LocIsOn names (loc.Get l) = IsLocation names l
LocIsOn names (loc.Set l v) = IsLocation names l
LocIsOn names (loc.Exchange l v) = IsLocation names l
LocIsOn names (loc.Swap a b) = IsLocation names a × IsLocation names b
LocIsOn names (loc.Cas l before after) = IsLocation names l
LocIsOn names (loc.FetchAdd l n) = IsLocation names l
LocIsOn names (loc.Incr l) = IsLocation names l
LocIsOn names (loc.Decr l) = IsLocation names l
LocIsOn names (loc.Update l f) = IsLocation names l
LocIsOn names (loc.Modify l f) = IsLocation names l
LocIsOn names (loc.Check l r n) = IsLocation names l

-- a cancel is at location 0, and of a thread that may be there
abbrev pub CancelIsOn : Cancel → Type 0
CancelIsOn c = (c.live.0 ≡ 0) × IsThreadNumber c.thread

-- an operation works on an object of these names, or cancels
abbrev pub IsOn : Names → Op → Type 0
IsOn names (op.Loc o) = LocIsOn names o
IsOn names (op.Stack o) = HasObject names (object.Stack o.stack)
IsOn names (op.Queue o) = HasObject names (object.Queue o.queue)
IsOn names (op.Mvar o) = HasObject names (object.Mvar o.mvar)
IsOn names (op.Promise o) = HasObject names (object.Promise o.promise)
IsOn names (op.Acc o) = HasObject names (object.Acc o.acc)
IsOn names (op.Hash o) = HasObject names (object.Hash o.hash)
IsOn names (op.Grow o) = HasObject names (object.Grow o.grow)
IsOn names (op.Cache o) = HasObject names (object.Cache o.cache)
IsOn names (op.Cancel c) = CancelIsOn c

abbrev pub AllOn : Names → List Op → Type 0
AllOn names [] = Unit {0}
AllOn names (o ∷ os) = IsOn names o × AllOn names os

-- a command's operations do, and a block is not too long
abbrev pub CommandIsOn : Names → Command → Type 0
CommandIsOn names (command.One o) = IsOn names o
CommandIsOn names (command.Block t) = (length (operations t) ≤ MOST_OPERATIONS) × AllOn names (operations t)

abbrev pub CommandsAreOn : Names → List Command → Type 0
CommandsAreOn names [] = Unit {0}
CommandsAreOn names (c ∷ cs) = CommandIsOn names c × CommandsAreOn names cs
