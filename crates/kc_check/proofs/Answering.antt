-- From what the tests find to what a check answers.
use Rattle.std.proofs.Common.{ℕ, List, sym, subst}
use Rattle.std.specs.Prelude.{IfErr, IfOk, Result, Ok, Err}
use Rattle.kc_script_bundle.specs.Script.{Script}
use Rattle.kc_check.specs.Faults.{FailsFor, IsLegalText}
use Rattle.kc_check.specs.Forms.{IsFormed}
use Rattle.kc_check.specs.Judged.{FailsWith}
use Rattle.kc_check.specs.Parts.{Parts, parts_text}
use Rattle.kc_check.specs.Reads.{FailsForm}
use Rattle.kc_check.specs.declared.error.CheckError.{CheckError}
use Rattle.kc_check.specs.declared.error.CheckError.TheVariants as error
use Rattle.kc_check.specs.declared.error.CheckWhy.TheVariants as why

-- the form is the first test
pub form_fails : (s : Script) (text : List ℕ) (e : CheckError) → FailsForm s text e → FailsFor s text e
form_fails s text (error.Fault line why.Form) h = h
form_fails s text (error.Fault line why.Turn) h = absurd h
form_fails s text (error.Fault line why.Waits) h = absurd h
form_fails s text (error.Fault line why.Reply) h = absurd h
form_fails s text (error.Fault line why.Order) h = absurd h
form_fails s text (error.Fault line why.State) h = absurd h
form_fails s text error.NoMemory h = absurd h

-- where the text has it, the others follow
pub later_fails : (s : Script) (text : List ℕ) (parts : Parts) (e : CheckError) → IsFormed s text parts → FailsWith s parts e → FailsFor s text e
later_fails s text parts (error.Fault line why.Form) formed h = absurd h
later_fails s text parts (error.Fault line why.Turn) formed h = record { parts = parts; formed = formed; fails = h }
later_fails s text parts (error.Fault line why.Waits) formed h = record { parts = parts; formed = formed; fails = h }
later_fails s text parts (error.Fault line why.Reply) formed h = record { parts = parts; formed = formed; fails = h }
later_fails s text parts (error.Fault line why.Order) formed h = record { parts = parts; formed = formed; fails = h }
later_fails s text parts (error.Fault line why.State) formed h = record { parts = parts; formed = formed; fails = h }
later_fails s text parts error.NoMemory formed h = absurd h

pub judged_fails : (s : Script) (text : List ℕ) (parts : Parts) (r : Result (Unit {0}) CheckError) → IsFormed s text parts → IfErr r (FailsWith s parts) → IfErr r (FailsFor s text)
judged_fails s text parts (Ok u) formed h = tt
judged_fails s text parts (Err e) formed h = later_fails s text parts e formed h

pub judged_legal : (s : Script) (text : List ℕ) (parts : Parts) (r : Result (Unit {0}) CheckError) → IsFormed s text parts → IfOk r (λ (u : Unit {0}). IsLegalText s (parts_text s.threads parts)) → IfOk r (λ (u : Unit {0}). IsLegalText s text)
judged_legal s text parts (Ok u) formed h = subst (IsLegalText s) (sym formed.spelled) h
judged_legal s text parts (Err e) formed h = tt
