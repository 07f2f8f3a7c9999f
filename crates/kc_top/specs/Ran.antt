-- What a run leaves.
use Rattle.kc_history.specs.Records.{lists_of}
use Rattle.kc_model.specs.Store.{store_of}
use Rattle.kc_script_bundle.specs.Script.{Script}
use Rattle.kc_script_runs.specs.Run.{IsScriptRun}
use Rattle.std.specs.Prelude.{◌≡◌, length}
use Rattle.kc_script_bundle.specs.Script.{next_from}
use Rattle.kc_top.specs.declared.run.Ran.{Ran}

-- its records in its order are a run of the script, to its store
pub record HasRun (script : Script) (ran : Ran) : Type 0 where
  pub run : IsScriptRun script (lists_of ran.records.items) ran.room.order (store_of ran.store)
  pub size : length ran.store ≡ next_from 1 script.objects
