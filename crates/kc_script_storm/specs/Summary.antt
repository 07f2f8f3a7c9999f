-- What is counted of a run, and the summary of a storm.
use Rattle.std.specs.Prelude.{◌≡◌, ℕ, ◌&&◌, Bool, true, false, List, ◌++◌, length, count_by, sum_by, codes, decimal}
use Rattle.std.specs.List.{list_all}
use Rattle.kc_model.specs.declared.reply.Item.{Item}
use Rattle.kc_model.specs.declared.reply.Item.TheVariants as item
use Rattle.kc_model.specs.declared.reply.Reply.TheVariants as reply
use Rattle.kc_model.specs.declared.reply.Answer.{Answer}
use Rattle.kc_model.specs.declared.reply.Answer.TheVariants as answer
use Rattle.kc_history.specs.declared.record.Mark.{Mark}
use Rattle.kc_model.specs.Store.{Store}
use Rattle.kc_script_bundle.specs.State.{Content, AllStand, state_lines, state_text}
use Rattle.kc_xt.specs.Meaning.{values}
use Rattle.kc_history.specs.declared.record.Mark.TheVariants as mark
use Rattle.kc_history.specs.declared.record.Place.{Place}
use Rattle.kc_history.specs.declared.record.Record.{Record}
use Rattle.kc_script_runs.specs.Run.{IsScriptRun}
use Rattle.kc_script_storm.specs.State.{storm_state}
use Rattle.kc_script_storm.specs.Storm.{storm_objects, storm_script}

-- ---- what is counted

abbrev pub is_ok_item : Item → Bool
is_ok_item item.Unit = true
is_ok_item _ = false

-- the reply's items are all `ok`
abbrev pub all_ok : Answer → Bool
all_ok (answer.Reply reply.Unit) = true
all_ok (answer.Reply (reply.Many items)) = list_all is_ok_item items
all_ok _ = false

abbrev pub is_command : Mark → Bool
is_command (mark.Command number) = true
is_command mark.End = false

abbrev pub is_ok_command : Record → Bool
is_ok_command r = is_command r.mark && all_ok r.answer

abbrev pub commits : List (List Record) → ℕ
commits records = sum_by length records

abbrev pub ok_commands : List (List Record) → ℕ
ok_commands records = sum_by (count_by is_ok_command) records

-- ---- the text

-- the storm's number, how many commits were made and how many commands are all `ok`, and the state lines
abbrev pub summary_lines : ℕ → ℕ → ℕ → List ℕ → List ℕ
summary_lines n commits oks state = codes "storm " ++ decimal n ++ codes "\ncommits " ++ decimal commits ++ codes "\nok " ++ decimal oks ++ codes "\n" ++ state

-- the records are a run of the storm, and this is its summary
pub record IsSummary (n : ℕ) (records : List (List Record)) (text : List ℕ) : Type 0 where
  pub order : List Place
  pub last : Store
  pub contents : List Content
  pub run : IsScriptRun (storm_script n) records order last
  pub stand : AllStand storm_objects (values last) contents
  pub spelled : text ≡ summary_lines n (commits records) (ok_commands records) (state_lines storm_objects contents)

-- the one summary that a storm has
abbrev pub summary_text : ℕ → List ℕ
summary_text n = summary_lines n 8004 8000 (state_text storm_objects (storm_state n))
