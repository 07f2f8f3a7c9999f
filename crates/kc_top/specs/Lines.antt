-- The line on standard error for each status, without its newline.
use Rattle.std.specs.Prelude.{ℕ, List, [], ◌++◌, codes, decimal}
use Rattle.kc_check.specs.declared.error.CheckWhy.{CheckWhy}
use Rattle.kc_check.specs.declared.error.CheckWhy.TheVariants as test
use Rattle.kc_script_lines.specs.Fault.{why_words}
use Rattle.kc_top.specs.declared.status.Status.{Status}
use Rattle.kc_top.specs.declared.status.Status.TheVariants as status

-- the words for the test that a text fails
abbrev pub test_words : CheckWhy → List ℕ
test_words test.Form = codes "wrong form"
test_words test.Turn = codes "out of turn"
test_words test.Waits = codes "command waits"
test_words test.Reply = codes "wrong reply"
test_words test.Order = codes "not the canonical order"
test_words test.State = codes "wrong state"

-- nothing is written where the run is done
abbrev pub status_line : Status → List ℕ
status_line status.Done = []
status_line status.Usage = codes "kcas: usage: kcas run, kcas files SETUP FILE.., kcas storm N, kcas check BUNDLE TEXT, or kcas texts TEXTS PICKS"
status_line (status.Script part line why) = codes "kcas: part " ++ decimal part ++ codes " line " ++ decimal line ++ codes ": " ++ why_words why
status_line status.ReadFault = codes "kcas: reading failed"
status_line status.WriteFault = codes "kcas: writing failed"
status_line status.NoMemory = codes "kcas: out of memory"
status_line status.TooLong = codes "kcas: input too long"
status_line (status.Illegal line why) = codes "kcas: line " ++ decimal line ++ codes ": " ++ test_words why
