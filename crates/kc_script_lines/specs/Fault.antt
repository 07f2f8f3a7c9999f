-- The words for what is wrong with a line.
use Rattle.std.specs.Prelude.{ℕ, List, codes}
use Rattle.kc_script_lines.specs.declared.fault.Limit.{Limit}
use Rattle.kc_script_lines.specs.declared.fault.Limit.TheVariants as limit
use Rattle.kc_script_lines.specs.declared.fault.Why.{Why}
use Rattle.kc_script_lines.specs.declared.fault.Why.TheVariants as why

abbrev pub limit_words : Limit → List ℕ
limit_words limit.Locations = codes "too many locations"
limit_words limit.Threads = codes "too many threads"
limit_words limit.Commands = codes "too many commands"
limit_words limit.Block = codes "too many commands in a block"
limit_words limit.Depth = codes "too deep"
limit_words limit.Texts = codes "too many texts"
limit_words limit.TextBytes = codes "text too long"
limit_words limit.Picks = codes "too many picks"

abbrev pub why_words : Why → List ℕ
why_words why.Header = codes "no header"
why_words why.UnknownWord = codes "unknown word"
why_words why.UnknownName = codes "unknown name"
why_words why.RepeatedName = codes "repeated name"
why_words why.BadName = codes "bad name"
why_words why.BadNumber = codes "bad number"
why_words why.WrongKind = codes "wrong kind"
why_words why.MissingWord = codes "missing word"
why_words why.ExtraWord = codes "extra word"
why_words why.UnclosedBlock = codes "unclosed block"
why_words why.StrayWord = codes "word out of place"
why_words (why.TooMany l) = limit_words l
