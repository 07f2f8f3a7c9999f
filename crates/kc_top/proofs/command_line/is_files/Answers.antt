use Rattle.std.proofs.Common.{string_bytes}
use Rattle.kc_top.proofs.Parts.{slice_on}
use Rattle.std.specs.List.{drop-map}
use Rattle.kc_top.proofs.command_line.is_files.Goals as goal

pub returns-then-is_word : goal.returns-then-is_word
returns-then-is_word c = rw (← c.is_word.ensures.is, c.if-is_word.true, drop-map string_bytes c.args.setup c.args.words.now, ← slice_on c.args.words.now c.args.setup) c.are_names.ensures
