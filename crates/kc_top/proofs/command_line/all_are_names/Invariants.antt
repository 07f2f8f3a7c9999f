use Rattle.std.proofs.Common.{◌≡◌, drop, map, string_bytes}
use Rattle.std.specs.List.{list_all}
use Rattle.kc_top.specs.Words.{is_file_name}
use Rattle.kc_top.proofs.command_line.all_are_names.Given as goal

abbrev pub invariant-loop-word : goal.invariant-loop-word
invariant-loop-word l = list_all is_file_name (map string_bytes (drop l.word-index l.words)) ≡ list_all is_file_name (map string_bytes l.fn.words)
