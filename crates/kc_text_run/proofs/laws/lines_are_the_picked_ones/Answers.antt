use Rattle.kc_text_files.specs.Files.{file_lines, picks_in}
use Rattle.kc_text_run.proofs.Written.{are_picked}
use Rattle.kc_text_run.proofs.laws.lines_are_the_picked_ones.Goals as goal

pub returns-clause-picked : goal.returns-clause-picked
returns-clause-picked c = are_picked

pub returns-clause-written : goal.returns-clause-written
returns-clause-written c = λ texts picks front back h. are_picked (file_lines texts) (picks_in picks) front back h
