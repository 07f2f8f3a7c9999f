use Rattle.std.proofs.Common.{refl}
use Rattle.kc_script.specs.FirstFault.{first_fault_from}
use Rattle.kc_script.specs.Parts.{behind_lines, first_fault_in_files, first_fault_in_parts}
use Rattle.kc_script_verbs.specs.Words.{structure_word, word_of, verb_of, object_verb_of, loc_word, plain_loc_word, choosing_loc_word, kind_of}
use Rattle.kc_script.proofs.worked.two_files.Goals as goal

pub returns-clause-good : goal.returns-clause-good
unfolding first_fault_from behind_lines first_fault_in_files first_fault_in_parts structure_word word_of verb_of object_verb_of loc_word plain_loc_word choosing_loc_word kind_of
returns-clause-good c = refl

pub returns-clause-unknown : goal.returns-clause-unknown
unfolding first_fault_from behind_lines first_fault_in_files first_fault_in_parts structure_word word_of verb_of object_verb_of loc_word plain_loc_word choosing_loc_word kind_of
returns-clause-unknown c = refl

pub returns-clause-thread : goal.returns-clause-thread
unfolding first_fault_from behind_lines first_fault_in_files first_fault_in_parts structure_word word_of verb_of object_verb_of loc_word plain_loc_word choosing_loc_word kind_of
returns-clause-thread c = refl

pub returns-clause-declared : goal.returns-clause-declared
unfolding first_fault_from behind_lines first_fault_in_files first_fault_in_parts structure_word word_of verb_of object_verb_of loc_word plain_loc_word choosing_loc_word kind_of
returns-clause-declared c = refl

pub returns-clause-block : goal.returns-clause-block
unfolding first_fault_from behind_lines first_fault_in_files first_fault_in_parts structure_word word_of verb_of object_verb_of loc_word plain_loc_word choosing_loc_word kind_of
returns-clause-block c = refl

pub returns-clause-header : goal.returns-clause-header
unfolding first_fault_from behind_lines first_fault_in_files first_fault_in_parts structure_word word_of verb_of object_verb_of loc_word plain_loc_word choosing_loc_word kind_of
returns-clause-header c = refl

pub returns-clause-command : goal.returns-clause-command
unfolding first_fault_from behind_lines first_fault_in_files first_fault_in_parts structure_word word_of verb_of object_verb_of loc_word plain_loc_word choosing_loc_word kind_of
returns-clause-command c = refl
