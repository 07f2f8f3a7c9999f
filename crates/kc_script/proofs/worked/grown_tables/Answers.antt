use Rattle.std.proofs.Common.{refl}
use Rattle.kc_script.specs.FirstFault.{first_fault, first_fault_from}
use Rattle.kc_script_verbs.specs.Words.{structure_word, word_of, verb_of, object_verb_of, loc_word, plain_loc_word, choosing_loc_word, stack_word, queue_word, table_word, cache_word, mvar_word, promise_word, acc_word, kind_of}
use Rattle.kc_script.proofs.worked.grown_tables.Goals as goal

pub returns-clause-least : goal.returns-clause-least
unfolding first_fault first_fault_from structure_word word_of verb_of object_verb_of loc_word plain_loc_word choosing_loc_word stack_word queue_word table_word cache_word mvar_word promise_word acc_word kind_of
returns-clause-least c = refl

pub returns-clause-most : goal.returns-clause-most
unfolding first_fault first_fault_from structure_word word_of verb_of object_verb_of loc_word plain_loc_word choosing_loc_word stack_word queue_word table_word cache_word mvar_word promise_word acc_word kind_of
returns-clause-most c = refl

pub returns-clause-below : goal.returns-clause-below
unfolding first_fault first_fault_from structure_word word_of verb_of object_verb_of loc_word plain_loc_word choosing_loc_word stack_word queue_word table_word cache_word mvar_word promise_word acc_word kind_of
returns-clause-below c = refl

pub returns-clause-above : goal.returns-clause-above
unfolding first_fault first_fault_from structure_word word_of verb_of object_verb_of loc_word plain_loc_word choosing_loc_word stack_word queue_word table_word cache_word mvar_word promise_word acc_word kind_of
returns-clause-above c = refl

pub returns-clause-missing : goal.returns-clause-missing
unfolding first_fault first_fault_from structure_word word_of verb_of object_verb_of loc_word plain_loc_word choosing_loc_word stack_word queue_word table_word cache_word mvar_word promise_word acc_word kind_of
returns-clause-missing c = refl

pub returns-clause-old : goal.returns-clause-old
unfolding first_fault first_fault_from structure_word word_of verb_of object_verb_of loc_word plain_loc_word choosing_loc_word stack_word queue_word table_word cache_word mvar_word promise_word acc_word kind_of
returns-clause-old c = refl

pub returns-clause-stray : goal.returns-clause-stray
unfolding first_fault first_fault_from structure_word word_of verb_of object_verb_of loc_word plain_loc_word choosing_loc_word stack_word queue_word table_word cache_word mvar_word promise_word acc_word kind_of
returns-clause-stray c = refl

pub returns-clause-behind : goal.returns-clause-behind
unfolding first_fault first_fault_from structure_word word_of verb_of object_verb_of loc_word plain_loc_word choosing_loc_word stack_word queue_word table_word cache_word mvar_word promise_word acc_word kind_of
returns-clause-behind c = refl
