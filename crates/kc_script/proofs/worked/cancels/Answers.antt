use Rattle.std.proofs.Common.{refl}
use Rattle.kc_script.specs.FirstFault.{first_fault, first_fault_from}
use Rattle.kc_script_verbs.specs.Words.{structure_word, word_of, verb_of, object_verb_of, loc_word, plain_loc_word, choosing_loc_word, stack_word, queue_word, table_word, cache_word, mvar_word, promise_word, acc_word, kind_of}
use Rattle.kc_script.proofs.worked.cancels.Goals as goal

pub returns-clause-last : goal.returns-clause-last
unfolding first_fault first_fault_from structure_word word_of verb_of object_verb_of loc_word plain_loc_word choosing_loc_word stack_word queue_word table_word cache_word mvar_word promise_word acc_word kind_of
returns-clause-last c = refl

pub returns-clause-zeros : goal.returns-clause-zeros
unfolding first_fault first_fault_from structure_word word_of verb_of object_verb_of loc_word plain_loc_word choosing_loc_word stack_word queue_word table_word cache_word mvar_word promise_word acc_word kind_of
returns-clause-zeros c = refl

pub returns-clause-below : goal.returns-clause-below
unfolding first_fault first_fault_from structure_word word_of verb_of object_verb_of loc_word plain_loc_word choosing_loc_word stack_word queue_word table_word cache_word mvar_word promise_word acc_word kind_of
returns-clause-below c = refl

pub returns-clause-above : goal.returns-clause-above
unfolding first_fault first_fault_from structure_word word_of verb_of object_verb_of loc_word plain_loc_word choosing_loc_word stack_word queue_word table_word cache_word mvar_word promise_word acc_word kind_of
returns-clause-above c = refl

pub returns-clause-missing : goal.returns-clause-missing
unfolding first_fault first_fault_from structure_word word_of verb_of object_verb_of loc_word plain_loc_word choosing_loc_word stack_word queue_word table_word cache_word mvar_word promise_word acc_word kind_of
returns-clause-missing c = refl

pub returns-clause-extra : goal.returns-clause-extra
unfolding first_fault first_fault_from structure_word word_of verb_of object_verb_of loc_word plain_loc_word choosing_loc_word stack_word queue_word table_word cache_word mvar_word promise_word acc_word kind_of
returns-clause-extra c = refl

pub returns-clause-outside : goal.returns-clause-outside
unfolding first_fault first_fault_from structure_word word_of verb_of object_verb_of loc_word plain_loc_word choosing_loc_word stack_word queue_word table_word cache_word mvar_word promise_word acc_word kind_of
returns-clause-outside c = refl
