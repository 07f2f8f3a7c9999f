use Rattle.kc_store.proofs.Placing.{finds_behind}
use Rattle.kc_text.proofs.Replies.{says_there, waits_not}
use Rattle.kc_text.proofs.laws.replies_say_what_stood.Goals as goal

pub returns-clause-says : goal.returns-clause-says
returns-clause-says c = says_there

pub returns-clause-never_waits : goal.returns-clause-never_waits
returns-clause-never_waits c = waits_not

pub returns-clause-at_place : goal.returns-clause-at_place
returns-clause-at_place c = finds_behind
