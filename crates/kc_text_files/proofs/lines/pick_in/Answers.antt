use Rattle.std.proofs.Common.{sym, ◌∙◌}
use Rattle.kc_script_lines.proofs.Given.{wants_ok}
use Rattle.kc_text_files.proofs.Numbers.{is_right, is_wrong, value_is}
use Rattle.kc_text_files.proofs.lines.pick_in.Goals as goal

pub returns-clause-pick : goal.returns-clause-pick
returns-clause-pick c = value_is c.args.texts c.args.index c.args.row.now c.positive_to.result c.positive_to.ensures.gives

pub returns-clause-right : goal.returns-clause-right
returns-clause-right c = is_right c.args.texts c.args.index c.args.row.now c.positive_to.result c.positive_to.ensures.gives (wants_ok _ _ _ (sym c.wants.ensures ∙ c.in_ok-wants.was))

pub returns-clause-wrong : goal.returns-clause-wrong
returns-clause-wrong c = is_wrong c.args.texts c.args.index c.args.row.now c.positive_to.result c.positive_to.ensures.gives (wants_ok _ _ _ (sym c.wants.ensures ∙ c.in_ok-wants.was))
