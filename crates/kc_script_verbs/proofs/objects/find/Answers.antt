use Rattle.std.proofs.Common.{◌∙◌}
use Rattle.kc_script_verbs.proofs.Names.{found}
use Rattle.kc_script_verbs.proofs.objects.find.Goals as goal

pub returns : goal.returns
returns c = c.copied.ensures ∙ c.get.ensures.value ∙ found c.args.objects.now c.args.name.now
