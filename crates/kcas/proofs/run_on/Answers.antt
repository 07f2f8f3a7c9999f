use Rattle.kcas.proofs.run_on.Goals as goal

pub returns : goal.returns
returns g c = (c.kcas_main-status.result.1, c.kcas_main-status.ensures)
