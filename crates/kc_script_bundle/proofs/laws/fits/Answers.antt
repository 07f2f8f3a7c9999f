use Rattle.kc_script_bundle.proofs.Fitting.{command_fits, command_within}
use Rattle.kc_script_bundle.proofs.laws.fits.Goals as goal

pub returns-clause-fit : goal.returns-clause-fit
returns-clause-fit c = λ names k lie within on. command_fits names lie within k on

pub returns-clause-end : goal.returns-clause-end
returns-clause-end c = λ names k lie on. command_within names lie k on
