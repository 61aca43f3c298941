-- `solver_critical::spinodals::liquid_start`.
use mathlib.Core.Path.{refl}
use Rattle.solver_critical.specs.Spinodal.{liquid_start}
use Rattle.solver_critical.proofs.spinodals.liquid_start.Goals as goal

pub returns : goal.returns
unfolding liquid_start
returns c = refl
