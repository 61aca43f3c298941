-- `solver_critical::critical::start_density`.
use Rattle.solver_critical.specs.CriticalPoint.{start_density}
use Rattle.solver_critical.proofs.critical.start_density.Goals as goal

pub returns : goal.returns
unfolding start_density
returns c = c.unwrap_or.ensures
