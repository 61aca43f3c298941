-- `solver_critical::critical::has_converged`.
use Rattle.solver_critical.specs.CriticalPoint.{converged}
use Rattle.solver_critical.proofs.critical.has_converged.Goals as goal

pub returns : goal.returns
unfolding converged
returns c = rw (← c.norm.ensures)
