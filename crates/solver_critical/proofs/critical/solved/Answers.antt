-- `solver_critical::critical::solved`.
use Rattle.solver_critical.specs.CriticalPoint.{jacobian, solved}
use Rattle.solver_critical.proofs.critical.solved.Goals as goal

pub returns : goal.returns
unfolding solved jacobian
returns c = rw (← c.solve.ensures)
