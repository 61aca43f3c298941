-- `solver_critical::critical::newton_step`.
use Rattle.solver_critical.specs.CriticalPoint.{newton_step}
use Rattle.solver_critical.proofs.critical.newton_step.Goals as goal

pub returns : goal.returns
unfolding newton_step
returns c = rw (← c.reduce_step.ensures, ← c.floor.ensures)
