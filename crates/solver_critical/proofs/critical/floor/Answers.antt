-- `solver_critical::critical::floor`.
use Rattle.solver_critical.specs.CriticalPoint.{floored}
use Rattle.solver_critical.proofs.critical.floor.Goals as goal

pub returns : goal.returns
unfolding floored
returns c = rw (← c.max.ensures)
