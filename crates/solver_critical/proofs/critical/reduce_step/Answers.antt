-- `solver_critical::critical::reduce_step`.
use Rattle.solver_critical.specs.CriticalPoint.{reduced_step}
use Rattle.solver_critical.proofs.critical.reduce_step.Goals as goal

pub returns : goal.returns
unfolding reduced_step
returns c = rw (← c.abs.ensures, ← c.limit.ensures, ← c.abs-2.ensures, ← c.limit-2.ensures)
