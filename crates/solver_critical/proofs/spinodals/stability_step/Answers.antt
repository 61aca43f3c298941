-- `solver_critical::spinodals::stability_step`.
use Rattle.solver_critical.specs.Spinodal.{stability_step}
use Rattle.solver_critical.proofs.spinodals.stability_step.Goals as goal

pub returns : goal.returns
unfolding stability_step
returns c = rw (← c.reduce_delta-delta.ensures, ← c.floor.ensures)
