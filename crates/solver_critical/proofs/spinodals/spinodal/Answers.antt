-- `solver_critical::spinodals::spinodal`.
use Rattle.solver_critical.proofs.spinodals.spinodal.Goals as goal

pub returns : goal.returns
returns c = rw (← c.compute_max_density.ensures) c.spinodal_search.ensures
