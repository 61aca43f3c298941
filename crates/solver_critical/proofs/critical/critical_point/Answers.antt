-- `solver_critical::critical::critical_point`.
use Rattle.solver_critical.proofs.critical.critical_point.Goals as goal

pub returns : goal.returns
returns c = rw (← c.compute_max_density.ensures) c.critical_search.ensures
