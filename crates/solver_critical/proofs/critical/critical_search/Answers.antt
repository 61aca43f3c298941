-- `solver_critical::critical::critical_search`.
use Rattle.solver_critical.specs.CriticalPoint.{critical_point, from_temperature}
use Rattle.solver_critical.proofs.critical.critical_search.Goals as goal

pub returns-in-None : goal.returns-in-None
unfolding critical_point from_temperature
returns-in-None c = rw (c.in-None.is, ← c.start_density-rho.ensures) c.by_trials.ensures

pub returns-in-Some : goal.returns-in-Some
unfolding critical_point from_temperature
returns-in-Some c = rw (c.in-Some.is, ← c.start_density-rho.ensures) c.critical_point_hkm.ensures
