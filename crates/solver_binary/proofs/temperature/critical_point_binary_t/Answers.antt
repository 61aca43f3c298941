-- `solver_binary::temperature::critical_point_binary_t`.
use Rattle.solver_binary.specs.CriticalPointBinary.{critical_point_binary_t}
use Rattle.solver_binary.proofs.temperature.critical_point_binary_t.Goals as goal

pub returns : goal.returns
unfolding critical_point_binary_t
returns c = rw (← c.compute_max_density-maxdensity.ensures, ← c.start_densities-start.ensures) c.search_t.ensures
