-- `solver_binary::pressure::critical_point_binary_p`.
use Rattle.solver_binary.specs.CriticalPointBinary.{critical_point_binary_p}
use Rattle.solver_binary.proofs.pressure.critical_point_binary_p.Goals as goal

pub returns : goal.returns
unfolding critical_point_binary_p
returns c = rw (← c.compute_max_density-maxdensity.ensures, ← c.start_unknowns-start.ensures) c.search_p.ensures
