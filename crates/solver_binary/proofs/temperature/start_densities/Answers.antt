-- `solver_binary::temperature::start_densities`.
use Rattle.solver_binary.specs.CriticalPointBinary.{start_densities}
use Rattle.solver_binary.proofs.temperature.start_densities.Goals as goal

pub returns : goal.returns
unfolding start_densities
returns c = rw (← c.start_density-rho.ensures)
