-- `solver_binary::pressure::start_unknowns`.
use Rattle.solver_binary.specs.CriticalPointBinary.{start_unknowns}
use Rattle.solver_binary.proofs.pressure.start_unknowns.Goals as goal

pub returns : goal.returns
unfolding start_unknowns
returns c = rw (← c.start_densities-rho.ensures, ← c.start_temperature.ensures)
