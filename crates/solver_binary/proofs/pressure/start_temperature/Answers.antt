-- `solver_binary::pressure::start_temperature`.
use Rattle.solver_binary.specs.CriticalPointBinary.{start_temperature}
use Rattle.solver_binary.proofs.pressure.start_temperature.Goals as goal

pub returns : goal.returns
unfolding start_temperature
returns c = c.unwrap_or.ensures
