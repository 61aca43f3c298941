-- `solver_binary::pressure::step_p`.
use Rattle.solver_binary.specs.CriticalPointBinary.{step_p}
use Rattle.solver_binary.proofs.pressure.step_p.Goals as goal

pub returns : goal.returns
unfolding step_p
returns c = rw (← c.reduce_p.ensures, ← c.floor.ensures, ← c.floor-2.ensures)
