-- `solver_binary::temperature::step_t`.
use Rattle.solver_binary.specs.CriticalPointBinary.{step_t}
use Rattle.solver_binary.proofs.temperature.step_t.Goals as goal

pub returns : goal.returns
unfolding step_t
returns c = rw (← c.reduce_t.ensures, ← c.floor.ensures, ← c.floor-2.ensures)
