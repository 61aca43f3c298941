-- `solver_binary::temperature::reduce_t`.
use Rattle.solver_binary.specs.CriticalPointBinary.{reduced_t}
use Rattle.solver_binary.proofs.temperature.reduce_t.Goals as goal

pub returns : goal.returns
unfolding reduced_t
returns c = rw (← c.abs.ensures, ← c.limit.ensures, ← c.abs-2.ensures, ← c.limit-2.ensures)
