-- `solver_binary::pressure::reduce_p`.
use Rattle.solver_binary.specs.CriticalPointBinary.{reduced_p}
use Rattle.solver_binary.proofs.pressure.reduce_p.Goals as goal

pub returns : goal.returns
unfolding reduced_p
returns c = rw (← c.abs.ensures, ← c.limit.ensures, ← c.abs-2.ensures, ← c.limit-2.ensures, ← c.abs-3.ensures, ← c.limit-3.ensures)
