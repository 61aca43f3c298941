-- `solver_binary::pressure::has_converged`.
use Rattle.solver_binary.specs.CriticalPointBinary.{converged_p}
use Rattle.solver_binary.proofs.pressure.has_converged.Goals as goal

pub returns : goal.returns
unfolding converged_p
returns c = rw (c.norm.ensures, c.residuals.ensures)
