-- `solver_binary::pressure::solved_p`.
use Rattle.solver_binary.specs.CriticalPointBinary.{solved_p}
use Rattle.solver_binary.proofs.pressure.solved_p.Goals as goal

pub returns : goal.returns
unfolding solved_p
returns c = rw (c.solve3.ensures, c.row.ensures, c.row-2.ensures, c.row-3.ensures, c.residuals.ensures)
