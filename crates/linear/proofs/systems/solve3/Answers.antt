-- `linear::systems::solve3`.
use Rattle.linear.specs.Linear.{solve3}
use Rattle.linear.proofs.systems.solve3.Goals as goal

pub returns : goal.returns
unfolding solve3
returns c = rw (← c.pivot_row-i.ensures.row, ← c.swap.ensures.after, ← c.swap-2.ensures.after, ← c.eliminate3.ensures)
