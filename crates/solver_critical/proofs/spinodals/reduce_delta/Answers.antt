-- `solver_critical::spinodals::reduce_delta`.
use Rattle.solver_critical.specs.Spinodal.{reduced_delta}
use Rattle.solver_critical.proofs.spinodals.reduce_delta.Goals as goal

pub returns-then-size-most : goal.returns-then-size-most
unfolding reduced_delta
returns-then-size-most c = rw (← c.abs-size.ensures, c.if-size-most.true)

pub returns : goal.returns
unfolding reduced_delta
returns c = rw (← c.abs-size.ensures, c.if-size-most.false)
