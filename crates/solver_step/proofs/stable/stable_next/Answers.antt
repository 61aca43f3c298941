-- `solver_step::stable::stable_next`.
use Rattle.solver.specs.Evaluated.{evaluated}
use Rattle.solver_step.specs.StableStep.{stable_next}
use Rattle.solver_step.proofs.stable.stable_next.Goals as goal

pub returns-in-LiquidSearch : goal.returns-in-LiquidSearch
unfolding stable_next evaluated
returns-in-LiquidSearch c = rw (c.in-LiquidSearch.is, ← c.conditions-c.ensures, ← c.density_next.ensures, ← c.liquid_search_on.ensures)

pub returns-in-VaporSearch : goal.returns-in-VaporSearch
unfolding stable_next evaluated
returns-in-VaporSearch c = rw (c.in-VaporSearch.is, ← c.conditions-c-in-VaporSearch.ensures, ← c.density_next-in-VaporSearch.ensures, ← c.vapor_search_on.ensures)
