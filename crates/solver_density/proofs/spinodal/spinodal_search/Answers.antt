-- `solver_density::spinodal::spinodal_search`.
use Rattle.std.proofs.Common.{rules}
use Rattle.solver.specs.Search.{run}
use Rattle.solver_density.proofs.Runs.{spinodal_rounds}
use Rattle.solver_density.specs.Spinodal.{pressure_spinodal}
use Rattle.solver_density.proofs.spinodal.spinodal_search.Goals as goal

pub returns-then-start : goal.returns-then-start
unfolding pressure_spinodal run
returns-then-start c = rw c.if-start.true

pub returns : goal.returns
unfolding pressure_spinodal
returns c = rw c.if-start.false (spinodal_rounds _ _ _ _ (λ ρ o p. search rules) _ _ _ c.rounds.ensures)
