-- `solver_density::spinodal::branch_search`.
use Rattle.std.proofs.Common.{rules}
use Rattle.solver.proofs.Runs.{then_answer}
use Rattle.solver_density.specs.Spinodal.{branch_answer, pressure_spinodal_branch}
use Rattle.solver_density.proofs.spinodal.branch_search.Goals as goal

pub returns : goal.returns
unfolding pressure_spinodal_branch
returns c = rw (← c.branch_start-start.ensures) (then_answer _ _ (branch_answer c.args.branch) _ c.spinodal_search-s.result _ c.spinodal_search-s.ensures c.and_then.ensures (λ v p. search rules))
