-- `solver_critical::spinodals::after_vapor`.
use Rattle.std.proofs.Common.{rules}
use Rattle.solver.proofs.Runs.{then_answer}
use Rattle.solver_critical.specs.Spinodal.{after_liquid, after_vapor, both_answer}
use Rattle.solver_critical.proofs.spinodals.after_vapor.Goals as goal

pub returns : goal.returns
unfolding after_vapor after_liquid
returns c = rw (← c.liquid_start-rho.ensures) (then_answer _ _ (λ l. both_answer _ l.first) _ c.calculate_spinodal-liquid.result _ c.calculate_spinodal-liquid.ensures c.and_then.ensures (λ v p. search rules))
