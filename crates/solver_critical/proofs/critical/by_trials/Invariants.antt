-- `solver_critical::critical::by_trials`.
use mathlib.Core.Path.{◌≡◌}
use Prim.Native.Nat.{◌*◌, ◌≤◌}
use lib.ListN.{drop}
use Rattle.solver.proofs.Runs.{ran}
use Rattle.solver_critical.specs.CriticalPoint.{trial_temperatures, trials}
use Rattle.solver_critical.proofs.critical.by_trials.Given as goal

abbrev pub invariant-loop-t : goal.invariant-loop-t
invariant-loop-t l = (l.evaluations ≤ 50 * l.t-index) × (ran l.blend l.evaluations (trials l.maxdensity l.rho (drop l.t-index trial_temperatures)) ≡ ran l.blend 0 (trials l.maxdensity l.rho trial_temperatures))
