-- `solver_density::density::iterate`.
use Rattle.std.proofs.Common.{◌≡◌, ◌+◌, ◌-◌, ◌*◌, ◌≤◌}
use Rattle.solver.proofs.Runs.{ran}
use Rattle.solver_density.specs.Density.{density_from}
use Rattle.solver_density.proofs.density.iterate.Given as goal

abbrev pub invariant-loop-made : goal.invariant-loop-made
invariant-loop-made l =
    (l.evaluations + 62 * (l.rounds - l.made) ≤ 3101)
    × (ran l.blend l.evaluations (density_from l.c (l.rounds - l.made) l.rho) ≡ ran l.blend 1 (density_from l.c l.rounds l.fn.start))
