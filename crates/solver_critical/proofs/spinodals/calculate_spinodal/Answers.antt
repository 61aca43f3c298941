-- `solver_critical::spinodals::calculate_spinodal`.
use Rattle.std.proofs.Common.{rules}
use Rattle.solver.proofs.Turns.{runs_rounds}
use Rattle.solver_critical.proofs.Runs.{stability_ends, stability_turn}
use Rattle.solver_critical.specs.Spinodal.{calculate_spinodal, spinodal_from}
use Rattle.solver_critical.proofs.spinodals.calculate_spinodal.Goals as goal

pub returns : goal.returns
unfolding calculate_spinodal
returns c = rw (← c.spinodal_start-start.ensures) (runs_rounds _ _ c.args.blend (spinodal_from c.args.maxdensity c.args.temperature) (stability_ends c.args.blend c.args.maxdensity c.args.temperature) (λ m n p o h. stability_turn c.args.blend c.args.maxdensity c.args.temperature m n p o (search rules)) 0 50 _ _ c.rounds.ensures)
