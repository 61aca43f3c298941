-- `solver_critical::critical::critical_point_hkm`.
use Rattle.std.proofs.Common.{rules}
use Rattle.solver.proofs.Turns.{runs_rounds}
use Rattle.solver_critical.proofs.Runs.{hkm_ends, hkm_turn}
use Rattle.solver_critical.specs.CriticalPoint.{critical_point_hkm, hkm_from}
use Rattle.solver_critical.proofs.critical.critical_point_hkm.Goals as goal

pub returns : goal.returns
unfolding critical_point_hkm
returns c = runs_rounds _ _ c.args.blend (hkm_from c.args.maxdensity) (hkm_ends c.args.blend c.args.maxdensity) (λ m n p o h. hkm_turn c.args.blend c.args.maxdensity m n p o (search rules)) 0 50 _ _ c.rounds.ensures
