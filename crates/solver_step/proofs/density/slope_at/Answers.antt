-- `solver_step::density::slope_at`.
use Rattle.std.proofs.Common.{◌≡◌, suc, arith}
use Rattle.solver_step.specs.DensityStep.{slope_at}
use Rattle.solver_step.proofs.density.slope_at.Goals as goal

pub returns-in-Some : goal.returns-in-Some
unfolding slope_at
returns-in-Some c = let e : c.args.left ≡ suc c.in-Some.left = omega arith in rw e

pub returns-in-None : goal.returns-in-None
unfolding slope_at
returns-in-None c = let e : c.args.left ≡ 0 = omega arith in rw e
