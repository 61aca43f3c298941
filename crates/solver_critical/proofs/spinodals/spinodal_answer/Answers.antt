-- `solver_critical::spinodals::spinodal_answer`.
use mathlib.Core.Path.{refl}
use Rattle.solver_critical.specs.Spinodal.{spinodal_answer}
use Rattle.solver_critical.proofs.spinodals.spinodal_answer.Goals as goal

pub returns : goal.returns
unfolding spinodal_answer
returns c = refl
