-- `solver_critical::spinodals::both_answer`.
use mathlib.Core.Path.{refl}
use Rattle.solver_critical.specs.Spinodal.{both_answer}
use Rattle.solver_critical.proofs.spinodals.both_answer.Goals as goal

pub returns : goal.returns
unfolding both_answer
returns c = refl
