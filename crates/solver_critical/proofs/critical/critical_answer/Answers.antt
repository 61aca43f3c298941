-- `solver_critical::critical::critical_answer`.
use mathlib.Core.Path.{refl}
use Rattle.solver_critical.specs.CriticalPoint.{critical_answer}
use Rattle.solver_critical.proofs.critical.critical_answer.Goals as goal

pub returns : goal.returns
unfolding critical_answer
returns c = refl
