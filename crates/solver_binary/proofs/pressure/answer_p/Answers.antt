-- `solver_binary::pressure::answer_p`.
use mathlib.Core.Path.{refl}
use Rattle.solver_binary.specs.CriticalPointBinary.{answer_p}
use Rattle.solver_binary.proofs.pressure.answer_p.Goals as goal

pub returns : goal.returns
unfolding answer_p
returns c = refl
