-- `solver_binary::temperature::answer_t`.
use mathlib.Core.Path.{refl}
use Rattle.solver_binary.specs.CriticalPointBinary.{answer_t}
use Rattle.solver_binary.proofs.temperature.answer_t.Goals as goal

pub returns : goal.returns
unfolding answer_t
returns c = refl
