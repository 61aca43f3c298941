-- `evaluations::critical_point_binary::condition`.
use mathlib.Core.Path.{refl}
use Rattle.evaluations.specs.CriticalBinary.{condition_of}
use Rattle.evaluations.proofs.critical_point_binary.condition.Goals as goal

pub returns : goal.returns
unfolding condition_of
returns c = refl
