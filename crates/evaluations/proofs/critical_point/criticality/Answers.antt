-- `evaluations::critical_point::criticality`.
use mathlib.Core.Path.{refl}
use Rattle.evaluations.specs.Critical.{criticality_of}
use Rattle.evaluations.proofs.critical_point.criticality.Goals as goal

pub returns : goal.returns
unfolding criticality_of
returns c = refl
