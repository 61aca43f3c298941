-- `jet_gradient::Four::at`.
use mathlib.Core.Path.{refl}
use Rattle.jet_gradient.specs.Beside.{four_at}
use Rattle.jet_gradient.proofs.Four.at.Goals as goal

pub returns : goal.returns
unfolding four_at
returns c = refl
