-- `jet_gradient::joined`.
use mathlib.Core.Path.{refl}
use Rattle.jet_gradient.specs.Beside.{joined_of}
use Rattle.jet_gradient.proofs.joined.Goals as goal

pub returns : goal.returns
unfolding joined_of
returns c = refl
