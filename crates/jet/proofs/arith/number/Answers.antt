-- `jet::arith::number`.
use mathlib.Core.Path.{refl}
use Rattle.jet.specs.Coefficients.{number_of}
use Rattle.jet.proofs.arith.number.Goals as goal

pub returns : goal.returns
unfolding number_of
returns c = refl
