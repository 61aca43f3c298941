-- `evaluations::residual::slope_from`.
use mathlib.Core.Path.{refl}
use lib.Ieee.{of_int, of_bits}
use Rattle.jet.specs.Coefficients.{factorial, factorial_of}
use Rattle.evaluations.specs.Residual.{derived, slope_from}
use Rattle.evaluations.proofs.residual.slope_from.Goals as goal

pub returns : goal.returns
unfolding slope_from derived factorial_of factorial of_int of_bits
returns c = refl
