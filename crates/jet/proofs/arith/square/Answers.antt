-- `jet::arith::square`.
use Rattle.jet.specs.Coefficients.{square_of}
use Rattle.jet.proofs.arith.square.Goals as goal

pub returns : goal.returns
unfolding square_of
returns c = c.mul.ensures
