-- `jet::arith::coefficient`.
use Rattle.std.specs.Float.Ieee.{of_bits}
use Rattle.jet.specs.Coefficients.{coefficient_of}
use borrow.Author.Rules.{rules}
use Rattle.jet.proofs.arith.coefficient.Goals as goal

pub returns : goal.returns
unfolding coefficient_of of_bits
returns c = search rules
