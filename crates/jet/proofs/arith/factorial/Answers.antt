-- `jet::arith::factorial`.
use mathlib.Core.Path.{sym, ap}
use lib.Ieee.{of_int, of_bits}
use Rattle.jet.specs.Coefficients.{factorial, factorial_of}
use Rattle.jet.proofs.ByE0.{factorial_one}
use borrow.Author.Rules.{rules}
use Rattle.jet.proofs.arith.factorial.Goals as goal

pub returns-in-3 : goal.returns-in-3
unfolding factorial_of factorial of_int of_bits
returns-in-3 c = sym (ap factorial_of c.in-3.is)

pub returns-in-2 : goal.returns-in-2
unfolding factorial_of factorial of_int of_bits
returns-in-2 c = sym (ap factorial_of c.in-2.is)

pub returns-in_default : goal.returns-in_default
returns-in_default c = factorial_one c.args.k c.requires (search rules) (search rules)
