-- `jet::arith::quotient`.
use mathlib.Core.Path.{◌≡◌}
use Rattle.jet.specs.Positions.{positions}
use Rattle.jet.specs.Coefficients.{build, cut, quotient_at}
use Rattle.jet.proofs.arith.quotient.Given as goal

abbrev pub invariant-loop-m : goal.invariant-loop-m
invariant-loop-m l = l.q ≡ cut l.m (build (quotient_at l.x l.y) positions)
