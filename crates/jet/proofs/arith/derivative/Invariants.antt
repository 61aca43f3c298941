-- `jet::arith::derivative`.
use mathlib.Core.Path.{◌≡◌}
use Rattle.jet.specs.Positions.{positions}
use Rattle.jet.specs.Coefficients.{build, cut, derivative_at}
use Rattle.jet.proofs.arith.derivative.Given as goal

abbrev pub invariant-loop-m : goal.invariant-loop-m
invariant-loop-m l = l.c ≡ cut l.m (build (derivative_at l.k l.a.c) positions)
