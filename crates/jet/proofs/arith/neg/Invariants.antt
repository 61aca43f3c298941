-- `jet::arith::neg`.
use mathlib.Core.Path.{◌≡◌}
use Rattle.jet.specs.Positions.{positions}
use Rattle.jet.specs.Coefficients.{build, cut, negation_at}
use Rattle.jet.proofs.arith.neg.Given as goal

abbrev pub invariant-loop-m : goal.invariant-loop-m
invariant-loop-m l = l.c ≡ cut l.m (build (negation_at l.a.c) positions)
