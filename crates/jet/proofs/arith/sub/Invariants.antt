-- `jet::arith::sub`.
use mathlib.Core.Path.{◌≡◌}
use Rattle.jet.specs.Positions.{positions}
use Rattle.jet.specs.Coefficients.{build, cut, difference_at}
use Rattle.jet.proofs.arith.sub.Given as goal

abbrev pub invariant-loop-m : goal.invariant-loop-m
invariant-loop-m l = l.c ≡ cut l.m (build (difference_at l.a.c l.b.c) positions)
