-- `jet::arith::add`.
use mathlib.Core.Path.{◌≡◌}
use Rattle.jet.specs.Positions.{positions}
use Rattle.jet.specs.Coefficients.{build, cut, sum_at}
use Rattle.jet.proofs.arith.add.Given as goal

abbrev pub invariant-loop-m : goal.invariant-loop-m
invariant-loop-m l = l.c ≡ cut l.m (build (sum_at l.a.c l.b.c) positions)
