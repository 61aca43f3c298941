-- `jet::arith::product`.
use mathlib.Core.Path.{◌≡◌}
use Rattle.jet.specs.Positions.{positions}
use Rattle.jet.specs.Coefficients.{build, cut, product_at}
use Rattle.jet.proofs.arith.product.Given as goal

abbrev pub invariant-loop-m : goal.invariant-loop-m
invariant-loop-m l = l.c ≡ cut l.m (build (product_at l.x l.y) positions)
