-- `jet::arith::mul_to`.
use native.Mathlib.Nat.{min-le_right}
use Rattle.jet.specs.Coefficients.{product_at, product_of}
use Rattle.jet.proofs.Rows.{cut_at_most}
use Rattle.jet.proofs.arith.mul_to.Goals as goal

pub returns-then-n-eq4 : goal.returns-then-n-eq4
returns-then-n-eq4 c = rw c.if-n-eq4.true c.mul_4.ensures

pub product-requires : goal.product-requires
product-requires c = rw c.min.ensures (min-le_right _ _)

pub returns : goal.returns
unfolding product_of
returns c = cut_at_most (product_at c.args.a.c c.args.b.c) c.args.n c.min.result _ c.min.ensures c.product.ensures
