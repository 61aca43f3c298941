-- `jet::arith::mul`.
use Rattle.jet.specs.Coefficients.{product_at, product_of}
use Rattle.jet.proofs.Rows.{cut_full}
use Rattle.jet.proofs.arith.mul.Goals as goal

pub returns : goal.returns
unfolding product_of
returns c = cut_full (product_at c.args.a.c c.args.b.c) _ c.product.ensures
