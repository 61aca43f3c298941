use mathlib.Core.Path.{refl, ◌∙◌}
use native.Mathlib.Omega.{arith}
use Rattle.jet.specs.Coefficients.{product_at, product_of}
use Rattle.jet.proofs.Build.{fill_start, fill_turn}
use Rattle.jet.proofs.Rows.{product_row, filled}
use Rattle.jet.proofs.arith.product.Goals as goal

pub loop-m-init : goal.loop-m-init
loop-m-init c = fill_start _

pub loop-m-preserved : goal.loop-m-preserved
unfolding product_at
loop-m-preserved c =
    let x = c.args.x.now in
    let y = c.args.y.now in
    fill_turn (product_at x y) (λ m c d h. refl) c.loop-m.m _ c.loop-m.c (omega arith) c.loop-m.invariant (c.plus.ensures ∙ product_row x y c.loop-m.c c.loop-m.m)

pub returns : goal.returns
unfolding product_of
returns c =
    filled (product_at c.args.x.now c.args.y.now) c.args.end c.loop-m.m _ (omega arith) c.loop-m.invariant
