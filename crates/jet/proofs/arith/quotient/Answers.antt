use native.Mathlib.Omega.{arith}
use Rattle.jet.specs.Coefficients.{quotient_at, quotient_of}
use Rattle.jet.proofs.Among.{least}
use Rattle.jet.proofs.Build.{fill_start, fill_turn}
use Rattle.jet.proofs.Rows.{quotient_row, filled}
use Rattle.jet.proofs.Rules.{quotient_local}
use borrow.Author.Rules.{rules}
use Rattle.jet.proofs.arith.quotient.Goals as goal

pub loop-m-init : goal.loop-m-init
loop-m-init c = fill_start _

pub minus-requires : goal.minus-requires
minus-requires c = (search rules, least _)

pub loop-m-preserved : goal.loop-m-preserved
loop-m-preserved c =
    let x = c.args.x.now in
    let y = c.args.y.now in
    fill_turn (quotient_at x y) (quotient_local x y) c.loop-m.m _ c.loop-m.q (omega arith) c.loop-m.invariant (quotient_row x y c.loop-m.q c.loop-m.m _ c.minus.ensures)

pub returns : goal.returns
unfolding quotient_of
returns c =
    filled (quotient_at c.args.x.now c.args.y.now) c.args.end c.loop-m.m _ (omega arith) c.loop-m.invariant
