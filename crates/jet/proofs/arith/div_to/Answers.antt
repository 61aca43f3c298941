-- `jet::arith::div_to`.
use native.Mathlib.Nat.{min-le_right}
use Rattle.jet.specs.Coefficients.{quotient_at, quotient_of}
use Rattle.jet.proofs.Rows.{cut_at_most}
use Rattle.jet.proofs.arith.div_to.Goals as goal

pub returns-then-n-eq4 : goal.returns-then-n-eq4
returns-then-n-eq4 c = rw c.if-n-eq4.true c.div_4.ensures

pub quotient-requires : goal.quotient-requires
quotient-requires c = rw c.min.ensures (min-le_right _ _)

pub returns : goal.returns
unfolding quotient_of
returns c = cut_at_most (quotient_at c.args.a.c c.args.b.c) c.args.n c.min.result _ c.min.ensures c.quotient.ensures
