-- `jet::arith::div`.
use Rattle.jet.specs.Coefficients.{quotient_at, quotient_of}
use Rattle.jet.proofs.Rows.{cut_full}
use Rattle.jet.proofs.arith.div.Goals as goal

pub returns : goal.returns
unfolding quotient_of
returns c = cut_full (quotient_at c.args.a.c c.args.b.c) _ c.quotient.ensures
