-- `jet::functions::ln_to`.
use native.Mathlib.Nat.{min-le_right}
use Rattle.jet.specs.Coefficients.{logarithm_at, logarithm_of}
use Rattle.jet.proofs.Rows.{cut_at_most}
use Rattle.jet.proofs.functions.ln_to.Goals as goal

pub returns-then-n-eq4 : goal.returns-then-n-eq4
returns-then-n-eq4 c = rw c.if-n-eq4.true c.ln_4.ensures

pub logarithm-requires : goal.logarithm-requires
logarithm-requires c = rw c.min.ensures (min-le_right _ _)

pub returns : goal.returns
unfolding logarithm_of
returns c = cut_at_most (logarithm_at c.args.a.c) c.args.n c.min.result _ c.min.ensures c.logarithm.ensures
