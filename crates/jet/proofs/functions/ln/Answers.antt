-- `jet::functions::ln`.
use Rattle.jet.specs.Coefficients.{logarithm_at, logarithm_of}
use Rattle.jet.proofs.Rows.{cut_full}
use Rattle.jet.proofs.functions.ln.Goals as goal

pub returns : goal.returns
unfolding logarithm_of
returns c = cut_full (logarithm_at c.args.a.c) _ c.logarithm.ensures
