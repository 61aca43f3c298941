-- `jet::functions::sqrt`.
use Rattle.jet.specs.Coefficients.{root_at, root_of}
use Rattle.jet.proofs.Rows.{cut_full}
use Rattle.jet.proofs.functions.sqrt.Goals as goal

pub returns : goal.returns
unfolding root_of
returns c = cut_full (root_at c.args.a.c) _ c.root.ensures
