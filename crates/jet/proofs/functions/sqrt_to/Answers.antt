-- `jet::functions::sqrt_to`.
use native.Mathlib.Nat.{min-le_right}
use Rattle.jet.specs.Coefficients.{root_at, root_of}
use Rattle.jet.proofs.Rows.{cut_at_most}
use Rattle.jet.proofs.functions.sqrt_to.Goals as goal

pub returns-then-n-eq4 : goal.returns-then-n-eq4
returns-then-n-eq4 c = rw c.if-n-eq4.true c.sqrt_4.ensures

pub root-requires : goal.root-requires
root-requires c = rw c.min.ensures (min-le_right _ _)

pub returns : goal.returns
unfolding root_of
returns c = cut_at_most (root_at c.args.a.c) c.args.n c.min.result _ c.min.ensures c.root.ensures
