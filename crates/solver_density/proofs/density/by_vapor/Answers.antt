-- `solver_density::density::by_vapor`.
use Rattle.std.proofs.Common.{rules}
use Rattle.solver.proofs.Runs.{then_answer}
use Rattle.solver_density.specs.Density.{after_both, density, vapor}
use Rattle.solver_density.proofs.density.by_vapor.Goals as goal

pub returns : goal.returns
unfolding vapor
returns c =
    let a = c.args in
    then_answer _ _ (λ v. density (after_both a.c a.way a.liquid v)) _ c.branch_search-s.result _ c.branch_search-s.ensures c.and_then.ensures (λ v p. search rules)
