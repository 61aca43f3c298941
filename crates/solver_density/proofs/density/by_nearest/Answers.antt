-- `solver_density::density::by_nearest`.
use Rattle.std.proofs.Common.{rules}
use Rattle.solver.proofs.Runs.{then_answer}
use Rattle.solver_density.specs.Density.{after_nearest, detour}
use Rattle.solver_density.proofs.density.by_nearest.Goals as goal

pub returns : goal.returns
unfolding detour
returns c = then_answer _ _ (after_nearest c.args.c c.args.way) _ c.spinodal_search-s.result _ c.spinodal_search-s.ensures c.and_then.ensures (λ v p. search rules)
