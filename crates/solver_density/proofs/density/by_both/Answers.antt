-- `solver_density::density::by_both`.
use Rattle.std.proofs.Common.{◌≡◌, arith, rules}
use Rattle.solver.proofs.Runs.{ran, part_most, then_follows}
use Rattle.solver_density.proofs.Spans.{branch_30, vapor_30}
use Rattle.solver_density.specs.Density.{detour, vapor}
use Rattle.solver_density.proofs.density.by_both.Goals as goal

pub and_then-requires-clause-fits : goal.and_then-requires-clause-fits
and_then-requires-clause-fits c = λ v r p.
    let e : r ≡ ran c.args.blend 0 (vapor c.args.c c.args.way v.second) = search rules in
    let l = part_most _ 30 _ c.branch_search.result (branch_30 _ _ _) c.branch_search.ensures in
    let m = part_most _ 30 (vapor c.args.c c.args.way v.second) r (vapor_30 _ _ _) e in
    omega arith

pub returns : goal.returns
unfolding detour
returns c = then_follows _ _ (λ l. vapor c.args.c c.args.way l.second) _ c.branch_search.result _ c.branch_search.ensures c.and_then.ensures (λ v r p. search rules)
