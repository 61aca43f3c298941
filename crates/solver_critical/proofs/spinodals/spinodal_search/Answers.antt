-- `solver_critical::spinodals::spinodal_search`.
use mathlib.Core.Path.{◌≡◌}
use Rattle.std.proofs.Common.{rules, arith}
use Rattle.solver.proofs.Runs.{part_most, ran, then_follows}
use Rattle.solver_critical.proofs.Spans.{after_critical_100, critical_150}
use Rattle.solver_critical.specs.Spinodal.{after_critical, spinodal}
use Rattle.solver_critical.proofs.spinodals.spinodal_search.Goals as goal

pub and_then-requires-clause-fits : goal.and_then-requires-clause-fits
and_then-requires-clause-fits c v r h =
    let e : r ≡ ran c.args.blend 0 (after_critical c.args.maxdensity c.args.temperature v) = search rules in
    let s = part_most _ 150 _ c.critical_search.result (critical_150 _ _ _) c.critical_search.ensures in
    let m = part_most _ 100 _ r (after_critical_100 _ _ v) e in
    omega arith

pub returns : goal.returns
unfolding spinodal
returns c = then_follows _ _ _ _ c.critical_search.result _ c.critical_search.ensures c.and_then.ensures (λ v r h. search rules)
