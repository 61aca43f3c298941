-- `solver_critical::spinodals::after_critical`.
use mathlib.Core.Path.{◌≡◌}
use Rattle.std.proofs.Common.{rules, arith}
use Rattle.solver.proofs.Runs.{part_most, ran, then_follows}
use Rattle.solver_critical.proofs.Spans.{calculate_50, vapor_50}
use Rattle.solver_critical.specs.Spinodal.{after_critical, after_vapor}
use Rattle.solver_critical.proofs.spinodals.after_critical.Goals as goal

pub and_then-requires-clause-fits : goal.and_then-requires-clause-fits
and_then-requires-clause-fits c v r h =
    let e : r ≡ ran c.args.blend 0 (after_vapor c.args.maxdensity c.args.temperature c.args.critical.second v) = search rules in
    let s = part_most _ 50 _ c.calculate_spinodal.result (calculate_50 _ _ _) c.calculate_spinodal.ensures in
    let m = part_most _ 50 _ r (vapor_50 _ _ _ v) e in
    omega arith

pub returns : goal.returns
unfolding after_critical
returns c = then_follows _ _ _ _ c.calculate_spinodal.result _ c.calculate_spinodal.ensures c.and_then.ensures (λ v r h. search rules)
