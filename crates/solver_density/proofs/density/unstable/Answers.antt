-- `solver_density::density::unstable`.
use Rattle.std.proofs.Common.{arith}
use Rattle.solver.proofs.Runs.{part_most}
use Rattle.solver_density.proofs.Runs.{unstable_on, unstable_refused}
use Rattle.solver_density.proofs.Spans.{detour_60}
use Rattle.solver_density.proofs.density.unstable.Goals as goal

pub overflow_add-result : goal.overflow_add-result
overflow_add-result c = let m = part_most _ 60 _ c.detour-d.result (detour_60 _ _) c.detour-d.ensures in omega arith

pub returns-then-all_finite : goal.returns-then-all_finite
returns-then-all_finite c = unstable_on _ _ _ _ _ _ _ c.detour-d.result c.p_dpdrho_d2pdrho2-y.ensures c.all_finite.ensures c.if-all_finite.true c.detour_of.ensures c.detour-d.ensures

pub returns-else-all_finite : goal.returns-else-all_finite
returns-else-all_finite c = unstable_refused _ _ _ _ _ _ c.p_dpdrho_d2pdrho2-y.ensures c.all_finite.ensures c.if-all_finite.false
