-- `solver_density::stable::density_iteration_stable`.
use Rattle.std.proofs.Common.{arith}
use Rattle.solver.proofs.Runs.{part_most}
use Rattle.solver_density.proofs.Runs.{both_phases, liquid_only}
use Rattle.solver_density.proofs.Spans.{density_3101, phase_2}
use Rattle.solver_density.proofs.stable.density_iteration_stable.Goals as goal

pub overflow_add-result : goal.overflow_add-result
overflow_add-result c =
    let l = part_most _ 3101 _ c.iteration-liquid.result (density_3101 _ _ _ _) c.iteration-liquid.ensures in
    let v = part_most _ 3101 _ c.iteration-vapor.result (density_3101 _ _ _ _) c.iteration-vapor.ensures in
    omega arith

pub overflow_add-result-then-pressure-maxdensity : goal.overflow_add-result-then-pressure-maxdensity
overflow_add-result-then-pressure-maxdensity c =
    let l = part_most _ 3101 _ c.iteration-liquid.result (density_3101 _ _ _ _) c.iteration-liquid.ensures in
    let v = part_most _ 3101 _ c.iteration-vapor.result (density_3101 _ _ _ _) c.iteration-vapor.ensures in
    let s = part_most _ 2 _ c.stable_phase-stable.result (phase_2 _ _ _) c.stable_phase-stable.ensures in
    omega arith

pub returns-then-pressure-maxdensity : goal.returns-then-pressure-maxdensity
returns-then-pressure-maxdensity c =
    rw (← c.compute_max_density-maxdensity.ensures)
    (both_phases _ _ _ _ c.iteration-liquid.result c.iteration-liquid.ensures c.iteration-vapor.result c.stable_phase-stable.result c.if-pressure-maxdensity.true c.iteration-vapor.ensures c.stable_phase-stable.ensures)

pub returns : goal.returns
returns c = rw (← c.compute_max_density-maxdensity.ensures) (liquid_only _ _ _ _ c.iteration-liquid.result c.iteration-liquid.ensures c.if-pressure-maxdensity.false)
