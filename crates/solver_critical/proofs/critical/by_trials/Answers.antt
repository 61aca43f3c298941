-- `solver_critical::critical::by_trials`.
use mathlib.Core.Path.{refl}
use native.Mathlib.Omega.{arith}
use lib.Ieee.{nan}
use Rattle.float.specs.Ops.{f0}
use Rattle.solver.proofs.Runs.{part_most}
use Rattle.solver_critical.proofs.Runs.{get_d_any, trial_fails, trial_found, trial_turn, trials_over}
use Rattle.solver_critical.proofs.Spans.{hkm_50}
use Rattle.solver_critical.specs.CriticalPoint.{trial_temperatures}
use Rattle.solver_critical.proofs.critical.by_trials.Goals as goal

pub overflow_add-evaluations : goal.overflow_add-evaluations
overflow_add-evaluations c =
    let most = part_most _ 50 _ c.critical_point_hkm-trial.result (hkm_50 _ _ _) c.critical_point_hkm-trial.ensures in
    omega arith

pub returns-in-Ok : goal.returns-in-Ok
unfolding trial_temperatures
returns-in-Ok c =
    trial_found _ _ _ _ _ _ c.in-Ok.is (trial_turn _ _ _ _ _ _ c.critical_point_hkm-trial.result _ c.loop-t-test.true (get_d_any trial_temperatures _ nan f0 c.loop-t-test.true) c.critical_point_hkm-trial.ensures c.loop-t.invariant.1)

pub loop-t-preserved : goal.loop-t-preserved
unfolding trial_temperatures
loop-t-preserved c =
    let most = part_most _ 50 _ c.critical_point_hkm-trial.result (hkm_50 _ _ _) c.critical_point_hkm-trial.ensures in
    (omega arith, trial_fails _ _ _ _ _ _ c.in_default.is (trial_turn _ _ _ _ _ _ c.critical_point_hkm-trial.result _ c.loop-t-test.true (get_d_any trial_temperatures _ nan f0 c.loop-t-test.true) c.critical_point_hkm-trial.ensures c.loop-t.invariant.1))

pub returns : goal.returns
returns c = trials_over _ _ _ _ _ _ c.loop-t-test.false c.loop-t.invariant.1
