-- `solver_state::state::step`.
use mathlib.Core.Path.{refl}
use Rattle.std.proofs.Common.{rules}
use Rattle.solver.specs.Evaluated.{evaluated}
use Rattle.solver_critical.specs.CriticalPoint.{start_density}
use Rattle.solver_state.specs.State.{density_step, stable_step, spinodal_step, branch_step, critical_step, spinodals_step, temperature_step, pressure_step, step_of}
use Rattle.solver_state.proofs.Stepped.{tied}
use Rattle.solver_state.proofs.state.step.Goals as goal

pub returns-in-Density : goal.returns-in-Density
unfolding step_of density_step
returns-in-Density c =
    rw (c.in-Density.is, ← c.density_place_by.ensures) (tied (λ p. density_step c.in-Density.c (evaluated c.args.blend) p c.args.state) c.density_place_by.result c.args.state c.stepped.result _ (λ a. refl) (λ x y p. search rules) c.stepped.ensures)

pub returns-in-StableDensity : goal.returns-in-StableDensity
unfolding step_of stable_step
returns-in-StableDensity c =
    rw (c.in-StableDensity.is, ← c.stable_place_by.ensures) (tied (λ p. stable_step c.in-StableDensity.maxdensity c.in-StableDensity.temperature c.in-StableDensity.pressure (evaluated c.args.blend) p c.args.state) c.stable_place_by.result c.args.state c.stepped-in-StableDensity.result _ (λ a. refl) (λ x y p. search rules) c.stepped-in-StableDensity.ensures)

pub returns-in-PressureSpinodal : goal.returns-in-PressureSpinodal
unfolding step_of spinodal_step
returns-in-PressureSpinodal c =
    rw (c.in-PressureSpinodal.is, ← c.spinodal_place_by.ensures) (tied (λ p. spinodal_step c.in-PressureSpinodal.maxdensity c.in-PressureSpinodal.temperature (evaluated c.args.blend) p c.args.state) c.spinodal_place_by.result c.args.state c.stepped-in-PressureSpinodal.result _ (λ a. refl) (λ x y p. search rules) c.stepped-in-PressureSpinodal.ensures)

pub returns-in-BranchSpinodal : goal.returns-in-BranchSpinodal
unfolding step_of branch_step
returns-in-BranchSpinodal c =
    rw (c.in-BranchSpinodal.is, ← c.spinodal_place_by-in-BranchSpinodal.ensures) (tied (λ p. branch_step c.in-BranchSpinodal.maxdensity c.in-BranchSpinodal.temperature c.in-BranchSpinodal.branch (evaluated c.args.blend) p c.args.state) c.spinodal_place_by-in-BranchSpinodal.result c.args.state c.stepped-in-BranchSpinodal.result _ (λ a. refl) (λ x y p. search rules) c.stepped-in-BranchSpinodal.ensures)

pub returns-in-CriticalPoint : goal.returns-in-CriticalPoint
unfolding step_of critical_step
returns-in-CriticalPoint c =
    rw (c.in-CriticalPoint.is, ← c.critical_place_by.ensures) (tied (λ p. critical_step c.in-CriticalPoint.maxdensity (start_density c.in-CriticalPoint.maxdensity c.in-CriticalPoint.density) (evaluated c.args.blend) p c.args.state) c.critical_place_by.result c.args.state c.stepped-in-CriticalPoint.result _ (λ a. refl) (λ x y p. search rules) c.stepped-in-CriticalPoint.ensures)

pub returns-in-StabilitySpinodals : goal.returns-in-StabilitySpinodals
unfolding step_of spinodals_step
returns-in-StabilitySpinodals c =
    rw (c.in-StabilitySpinodals.is, ← c.spinodals_place_by.ensures) (tied (λ p. spinodals_step c.in-StabilitySpinodals.maxdensity c.in-StabilitySpinodals.temperature (evaluated c.args.blend) p c.args.state) c.spinodals_place_by.result c.args.state c.stepped-in-StabilitySpinodals.result _ (λ a. refl) (λ x y p. search rules) c.stepped-in-StabilitySpinodals.ensures)

pub returns-in-CriticalPointBinaryT : goal.returns-in-CriticalPointBinaryT
unfolding step_of temperature_step
returns-in-CriticalPointBinaryT c =
    rw (c.in-CriticalPointBinaryT.is, ← c.temperature_place_by.ensures) (tied (λ p. temperature_step c.in-CriticalPointBinaryT.maxdensity c.in-CriticalPointBinaryT.temperature (evaluated c.args.blend) p c.args.state) c.temperature_place_by.result c.args.state c.stepped-in-CriticalPointBinaryT.result _ (λ a. refl) (λ x y p. search rules) c.stepped-in-CriticalPointBinaryT.ensures)

pub returns-in-CriticalPointBinaryP : goal.returns-in-CriticalPointBinaryP
unfolding step_of pressure_step
returns-in-CriticalPointBinaryP c =
    rw (c.in-CriticalPointBinaryP.is, ← c.pressure_place_by.ensures) (tied (λ p. pressure_step c.in-CriticalPointBinaryP.maxdensity c.in-CriticalPointBinaryP.pressure (evaluated c.args.blend) p c.args.state) c.pressure_place_by.result c.args.state c.stepped-in-CriticalPointBinaryP.result _ (λ a. refl) (λ x y p. search rules) c.stepped-in-CriticalPointBinaryP.ensures)
