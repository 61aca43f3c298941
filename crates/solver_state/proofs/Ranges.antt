-- Every kind: a step from counters within their ranges leads to counters within their ranges. Assumes nothing.
use mathlib.Core.Path.{◌≡◌, refl, subst}
use Prim.Native.Nat.{ℕ, ◌<◌}
use native.Mathlib.Omega.{arith}
use mathlib.Core.Bool.{Bool, true, false, cond}
use lib.Ieee.{Float}
use lib.Dec.{eqb}
use Rattle.float.specs.Ops.{f0}
use Rattle.solver.specs.declared.types.Numbers.{Numbers}
use Rattle.solver.specs.Stored.{status_fits}
use Rattle.solver.specs.Search.{Evaluator}
use Rattle.solver.proofs.Ranges.{FitsBelow, Fits, Below, below, fits, status_fits_lem, ended_below, ended_fits}
use Rattle.solver_density.specs.declared.types.Branch.{Branch}
use Rattle.solver_density.specs.declared.types.Conditions.{Conditions}
use Rattle.solver.specs.Answer.{Progress}
use Rattle.solver_step.specs.SpinodalStep.{SpinodalSpot}
use Rattle.std.specs.declared.ops.ControlFlow.TheVariants.{Break, Continue}
use Rattle.solver_step.specs.declared.types.DensitySpot.{DensitySpot}
use Rattle.solver_step.specs.Phase.{Standing}
use Rattle.solver_step.specs.declared.types.StableSpot.{StableSpot}
use Rattle.solver_step.specs.DensityStep.{phase_answer}
use Rattle.solver_step.specs.Stored.{spot_numbers, spinodal_numbers, spinodal_spot_by, spinodal_place_by, phase_by, density_spot_numbers, density_spot_by, density_numbers, density_place_by, staged, stable_numbers, stable_spot_by, stable_place_by}
use Rattle.solver_step.proofs.Ranges.{nearest_below, both_below, asks, unstaged, potential_fits, spinodal_kept, branch_kept, density_kept, stable_kept, spinodal_start_fits, branch_begin_fits, density_begin_fits, stable_begin_fits}
use Rattle.solver_critical_step.specs.declared.types.CriticalSpot.{CriticalSpot}
use Rattle.solver_critical_step.specs.declared.types.SpinodalsSpot.{SpinodalsSpot}
use Rattle.solver_critical_step.specs.Stored.{critical_spot_numbers, critical_numbers, critical_spot_by, critical_place_by, hkm_spot_by, spinodals_numbers, stability_spot_by, spinodals_spot_by, spinodals_place_by}
use Rattle.solver_critical_step.proofs.Ranges.{asks_fits, critical_kept, critical_begin_fits, spinodals_kept, spinodals_begin_fits}
use Rattle.solver_binary_step.specs.BinaryStep.{TemperatureSpot, PressureSpot}
use Rattle.solver_binary_step.specs.Stored.{temperature_numbers, temperature_spot_by, temperature_place_by, pressure_numbers, pressure_spot_by, pressure_place_by}
use Rattle.solver_binary_step.proofs.Ranges as Binary
use Rattle.solver_state.specs.declared.types.Job.{Job}
use Rattle.solver_state.specs.declared.types.Job.TheVariants.{Density, StableDensity, PressureSpinodal, BranchSpinodal, CriticalPoint, StabilitySpinodals, CriticalPointBinaryT, CriticalPointBinaryP}
use Rattle.solver_state.specs.declared.types.State.{State}
use Rattle.solver_state.specs.State.{most_rounds, begin_of, start_of, density_step, stable_step, spinodal_step, branch_step, critical_step, spinodals_step, temperature_step, pressure_step, step_of}

-- by a test
cond_below : {S : Type 0} (most : ℕ) (numbers : S → Numbers) (b : Bool) (x y : S) → FitsBelow most (numbers x) → FitsBelow most (numbers y) → FitsBelow most (numbers (cond b x y))
cond_below most numbers true x y p q = p
cond_below most numbers false x y p q = q

cond-fits : {S : Type 0} (numbers : S → Numbers) (b : Bool) (x y : S) → Fits (numbers x) → Fits (numbers y) → Fits (numbers (cond b x y))
cond-fits numbers b x y p q = cond_below 50 numbers b x y p q

-- ---- what is read from counters within their ranges is stored within them
module _ (n : Numbers) (h : Fits n) where
  abbrev b : Below 50 n.counters
  b = below 50 n.counters h

  spinodal_read : Fits (spinodal_numbers (spinodal_place_by n))
  unfolding spinodal_place_by spinodal_numbers spinodal_spot_by spot_numbers status_fits
  spinodal_read =
      cond-fits spinodal_numbers (eqb n.counters.tag 0) _ _ (ended_fits _)
      (fits 50 _ (record { stage = omega arith; tag = omega arith; status = refl; left = omega arith; way = omega arith; rounds = b.rounds }))

  -- a density search's spot, in a stage of kind 2 or in kind 1
  module _ (stage status : ℕ) (z : Float) (g : stage < 5) (st : status_fits status ≡ true) where
    abbrev numbers : DensitySpot → Numbers
    numbers s = staged stage status z (density_spot_numbers s)

    spot_read : Fits (numbers (density_spot_by n))
    unfolding density_spot_by density_spot_numbers spinodal_spot_by
    spot_read =
        cond-fits numbers (eqb n.counters.tag 1) _ _ (asks stage status z g st 1 0 0 0 _ _ (omega arith) (omega arith) (omega arith) (omega arith))
        (cond-fits numbers (eqb n.counters.tag 2) _ _ (asks stage status z g st 2 _ 0 0 _ _ (omega arith) b.left (omega arith) (omega arith))
        (cond-fits numbers (eqb n.counters.tag 3) _ _ (asks stage status z g st 3 _ 0 0 _ _ (omega arith) b.left (omega arith) (omega arith))
        (cond-fits numbers (eqb n.counters.tag 4) _ _ (asks stage status z g st 4 _ _ _ _ _ (omega arith) b.left (nearest_below _) b.rounds)
        (cond-fits numbers (eqb n.counters.tag 5) _ _ (asks stage status z g st 5 _ _ _ _ _ (omega arith) b.left (both_below _) b.rounds)
        (asks stage status z g st 6 _ _ _ _ _ (omega arith) b.left (both_below _) b.rounds)))))

  density_read : Fits (density_numbers (density_place_by n))
  unfolding density_place_by density_numbers status_fits
  density_read = cond-fits density_numbers (eqb n.counters.tag 0) _ _ (ended_fits _) (rw unstaged at (spot_read 0 0 f0 (omega arith) refl))

  stable_read : Fits (stable_numbers (stable_place_by n))
  unfolding stable_place_by stable_spot_by stable_numbers status_fits
  stable_read =
      cond-fits stable_numbers (eqb n.counters.stage 0) _ _ (ended_fits _)
      (cond-fits at (eqb n.counters.stage 1) _ _ (spot_read 1 0 f0 (omega arith) refl)
      (cond-fits at (eqb n.counters.stage 2) _ _ (spot_read 2 _ _ (omega arith) (status_fits_lem (phase_answer (phase_by n.counters.status n.values.third))))
      (cond-fits at (eqb n.counters.stage 3) _ _ (potential_fits 3 _ _ _ (omega arith)) (potential_fits 4 _ _ _ (omega arith)))))
    where
      at : StableSpot → Numbers
      at s = stable_numbers (Continue s)

  critical_spot_read : (stage : ℕ) → stage < 5 → Fits (critical_spot_numbers stage (critical_spot_by n))
  unfolding critical_spot_by critical_spot_numbers hkm_spot_by
  critical_spot_read stage g =
      cond-fits (critical_spot_numbers stage) (eqb n.counters.tag 1) _ _ (asks_fits stage 1 0 _ _ _ g (omega arith) (omega arith) b.rounds)
      (asks_fits stage 2 _ _ _ _ g (omega arith) b.way b.rounds)

  critical_read : Fits (critical_numbers (critical_place_by n))
  unfolding critical_place_by critical_numbers
  critical_read = cond-fits critical_numbers (eqb n.counters.tag 0) _ _ (ended_fits _) (critical_spot_read 0 (omega arith))

  spinodals_read : Fits (spinodals_numbers (spinodals_place_by n))
  unfolding spinodals_place_by spinodals_spot_by spinodals_numbers stability_spot_by
  spinodals_read =
      cond-fits spinodals_numbers (eqb n.counters.stage 0) _ _ (ended_fits _)
      (cond-fits asking (eqb n.counters.stage 1) _ _ (critical_spot_read 1 (omega arith))
      (cond-fits asking (eqb n.counters.stage 2) _ _ (asks_fits 2 0 0 _ _ _ (omega arith) (omega arith) (omega arith) b.rounds)
      (asks_fits 3 0 0 _ _ _ (omega arith) (omega arith) (omega arith) b.rounds)))
    where
      asking : SpinodalsSpot → Numbers
      asking x = spinodals_numbers (Continue x)

module _ (n : Numbers) (h : FitsBelow 200 n) where
  temperature_read : FitsBelow 200 (temperature_numbers (temperature_place_by n))
  unfolding temperature_place_by temperature_spot_by temperature_numbers
  temperature_read = cond_below 200 temperature_numbers (eqb n.counters.tag 0) _ _ (ended_below 200 _ (omega arith)) (Binary.asks_fits n.counters.rounds _ _ _ (below 200 n.counters h).rounds)

  pressure_read : FitsBelow 200 (pressure_numbers (pressure_place_by n))
  unfolding pressure_place_by pressure_spot_by pressure_numbers
  pressure_read = cond_below 200 pressure_numbers (eqb n.counters.tag 0) _ _ (ended_below 200 _ (omega arith)) (Binary.asks_fits n.counters.rounds _ _ _ (below 200 n.counters h).rounds)

-- ---- a step
module _ (ev : Evaluator) (s : State) (h : Fits s.numbers) where
  density_fits : (c : Conditions) (p : Standing DensitySpot) → density_place_by s.numbers ≡ p → Fits (density_step c ev p s).numbers
  unfolding density_step
  density_fits c (Break a) e = h
  density_fits c (Continue x) e = density_kept c ev x (subst (λ (p : Standing DensitySpot). Fits (density_numbers p)) e (density_read s.numbers h))

  stable_fits : (maxdensity t p : Float) (x : Standing StableSpot) → stable_place_by s.numbers ≡ x → Fits (stable_step maxdensity t p ev x s).numbers
  unfolding stable_step
  stable_fits maxdensity t p (Break a) e = h
  stable_fits maxdensity t p (Continue x) e = stable_kept maxdensity t p ev x (subst (λ (p : Standing StableSpot). Fits (stable_numbers p)) e (stable_read s.numbers h))

  spinodal_fits : (maxdensity t : Float) (p : Progress SpinodalSpot) → spinodal_place_by s.numbers ≡ p → Fits (spinodal_step maxdensity t ev p s).numbers
  unfolding spinodal_step
  spinodal_fits maxdensity t (Break a) e = h
  spinodal_fits maxdensity t (Continue x) e = spinodal_kept maxdensity t ev x (subst (λ (p : Progress SpinodalSpot). Fits (spinodal_numbers p)) e (spinodal_read s.numbers h))

  branch_fits : (maxdensity t : Float) (branch : Branch) (p : Progress SpinodalSpot) → spinodal_place_by s.numbers ≡ p → Fits (branch_step maxdensity t branch ev p s).numbers
  unfolding branch_step
  branch_fits maxdensity t branch (Break a) e = h
  branch_fits maxdensity t branch (Continue x) e = branch_kept maxdensity t ev x (subst (λ (p : Progress SpinodalSpot). Fits (spinodal_numbers p)) e (spinodal_read s.numbers h)) branch

  critical_fits : (maxdensity ρ : Float) (p : Progress CriticalSpot) → critical_place_by s.numbers ≡ p → Fits (critical_step maxdensity ρ ev p s).numbers
  unfolding critical_step
  critical_fits maxdensity ρ (Break a) e = h
  critical_fits maxdensity ρ (Continue x) e = critical_kept maxdensity ρ ev x (subst (λ (p : Progress CriticalSpot). Fits (critical_numbers p)) e (critical_read s.numbers h))

  spinodals_fits : (maxdensity t : Float) (p : Progress SpinodalsSpot) → spinodals_place_by s.numbers ≡ p → Fits (spinodals_step maxdensity t ev p s).numbers
  unfolding spinodals_step
  spinodals_fits maxdensity t (Break a) e = h
  spinodals_fits maxdensity t (Continue x) e = spinodals_kept maxdensity t ev x (subst (λ (p : Progress SpinodalsSpot). Fits (spinodals_numbers p)) e (spinodals_read s.numbers h))

module _ (ev : Evaluator) (s : State) (h : FitsBelow 200 s.numbers) where
  temperature_fits_lem : (maxdensity t : Float) (p : Progress TemperatureSpot) → temperature_place_by s.numbers ≡ p → FitsBelow 200 (temperature_step maxdensity t ev p s).numbers
  unfolding temperature_step
  temperature_fits_lem maxdensity t (Break a) e = h
  temperature_fits_lem maxdensity t (Continue x) e = Binary.temperature_kept maxdensity t ev x (subst (λ (p : Progress TemperatureSpot). FitsBelow 200 (temperature_numbers p)) e (temperature_read s.numbers h))

  pressure_fits : (maxdensity pressure : Float) (p : Progress PressureSpot) → pressure_place_by s.numbers ≡ p → FitsBelow 200 (pressure_step maxdensity pressure ev p s).numbers
  unfolding pressure_step
  pressure_fits maxdensity pressure (Break a) e = h
  pressure_fits maxdensity pressure (Continue x) e = Binary.pressure_kept maxdensity pressure ev x (subst (λ (p : Progress PressureSpot). FitsBelow 200 (pressure_numbers p)) e (pressure_read s.numbers h))

-- a step keeps the ranges
pub ranges_kept : (job : Job) (ev : Evaluator) (s : State) → FitsBelow (most_rounds job) s.numbers → FitsBelow (most_rounds job) (step_of job ev s).numbers
unfolding most_rounds step_of
ranges_kept (Density c) ev s h = density_fits ev s h c _ refl
ranges_kept (StableDensity maxdensity t p) ev s h = stable_fits ev s h maxdensity t p _ refl
ranges_kept (PressureSpinodal maxdensity t ρ) ev s h = spinodal_fits ev s h maxdensity t _ refl
ranges_kept (BranchSpinodal maxdensity t branch) ev s h = branch_fits ev s h maxdensity t branch _ refl
ranges_kept (CriticalPoint maxdensity temperature density) ev s h = critical_fits ev s h maxdensity _ _ refl
ranges_kept (StabilitySpinodals maxdensity t) ev s h = spinodals_fits ev s h maxdensity t _ refl
ranges_kept (CriticalPointBinaryT maxdensity z0 z1 t density) ev s h = temperature_fits_lem ev s h maxdensity t _ refl
ranges_kept (CriticalPointBinaryP maxdensity z0 z1 pressure temperature density) ev s h = pressure_fits ev s h maxdensity pressure _ refl

-- a search begins within them
pub starts_in_ranges : (job : Job) → FitsBelow (most_rounds job) (start_of job).numbers
unfolding most_rounds start_of begin_of
starts_in_ranges (Density c) = density_begin_fits c
starts_in_ranges (StableDensity maxdensity t p) = stable_begin_fits maxdensity t p
starts_in_ranges (PressureSpinodal maxdensity t ρ) = spinodal_start_fits ρ
starts_in_ranges (BranchSpinodal maxdensity t branch) = branch_begin_fits maxdensity branch
starts_in_ranges (CriticalPoint maxdensity temperature density) = critical_begin_fits _ temperature
starts_in_ranges (StabilitySpinodals maxdensity t) = spinodals_begin_fits maxdensity
starts_in_ranges (CriticalPointBinaryT maxdensity z0 z1 t density) = Binary.temperature_begin_fits maxdensity z0 z1 density
starts_in_ranges (CriticalPointBinaryP maxdensity z0 z1 pressure temperature density) = Binary.pressure_begin_fits maxdensity z0 z1 temperature density
