-- The numbers of a search under way are those of its place, so at an end they are the numbers of its answer. Assumes nothing.
use Rattle.std.proofs.Common.{◌≡◌, ℕ, sym, ap, ◌∙◌, arith}
use lib.Ieee.{Float}
use Rattle.float.specs.Ops.{f0}
use Rattle.float.specs.Sign.{finite_of}
use Rattle.solver.specs.Answer.{Answer}
use Rattle.solver.specs.declared.types.Numbers.{Numbers}
use Rattle.solver.specs.Search.{Evaluator, Search, done, Going, next_of}
use Rattle.solver.specs.Stored.{ended_numbers}
use Rattle.solver.proofs.Steps.{moved}
use Rattle.solver_density.specs.declared.types.Branch.{Branch}
use Rattle.solver_density.specs.declared.types.Conditions.{Conditions}
use Rattle.solver_critical.specs.CriticalPoint.{start_density}
use Rattle.solver.specs.Answer.{Progress}
use Rattle.solver_step.specs.SpinodalStep.{SpinodalSpot}
use Rattle.std.specs.declared.ops.ControlFlow.TheVariants.{Break, Continue}
use Rattle.solver_step.specs.Phase.{Standing}
use Rattle.solver_step.specs.declared.types.DensitySpot.{DensitySpot}
use Rattle.solver_step.specs.declared.types.StableSpot.{StableSpot}
use Rattle.solver_step.specs.SpinodalStep.{spinodal_start, spinodal_left, spinodal_next, branch_begin, branch_left, branch_next}
use Rattle.solver_step.specs.DensityStep.{density_left, density_next, density_begin}
use Rattle.solver_step.specs.StableStep.{stable_left, stable_next, stable_begin}
use Rattle.solver_step.specs.Stored.{spinodal_numbers, spinodal_place_by, density_numbers, density_place_by, stable_numbers, stable_place_by}
use Rattle.solver_step.proofs.SpinodalLaw.{spinodal_law, branch_law}
use Rattle.solver_step.proofs.DensityLaw.{density_law}
use Rattle.solver_step.proofs.StableLaw.{stable_law}
use Rattle.solver_step.proofs.StoredBack.{spinodal_back, density_back, stable_back}
use Rattle.solver_critical_step.specs.declared.types.CriticalSpot.{CriticalSpot}
use Rattle.solver_critical_step.specs.declared.types.SpinodalsSpot.{SpinodalsSpot}
use Rattle.solver_critical_step.specs.CriticalStep.{critical_left, critical_next, critical_begin}
use Rattle.solver_critical_step.specs.SpinodalsStep.{spinodals_left, spinodals_next, spinodals_begin}
use Rattle.solver_critical_step.specs.Stored.{critical_numbers, critical_place_by, spinodals_numbers, spinodals_place_by}
use Rattle.solver_critical_step.proofs.CriticalLaw.{critical_law}
use Rattle.solver_critical_step.proofs.SpinodalsLaw.{spinodals_law}
use Rattle.solver_critical_step.proofs.StoredBack.{critical_back, spinodals_back}
use Rattle.solver_binary_step.specs.BinaryStep.{TemperatureSpot, PressureSpot, temperature_left, temperature_next, temperature_begin, pressure_left, pressure_next, pressure_begin}
use Rattle.solver_binary_step.specs.Stored.{temperature_numbers, temperature_place_by, pressure_numbers, pressure_place_by}
use Rattle.solver_binary_step.proofs.BinaryLaw.{temperature_law, pressure_law}
use Rattle.solver_binary_step.proofs.StoredBack.{temperature_back, pressure_back}
use Rattle.solver_state.specs.declared.types.Job.{Job}
use Rattle.solver_state.specs.declared.types.Job.TheVariants.{Density, StableDensity, PressureSpinodal, BranchSpinodal, CriticalPoint, StabilitySpinodals, CriticalPointBinaryT, CriticalPointBinaryP}
use Rattle.solver_state.specs.declared.types.State.{State}
use Rattle.solver_state.specs.State.{left_of, begin_of, density_step, stable_step, spinodal_step, branch_step, critical_step, spinodals_step, temperature_step, pressure_step, step_of}

-- the numbers read as a place and stored again
pub again : Job → Numbers → Numbers
again (Density c) n = density_numbers (density_place_by n)
again (StableDensity maxdensity t p) n = stable_numbers (stable_place_by n)
again (PressureSpinodal maxdensity t ρ) n = spinodal_numbers (spinodal_place_by n)
again (BranchSpinodal maxdensity t branch) n = spinodal_numbers (spinodal_place_by n)
again (CriticalPoint maxdensity temperature density) n = critical_numbers (critical_place_by n)
again (StabilitySpinodals maxdensity t) n = spinodals_numbers (spinodals_place_by n)
again (CriticalPointBinaryT maxdensity z0 z1 t density) n = temperature_numbers (temperature_place_by n)
again (CriticalPointBinaryP maxdensity z0 z1 p temperature density) n = pressure_numbers (pressure_place_by n)

-- a search begins with the numbers of a place,
pub begin_again : (job : Job) → again job (begin_of job) ≡ begin_of job
unfolding again begin_of
begin_again (Density c) = ap density_numbers (density_back (density_begin c))
begin_again (StableDensity maxdensity t p) = ap stable_numbers (stable_back (stable_begin maxdensity t p))
begin_again (PressureSpinodal maxdensity t ρ) = ap spinodal_numbers (spinodal_back (spinodal_start ρ))
begin_again (BranchSpinodal maxdensity t branch) = ap spinodal_numbers (spinodal_back (branch_begin maxdensity branch))
begin_again (CriticalPoint maxdensity temperature density) = ap critical_numbers (critical_back (critical_begin (start_density maxdensity density) temperature))
begin_again (StabilitySpinodals maxdensity t) = ap spinodals_numbers (spinodals_back (spinodals_begin maxdensity))
begin_again (CriticalPointBinaryT maxdensity z0 z1 t density) = ap temperature_numbers (temperature_back (temperature_begin maxdensity z0 z1 density))
begin_again (CriticalPointBinaryP maxdensity z0 z1 p temperature density) = ap pressure_numbers (pressure_back (pressure_begin maxdensity z0 z1 temperature density))

-- and a step leads to the numbers of a place
module _ (ev : Evaluator) (s : State) where
  density_again : (c : Conditions) (p : Standing DensitySpot) → density_numbers (density_place_by s.numbers) ≡ s.numbers
      → density_numbers (density_place_by (density_step c ev p s).numbers) ≡ (density_step c ev p s).numbers
  unfolding density_step
  density_again c (Break a) h = h
  density_again c (Continue x) h = ap density_numbers (density_back (density_next c ev x))

  stable_again : (maxdensity t p : Float) (x : Standing StableSpot) → stable_numbers (stable_place_by s.numbers) ≡ s.numbers
      → stable_numbers (stable_place_by (stable_step maxdensity t p ev x s).numbers) ≡ (stable_step maxdensity t p ev x s).numbers
  unfolding stable_step
  stable_again maxdensity t p (Break a) h = h
  stable_again maxdensity t p (Continue x) h = ap stable_numbers (stable_back (stable_next maxdensity t p ev x))

  spinodal_again : (maxdensity t : Float) (p : Progress SpinodalSpot) → spinodal_numbers (spinodal_place_by s.numbers) ≡ s.numbers
      → spinodal_numbers (spinodal_place_by (spinodal_step maxdensity t ev p s).numbers) ≡ (spinodal_step maxdensity t ev p s).numbers
  unfolding spinodal_step
  spinodal_again maxdensity t (Break a) h = h
  spinodal_again maxdensity t (Continue x) h = ap spinodal_numbers (spinodal_back (spinodal_next maxdensity t ev x))

  branch_again : (maxdensity t : Float) (branch : Branch) (p : Progress SpinodalSpot) → spinodal_numbers (spinodal_place_by s.numbers) ≡ s.numbers
      → spinodal_numbers (spinodal_place_by (branch_step maxdensity t branch ev p s).numbers) ≡ (branch_step maxdensity t branch ev p s).numbers
  unfolding branch_step
  branch_again maxdensity t branch (Break a) h = h
  branch_again maxdensity t branch (Continue x) h = ap spinodal_numbers (spinodal_back (branch_next maxdensity t branch ev x))

  critical_again : (maxdensity ρ : Float) (p : Progress CriticalSpot) → critical_numbers (critical_place_by s.numbers) ≡ s.numbers
      → critical_numbers (critical_place_by (critical_step maxdensity ρ ev p s).numbers) ≡ (critical_step maxdensity ρ ev p s).numbers
  unfolding critical_step
  critical_again maxdensity ρ (Break a) h = h
  critical_again maxdensity ρ (Continue x) h = ap critical_numbers (critical_back (critical_next maxdensity ρ ev x))

  spinodals_again : (maxdensity t : Float) (p : Progress SpinodalsSpot) → spinodals_numbers (spinodals_place_by s.numbers) ≡ s.numbers
      → spinodals_numbers (spinodals_place_by (spinodals_step maxdensity t ev p s).numbers) ≡ (spinodals_step maxdensity t ev p s).numbers
  unfolding spinodals_step
  spinodals_again maxdensity t (Break a) h = h
  spinodals_again maxdensity t (Continue x) h = ap spinodals_numbers (spinodals_back (spinodals_next maxdensity t ev x))

  temperature_again : (maxdensity t : Float) (p : Progress TemperatureSpot) → temperature_numbers (temperature_place_by s.numbers) ≡ s.numbers
      → temperature_numbers (temperature_place_by (temperature_step maxdensity t ev p s).numbers) ≡ (temperature_step maxdensity t ev p s).numbers
  unfolding temperature_step
  temperature_again maxdensity t (Break a) h = h
  temperature_again maxdensity t (Continue x) h = ap temperature_numbers (temperature_back (temperature_next maxdensity t ev x))

  pressure_again : (maxdensity pressure : Float) (p : Progress PressureSpot) → pressure_numbers (pressure_place_by s.numbers) ≡ s.numbers
      → pressure_numbers (pressure_place_by (pressure_step maxdensity pressure ev p s).numbers) ≡ (pressure_step maxdensity pressure ev p s).numbers
  unfolding pressure_step
  pressure_again maxdensity pressure (Break a) h = h
  pressure_again maxdensity pressure (Continue x) h = ap pressure_numbers (pressure_back (pressure_next maxdensity pressure ev x))

pub step_again : (job : Job) (ev : Evaluator) (s : State) → again job s.numbers ≡ s.numbers → again job (step_of job ev s).numbers ≡ (step_of job ev s).numbers
unfolding again step_of
step_again (Density c) ev s h = density_again ev s c _ h
step_again (StableDensity maxdensity t p) ev s h = stable_again ev s maxdensity t p _ h
step_again (PressureSpinodal maxdensity t ρ) ev s h = spinodal_again ev s maxdensity t _ h
step_again (BranchSpinodal maxdensity t branch) ev s h = branch_again ev s maxdensity t branch _ h
step_again (CriticalPoint maxdensity temperature density) ev s h = critical_again ev s maxdensity _ _ h
step_again (StabilitySpinodals maxdensity t) ev s h = spinodals_again ev s maxdensity t _ h
step_again (CriticalPointBinaryT maxdensity z0 z1 t density) ev s h = temperature_again ev s maxdensity t _ h
step_again (CriticalPointBinaryP maxdensity z0 z1 p temperature density) ev s h = pressure_again ev s maxdensity p _ h

-- ---- nothing is left of a search only at its end

done_same : (a b : Answer) → done a ≡ done b → a ≡ b
done_same a b e = cc

not_done : (ev : Evaluator) (t : Search) (ρ : Float) (u : Search) (a : Answer) → t ≡ done a → next_of finite_of ev t 0 f0 ≡ moved 0 ρ u → ⊥
unfolding next_of
not_done ev t ρ u a e q = let z : ◌≡◌ {A = ℕ} 0 1 = ap (λ (x : Search). (next_of finite_of ev x 0 f0).evaluations) (sym e) ∙ ap (λ (g : Going). g.evaluations) q in absurd (omega arith)

module _ (ev : Evaluator) (n : Numbers) (a : Answer) where
  density_ends : (c : Conditions) (p : Standing DensitySpot) → density_numbers p ≡ n → density_left c p ≡ done a → n ≡ ended_numbers a
  unfolding density_left density_numbers
  density_ends c (Break q) e l = sym e ∙ ap ended_numbers (done_same _ a l)
  density_ends c (Continue x) e l = absurd (not_done ev _ _ _ a l (density_law c ev x 0 f0))

  stable_ends : (maxdensity t p : Float) (x : Standing StableSpot) → stable_numbers x ≡ n → stable_left maxdensity t p x ≡ done a → n ≡ ended_numbers a
  unfolding stable_left stable_numbers
  stable_ends maxdensity t p (Break q) e l = sym e ∙ ap ended_numbers (done_same _ a l)
  stable_ends maxdensity t p (Continue x) e l = absurd (not_done ev _ _ _ a l (stable_law maxdensity t p ev x 0 f0))

  spinodal_ends : (maxdensity t : Float) (p : Progress SpinodalSpot) → spinodal_numbers p ≡ n → spinodal_left maxdensity t p ≡ done a → n ≡ ended_numbers a
  unfolding spinodal_left spinodal_numbers
  spinodal_ends maxdensity t (Break q) e l = sym e ∙ ap ended_numbers (done_same _ a l)
  spinodal_ends maxdensity t (Continue x) e l = absurd (not_done ev _ _ _ a l (spinodal_law maxdensity t ev x 0 f0))

  branch_ends : (maxdensity t : Float) (branch : Branch) (p : Progress SpinodalSpot) → spinodal_numbers p ≡ n → branch_left maxdensity t branch p ≡ done a → n ≡ ended_numbers a
  unfolding branch_left spinodal_numbers
  branch_ends maxdensity t branch (Break q) e l = sym e ∙ ap ended_numbers (done_same _ a l)
  branch_ends maxdensity t branch (Continue x) e l = absurd (not_done ev _ _ _ a l (branch_law maxdensity t branch ev x 0 f0))

  critical_ends : (maxdensity ρ : Float) (p : Progress CriticalSpot) → critical_numbers p ≡ n → critical_left maxdensity ρ p ≡ done a → n ≡ ended_numbers a
  unfolding critical_left critical_numbers
  critical_ends maxdensity ρ (Break q) e l = sym e ∙ ap ended_numbers (done_same _ a l)
  critical_ends maxdensity ρ (Continue x) e l = absurd (not_done ev _ _ _ a l (critical_law maxdensity ρ ev x 0 f0))

  spinodals_ends : (maxdensity t : Float) (p : Progress SpinodalsSpot) → spinodals_numbers p ≡ n → spinodals_left maxdensity t p ≡ done a → n ≡ ended_numbers a
  unfolding spinodals_left spinodals_numbers
  spinodals_ends maxdensity t (Break q) e l = sym e ∙ ap ended_numbers (done_same _ a l)
  spinodals_ends maxdensity t (Continue x) e l = absurd (not_done ev _ _ _ a l (spinodals_law maxdensity t ev x 0 f0))

  temperature_ends : (maxdensity t : Float) (p : Progress TemperatureSpot) → temperature_numbers p ≡ n → temperature_left maxdensity t p ≡ done a → n ≡ ended_numbers a
  unfolding temperature_left temperature_numbers
  temperature_ends maxdensity t (Break q) e l = sym e ∙ ap ended_numbers (done_same _ a l)
  temperature_ends maxdensity t (Continue x) e l = absurd (not_done ev _ _ _ a l (temperature_law maxdensity t ev x 0 f0))

  pressure_ends : (maxdensity pressure : Float) (p : Progress PressureSpot) → pressure_numbers p ≡ n → pressure_left maxdensity pressure p ≡ done a → n ≡ ended_numbers a
  unfolding pressure_left pressure_numbers
  pressure_ends maxdensity pressure (Break q) e l = sym e ∙ ap ended_numbers (done_same _ a l)
  pressure_ends maxdensity pressure (Continue x) e l = absurd (not_done ev _ _ _ a l (pressure_law maxdensity pressure ev x 0 f0))

pub ends : (job : Job) (ev : Evaluator) (n : Numbers) (a : Answer) → again job n ≡ n → left_of job n ≡ done a → n ≡ ended_numbers a
unfolding again left_of
ends (Density c) ev n a h l = density_ends ev n a c _ h l
ends (StableDensity maxdensity t p) ev n a h l = stable_ends ev n a maxdensity t p _ h l
ends (PressureSpinodal maxdensity t ρ) ev n a h l = spinodal_ends ev n a maxdensity t _ h l
ends (BranchSpinodal maxdensity t branch) ev n a h l = branch_ends ev n a maxdensity t branch _ h l
ends (CriticalPoint maxdensity temperature density) ev n a h l = critical_ends ev n a maxdensity _ _ h l
ends (StabilitySpinodals maxdensity t) ev n a h l = spinodals_ends ev n a maxdensity t _ h l
ends (CriticalPointBinaryT maxdensity z0 z1 t density) ev n a h l = temperature_ends ev n a maxdensity t _ h l
ends (CriticalPointBinaryP maxdensity z0 z1 p temperature density) ev n a h l = pressure_ends ev n a maxdensity p _ h l
