-- A search of any kind under way: its first state, its step, and the search that is left. Definitions only.
use Rattle.std.specs.Prelude.{ℕ, ◌+◌, Float}
use Rattle.float.specs.Ops.{f0}
use Rattle.solver.specs.declared.types.Numbers.{Numbers}
use Rattle.solver.specs.Search.{Evaluator, Search, Going}
use Rattle.solver_density.specs.declared.types.Branch.{Branch}
use Rattle.solver_density.specs.declared.types.Conditions.{Conditions}
use Rattle.solver_density.specs.Spinodal.{pressure_spinodal, pressure_spinodal_branch}
use Rattle.solver_density.specs.Density.{density_search}
use Rattle.solver_density.specs.Stable.{density_iteration_stable}
use Rattle.solver_critical.specs.CriticalPoint.{start_density, critical_point}
use Rattle.solver_critical.specs.Spinodal.{spinodal}
use Rattle.solver_binary.specs.CriticalPointBinary.{critical_point_binary_t, critical_point_binary_p}
use Rattle.solver.specs.Answer.{Progress}
use Rattle.solver_step.specs.SpinodalStep.{SpinodalSpot}
use Rattle.std.specs.declared.ops.ControlFlow.TheVariants.{Break, Continue}
use Rattle.solver_step.specs.Phase.{Standing}
use Rattle.solver_step.specs.declared.types.DensitySpot.{DensitySpot}
use Rattle.solver_step.specs.declared.types.StableSpot.{StableSpot}
use Rattle.solver_step.specs.SpinodalStep.{spinodal_start, spinodal_left, spinodal_next, branch_begin, branch_left, branch_next}
use Rattle.solver_step.specs.DensityStep.{density_left, density_at, density_next, density_begin}
use Rattle.solver_step.specs.StableStep.{stable_left, stable_at, stable_next, stable_begin}
use Rattle.solver_step.specs.Stored.{spinodal_numbers, spinodal_place_by, density_numbers, density_place_by, stable_numbers, stable_place_by}
use Rattle.solver_critical_step.specs.declared.types.CriticalSpot.{CriticalSpot}
use Rattle.solver_critical_step.specs.declared.types.SpinodalsSpot.{SpinodalsSpot}
use Rattle.solver_critical_step.specs.CriticalStep.{critical_left, critical_at, critical_next, critical_begin}
use Rattle.solver_critical_step.specs.SpinodalsStep.{spinodals_left, spinodals_at, spinodals_next, spinodals_begin}
use Rattle.solver_critical_step.specs.Stored.{critical_numbers, critical_place_by, spinodals_numbers, spinodals_place_by}
use Rattle.solver_binary_step.specs.BinaryStep.{TemperatureSpot, PressureSpot, temperature_left, temperature_at, temperature_next, temperature_begin, pressure_left, pressure_at, pressure_next, pressure_begin}
use Rattle.solver_binary_step.specs.Stored.{temperature_numbers, temperature_place_by, pressure_numbers, pressure_place_by}
use Rattle.solver_state.specs.declared.types.Job.{Job}
use Rattle.solver_state.specs.declared.types.Job.TheVariants.{Density, StableDensity, PressureSpinodal, BranchSpinodal, CriticalPoint, StabilitySpinodals, CriticalPointBinaryT, CriticalPointBinaryP}
use Rattle.solver_state.specs.declared.types.State.{State}

-- the search of each kind
unfoldable pub search_of : Job → Search
search_of (Density c) = density_search c
search_of (StableDensity maxdensity t p) = density_iteration_stable maxdensity t p
search_of (PressureSpinodal maxdensity t ρ) = pressure_spinodal maxdensity t ρ
search_of (BranchSpinodal maxdensity t branch) = pressure_spinodal_branch maxdensity t branch
search_of (CriticalPoint maxdensity temperature density) = critical_point maxdensity temperature density
search_of (StabilitySpinodals maxdensity t) = spinodal maxdensity t
search_of (CriticalPointBinaryT maxdensity z0 z1 t density) = critical_point_binary_t maxdensity z0 z1 t density
search_of (CriticalPointBinaryP maxdensity z0 z1 pressure temperature density) = critical_point_binary_p maxdensity z0 z1 pressure temperature density

-- "Kind, span"
unfoldable pub span_of : Job → ℕ
span_of (Density c) = 3101
span_of (StableDensity maxdensity t p) = 6204
span_of (PressureSpinodal maxdensity t ρ) = 30
span_of (BranchSpinodal maxdensity t branch) = 30
span_of (CriticalPoint maxdensity temperature density) = 150
span_of (StabilitySpinodals maxdensity t) = 250
span_of (CriticalPointBinaryT maxdensity z0 z1 t density) = 200
span_of (CriticalPointBinaryP maxdensity z0 z1 pressure temperature density) = 200

-- the stored rounds of a search are below this, which is `rounds_of` of its kinds
unfoldable pub most_rounds : Job → ℕ
most_rounds (Density c) = 50
most_rounds (StableDensity maxdensity t p) = 50
most_rounds (PressureSpinodal maxdensity t ρ) = 50
most_rounds (BranchSpinodal maxdensity t branch) = 50
most_rounds (CriticalPoint maxdensity temperature density) = 50
most_rounds (StabilitySpinodals maxdensity t) = 50
most_rounds (CriticalPointBinaryT maxdensity z0 z1 t density) = 200
most_rounds (CriticalPointBinaryP maxdensity z0 z1 pressure temperature density) = 200

-- the search that is left where the numbers stand
unfoldable pub left_of : Job → Numbers → Search
left_of (Density c) n = density_left c (density_place_by n)
left_of (StableDensity maxdensity t p) n = stable_left maxdensity t p (stable_place_by n)
left_of (PressureSpinodal maxdensity t ρ) n = spinodal_left maxdensity t (spinodal_place_by n)
left_of (BranchSpinodal maxdensity t branch) n = branch_left maxdensity t branch (spinodal_place_by n)
left_of (CriticalPoint maxdensity temperature density) n = critical_left maxdensity (start_density maxdensity density) (critical_place_by n)
left_of (StabilitySpinodals maxdensity t) n = spinodals_left maxdensity t (spinodals_place_by n)
left_of (CriticalPointBinaryT maxdensity z0 z1 t density) n = temperature_left maxdensity t (temperature_place_by n)
left_of (CriticalPointBinaryP maxdensity z0 z1 pressure temperature density) n = pressure_left maxdensity pressure (pressure_place_by n)

-- a state as a search under way
unfoldable pub going : Job → State → Going
going job s = record { left = left_of job s.numbers; evaluations = s.evaluations; latest = s.latest }

-- ---- where a search begins
unfoldable pub begin_of : Job → Numbers
begin_of (Density c) = density_numbers (density_begin c)
begin_of (StableDensity maxdensity t p) = stable_numbers (stable_begin maxdensity t p)
begin_of (PressureSpinodal maxdensity t ρ) = spinodal_numbers (spinodal_start ρ)
begin_of (BranchSpinodal maxdensity t branch) = spinodal_numbers (branch_begin maxdensity branch)
begin_of (CriticalPoint maxdensity temperature density) = critical_numbers (critical_begin (start_density maxdensity density) temperature)
begin_of (StabilitySpinodals maxdensity t) = spinodals_numbers (spinodals_begin maxdensity)
begin_of (CriticalPointBinaryT maxdensity z0 z1 t density) = temperature_numbers (temperature_begin maxdensity z0 z1 density)
begin_of (CriticalPointBinaryP maxdensity z0 z1 pressure temperature density) = pressure_numbers (pressure_begin maxdensity z0 z1 temperature density)

unfoldable pub start_of : Job → State
start_of job = record { numbers = begin_of job; evaluations = 0; latest = f0 }

-- ---- one evaluation, or none at the end

-- after an evaluation at ρ
abbrev pub stepped_to : Numbers → Float → State → State
stepped_to n ρ s = record { numbers = n; evaluations = s.evaluations + 1; latest = ρ }

unfoldable pub density_step : Conditions → Evaluator → Standing DensitySpot → State → State
density_step c ev (Break a) s = s
density_step c ev (Continue x) s = stepped_to (density_numbers (density_next c ev x)) (density_at c x) s

unfoldable pub stable_step : (maxdensity t p : Float) → Evaluator → Standing StableSpot → State → State
stable_step maxdensity t p ev (Break a) s = s
stable_step maxdensity t p ev (Continue x) s = stepped_to (stable_numbers (stable_next maxdensity t p ev x)) (stable_at maxdensity t p x) s

unfoldable pub spinodal_step : (maxdensity t : Float) → Evaluator → Progress SpinodalSpot → State → State
spinodal_step maxdensity t ev (Break a) s = s
spinodal_step maxdensity t ev (Continue x) s = stepped_to (spinodal_numbers (spinodal_next maxdensity t ev x)) x.at s

unfoldable pub branch_step : (maxdensity t : Float) → Branch → Evaluator → Progress SpinodalSpot → State → State
branch_step maxdensity t branch ev (Break a) s = s
branch_step maxdensity t branch ev (Continue x) s = stepped_to (spinodal_numbers (branch_next maxdensity t branch ev x)) x.at s

unfoldable pub critical_step : (maxdensity ρ : Float) → Evaluator → Progress CriticalSpot → State → State
critical_step maxdensity ρ ev (Break a) s = s
critical_step maxdensity ρ ev (Continue x) s = stepped_to (critical_numbers (critical_next maxdensity ρ ev x)) (critical_at x) s

unfoldable pub spinodals_step : (maxdensity t : Float) → Evaluator → Progress SpinodalsSpot → State → State
spinodals_step maxdensity t ev (Break a) s = s
spinodals_step maxdensity t ev (Continue x) s = stepped_to (spinodals_numbers (spinodals_next maxdensity t ev x)) (spinodals_at x) s

unfoldable pub temperature_step : (maxdensity t : Float) → Evaluator → Progress TemperatureSpot → State → State
temperature_step maxdensity t ev (Break a) s = s
temperature_step maxdensity t ev (Continue x) s = stepped_to (temperature_numbers (temperature_next maxdensity t ev x)) (temperature_at x) s

unfoldable pub pressure_step : (maxdensity pressure : Float) → Evaluator → Progress PressureSpot → State → State
pressure_step maxdensity pressure ev (Break a) s = s
pressure_step maxdensity pressure ev (Continue x) s = stepped_to (pressure_numbers (pressure_next maxdensity pressure ev x)) (pressure_at x) s

unfoldable pub step_of : Job → Evaluator → State → State
step_of (Density c) ev s = density_step c ev (density_place_by s.numbers) s
step_of (StableDensity maxdensity t p) ev s = stable_step maxdensity t p ev (stable_place_by s.numbers) s
step_of (PressureSpinodal maxdensity t ρ) ev s = spinodal_step maxdensity t ev (spinodal_place_by s.numbers) s
step_of (BranchSpinodal maxdensity t branch) ev s = branch_step maxdensity t branch ev (spinodal_place_by s.numbers) s
step_of (CriticalPoint maxdensity temperature density) ev s = critical_step maxdensity (start_density maxdensity density) ev (critical_place_by s.numbers) s
step_of (StabilitySpinodals maxdensity t) ev s = spinodals_step maxdensity t ev (spinodals_place_by s.numbers) s
step_of (CriticalPointBinaryT maxdensity z0 z1 t density) ev s = temperature_step maxdensity t ev (temperature_place_by s.numbers) s
step_of (CriticalPointBinaryP maxdensity z0 z1 pressure temperature density) ev s = pressure_step maxdensity pressure ev (pressure_place_by s.numbers) s
