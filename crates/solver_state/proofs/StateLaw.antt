-- Every kind: a state's step is one evaluation of the search that is left there; after j steps it stands where the search does, and from the span on it has its end. Assumes nothing.
use mathlib.Core.Path.{◌≡◌, refl, sym, ap, ◌∙◌}
use Prim.Native.Nat.{ℕ}
use lib.Ieee.{Float}
use Rattle.float.specs.Sign.{finite_of}
use Rattle.solver.specs.declared.types.Numbers.{Numbers}
use Rattle.solver.specs.Search.{Evaluator, Search, Going, next_of, next, fresh, Within}
use Rattle.solver.proofs.Steps.{moved, Stepped, stepped, settled}
use Rattle.solver_density.specs.declared.types.Branch.{Branch}
use Rattle.solver_density.specs.declared.types.Conditions.{Conditions}
use Rattle.solver_density.proofs.Spans.{spinodal_30, branch_30, search_3101, stable_6204}
use Rattle.std.specs.declared.option.Option.{Option}
use Rattle.solver_critical.specs.CriticalPoint.{start_density}
use Rattle.solver_critical.proofs.Spans.{critical_150, spinodal_250}
use Rattle.solver_binary.proofs.Spans.{temperature_200, pressure_200}
use Rattle.solver.specs.Answer.{Progress}
use Rattle.solver_step.specs.SpinodalStep.{SpinodalSpot}
use Rattle.std.specs.declared.ops.ControlFlow.TheVariants.{Break, Continue}
use Rattle.solver_step.specs.Phase.{Standing}
use Rattle.solver_step.specs.declared.types.DensitySpot.{DensitySpot}
use Rattle.solver_step.specs.declared.types.StableSpot.{StableSpot}
use Rattle.solver_step.specs.SpinodalStep.{spinodal_start, spinodal_left, branch_begin, branch_left}
use Rattle.solver_step.specs.DensityStep.{density_left, density_at, density_begin}
use Rattle.solver_step.specs.StableStep.{stable_left, stable_at, stable_begin}
use Rattle.solver_step.specs.Stored.{spinodal_numbers, spinodal_place_by, density_numbers, density_place_by, stable_numbers, stable_place_by}
use Rattle.solver_step.proofs.SpinodalLaw.{spinodal_law, spinodal_begins, branch_law, branch_begins}
use Rattle.solver_step.proofs.DensityLaw.{density_law, density_begins}
use Rattle.solver_step.proofs.StableLaw.{stable_law, stable_begins}
use Rattle.solver_step.proofs.StoredBack.{spinodal_back, density_back, stable_back}
use Rattle.solver_critical_step.specs.declared.types.CriticalSpot.{CriticalSpot}
use Rattle.solver_critical_step.specs.declared.types.SpinodalsSpot.{SpinodalsSpot}
use Rattle.solver_critical_step.specs.CriticalStep.{critical_left, critical_at, critical_begin}
use Rattle.solver_critical_step.specs.SpinodalsStep.{spinodals_left, spinodals_at, spinodals_begin}
use Rattle.solver_critical_step.specs.Stored.{critical_numbers, critical_place_by, spinodals_numbers, spinodals_place_by}
use Rattle.solver_critical_step.proofs.CriticalLaw.{critical_law, critical_begins}
use Rattle.solver_critical_step.proofs.SpinodalsLaw.{spinodals_law, spinodals_begins}
use Rattle.solver_critical_step.proofs.StoredBack.{critical_back, spinodals_back}
use Rattle.solver_binary_step.specs.BinaryStep.{TemperatureSpot, PressureSpot, temperature_left, temperature_at, temperature_begin, pressure_left, pressure_at, pressure_begin}
use Rattle.solver_binary_step.specs.Stored.{temperature_numbers, temperature_place_by, pressure_numbers, pressure_place_by}
use Rattle.solver_binary_step.proofs.BinaryLaw.{temperature_law, temperature_begins, pressure_law, pressure_begins}
use Rattle.solver_binary_step.proofs.StoredBack.{temperature_back, pressure_back}
use Rattle.solver_state.specs.declared.types.Job.{Job}
use Rattle.solver_state.specs.declared.types.Job.TheVariants.{Density, StableDensity, PressureSpinodal, BranchSpinodal, CriticalPoint, StabilitySpinodals, CriticalPointBinaryT, CriticalPointBinaryP}
use Rattle.solver_state.specs.declared.types.State.{State}
use Rattle.solver_state.specs.State.{search_of, span_of, left_of, going, begin_of, start_of, density_step, stable_step, spinodal_step, branch_step, critical_step, spinodals_step, temperature_step, pressure_step, step_of}

-- a place that is stored and read back, in what is left of the search
kept : {P : Type 0} (left : P → Search) (by : Numbers → P) (numbers : P → Numbers) → ((p : P) → by (numbers p) ≡ p) → (n : ℕ) (ρ : Float) (p : P) (t : Going)
    → t ≡ moved n ρ (left p) → moved n ρ (left (by (numbers p))) ≡ t
kept left by numbers back n ρ p t e = ap (λ q. moved n ρ (left q)) (back p) ∙ sym e

-- an end stays as it is
abbrev held : State → Search → Going
held s t = record { left = t; evaluations = s.evaluations; latest = s.latest }

stays : {P : Type 0} (left : P → Search) (s : State) (p q : P) → p ≡ q → held s (left p) ≡ held s (left q)
stays left s p q e = ap (λ x. held s (left x)) e

module _ (ev : Evaluator) (s : State) where
  abbrev n : ℕ
  n = s.evaluations

  abbrev d : Float
  d = s.latest

  density_step_lem : (c : Conditions) (p : Standing DensitySpot) → density_place_by s.numbers ≡ p → going (Density c) (density_step c ev p s) ≡ next_of finite_of ev (density_left c p) n d
  unfolding going left_of density_step density_left next_of
  density_step_lem c (Break a) e = stays (density_left c) s _ (Break a) e
  density_step_lem c (Continue x) e = kept (density_left c) density_place_by density_numbers density_back n (density_at c x) _ _ (density_law c ev x n d)

  stable_step_lem : (maxdensity t p : Float) (x : Standing StableSpot) → stable_place_by s.numbers ≡ x
      → going (StableDensity maxdensity t p) (stable_step maxdensity t p ev x s) ≡ next_of finite_of ev (stable_left maxdensity t p x) n d
  unfolding going left_of stable_step stable_left next_of
  stable_step_lem maxdensity t p (Break a) e = stays (stable_left maxdensity t p) s _ (Break a) e
  stable_step_lem maxdensity t p (Continue x) e = kept (stable_left maxdensity t p) stable_place_by stable_numbers stable_back n (stable_at maxdensity t p x) _ _ (stable_law maxdensity t p ev x n d)

  module _ (maxdensity t : Float) where
    spinodal_step_lem : (ρ : Float) (p : Progress SpinodalSpot) → spinodal_place_by s.numbers ≡ p
        → going (PressureSpinodal maxdensity t ρ) (spinodal_step maxdensity t ev p s) ≡ next_of finite_of ev (spinodal_left maxdensity t p) n d
    unfolding going left_of spinodal_step spinodal_left next_of
    spinodal_step_lem ρ (Break a) e = stays (spinodal_left maxdensity t) s _ (Break a) e
    spinodal_step_lem ρ (Continue x) e = kept (spinodal_left maxdensity t) spinodal_place_by spinodal_numbers spinodal_back n x.at _ _ (spinodal_law maxdensity t ev x n d)

    branch_step_lem : (branch : Branch) (p : Progress SpinodalSpot) → spinodal_place_by s.numbers ≡ p
        → going (BranchSpinodal maxdensity t branch) (branch_step maxdensity t branch ev p s) ≡ next_of finite_of ev (branch_left maxdensity t branch p) n d
    unfolding going left_of branch_step branch_left next_of
    branch_step_lem branch (Break a) e = stays (branch_left maxdensity t branch) s _ (Break a) e
    branch_step_lem branch (Continue x) e = kept (branch_left maxdensity t branch) spinodal_place_by spinodal_numbers spinodal_back n x.at _ _ (branch_law maxdensity t branch ev x n d)

  module _ (maxdensity : Float) where
    critical_step_lem : (temperature density : Option Float) (p : Progress CriticalSpot) → critical_place_by s.numbers ≡ p
        → going (CriticalPoint maxdensity temperature density) (critical_step maxdensity (start_density maxdensity density) ev p s) ≡ next_of finite_of ev (critical_left maxdensity (start_density maxdensity density) p) n d
    unfolding going left_of critical_step critical_left next_of
    critical_step_lem temperature density (Break a) e = stays (critical_left maxdensity (start_density maxdensity density)) s _ (Break a) e
    critical_step_lem temperature density (Continue x) e =
        kept (critical_left maxdensity (start_density maxdensity density)) critical_place_by critical_numbers critical_back n (critical_at x) _ _ (critical_law maxdensity (start_density maxdensity density) ev x n d)

  module _ (maxdensity t : Float) where
    spinodals_step_lem : (p : Progress SpinodalsSpot) → spinodals_place_by s.numbers ≡ p
        → going (StabilitySpinodals maxdensity t) (spinodals_step maxdensity t ev p s) ≡ next_of finite_of ev (spinodals_left maxdensity t p) n d
    unfolding going left_of spinodals_step spinodals_left next_of
    spinodals_step_lem (Break a) e = stays (spinodals_left maxdensity t) s _ (Break a) e
    spinodals_step_lem (Continue x) e = kept (spinodals_left maxdensity t) spinodals_place_by spinodals_numbers spinodals_back n (spinodals_at x) _ _ (spinodals_law maxdensity t ev x n d)

  module _ (maxdensity z0 z1 : Float) where
    temperature_step_lem : (t : Float) (density : Option Float) (p : Progress TemperatureSpot) → temperature_place_by s.numbers ≡ p
        → going (CriticalPointBinaryT maxdensity z0 z1 t density) (temperature_step maxdensity t ev p s) ≡ next_of finite_of ev (temperature_left maxdensity t p) n d
    unfolding going left_of temperature_step temperature_left next_of
    temperature_step_lem t density (Break a) e = stays (temperature_left maxdensity t) s _ (Break a) e
    temperature_step_lem t density (Continue x) e = kept (temperature_left maxdensity t) temperature_place_by temperature_numbers temperature_back n (temperature_at x) _ _ (temperature_law maxdensity t ev x n d)

    pressure_step_lem : (pressure : Float) (temperature density : Option Float) (p : Progress PressureSpot) → pressure_place_by s.numbers ≡ p
        → going (CriticalPointBinaryP maxdensity z0 z1 pressure temperature density) (pressure_step maxdensity pressure ev p s) ≡ next_of finite_of ev (pressure_left maxdensity pressure p) n d
    unfolding going left_of pressure_step pressure_left next_of
    pressure_step_lem pressure temperature density (Break a) e = stays (pressure_left maxdensity pressure) s _ (Break a) e
    pressure_step_lem pressure temperature density (Continue x) e = kept (pressure_left maxdensity pressure) pressure_place_by pressure_numbers pressure_back n (pressure_at x) _ _ (pressure_law maxdensity pressure ev x n d)

-- the step makes the evaluation that the search left asks for, with the tests that follow it
pub step_law : (job : Job) (ev : Evaluator) (s : State) → going job (step_of job ev s) ≡ next finite_of ev (going job s)
unfolding step_of going left_of
step_law (Density c) ev s = density_step_lem ev s c _ refl
step_law (StableDensity maxdensity t p) ev s = stable_step_lem ev s maxdensity t p _ refl
step_law (PressureSpinodal maxdensity t ρ) ev s = spinodal_step_lem ev s maxdensity t ρ _ refl
step_law (BranchSpinodal maxdensity t branch) ev s = branch_step_lem ev s maxdensity t branch _ refl
step_law (CriticalPoint maxdensity temperature density) ev s = critical_step_lem ev s maxdensity temperature density _ refl
step_law (StabilitySpinodals maxdensity t) ev s = spinodals_step_lem ev s maxdensity t _ refl
step_law (CriticalPointBinaryT maxdensity z0 z1 t density) ev s = temperature_step_lem ev s maxdensity z0 z1 t density _ refl
step_law (CriticalPointBinaryP maxdensity z0 z1 pressure temperature density) ev s = pressure_step_lem ev s maxdensity z0 z1 pressure temperature density _ refl

-- a search begins with its tree
pub begins : (job : Job) → left_of job (begin_of job) ≡ settled (search_of job)
unfolding left_of begin_of search_of
begins (Density c) = ap (density_left c) (density_back (density_begin c)) ∙ density_begins c
begins (StableDensity maxdensity t p) = ap (stable_left maxdensity t p) (stable_back (stable_begin maxdensity t p)) ∙ stable_begins maxdensity t p
begins (PressureSpinodal maxdensity t ρ) = ap (spinodal_left maxdensity t) (spinodal_back (spinodal_start ρ)) ∙ spinodal_begins maxdensity t ρ
begins (BranchSpinodal maxdensity t branch) = ap (branch_left maxdensity t branch) (spinodal_back (branch_begin maxdensity branch)) ∙ branch_begins maxdensity t branch
begins (CriticalPoint maxdensity temperature density) =
    ap (critical_left maxdensity (start_density maxdensity density)) (critical_back (critical_begin (start_density maxdensity density) temperature)) ∙ critical_begins maxdensity temperature density
begins (StabilitySpinodals maxdensity t) = ap (spinodals_left maxdensity t) (spinodals_back (spinodals_begin maxdensity)) ∙ spinodals_begins maxdensity t
begins (CriticalPointBinaryT maxdensity z0 z1 t density) = ap (temperature_left maxdensity t) (temperature_back (temperature_begin maxdensity z0 z1 density)) ∙ temperature_begins maxdensity t z0 z1 density
begins (CriticalPointBinaryP maxdensity z0 z1 pressure temperature density) =
    ap (pressure_left maxdensity pressure) (pressure_back (pressure_begin maxdensity z0 z1 temperature density)) ∙ pressure_begins maxdensity pressure z0 z1 temperature density

-- no search makes more evaluations than its span
pub within_span : (job : Job) → Within (span_of job) (search_of job)
unfolding span_of search_of
within_span (Density c) = search_3101 c
within_span (StableDensity maxdensity t p) = stable_6204 maxdensity t p
within_span (PressureSpinodal maxdensity t ρ) = spinodal_30 maxdensity t ρ
within_span (BranchSpinodal maxdensity t branch) = branch_30 maxdensity t branch
within_span (CriticalPoint maxdensity temperature density) = critical_150 maxdensity temperature density
within_span (StabilitySpinodals maxdensity t) = spinodal_250 maxdensity t
within_span (CriticalPointBinaryT maxdensity z0 z1 t density) = temperature_200 maxdensity z0 z1 t density
within_span (CriticalPointBinaryP maxdensity z0 z1 pressure temperature density) = pressure_200 maxdensity z0 z1 pressure temperature density

-- after k steps from its start a search stands where its definition does after k evaluations; from its span on it has the answer and the count of its run
pub by_steps : (job : Job) (ev : Evaluator) → Stepped finite_of ev (going job) (step_of job ev) (step_law job ev) (search_of job) (span_of job) (start_of job)
unfolding going start_of
by_steps job ev = stepped finite_of ev (going job) (step_of job ev) (step_law job ev) (search_of job) (span_of job) (start_of job) (ap fresh (begins job)) (within_span job)
