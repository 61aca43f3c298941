-- The floats that a request's job works with, and those of each of its states, are values of binary64, whatever kind, N and block are. Assumes nothing.
use Rattle.std.proofs.Common.{ℕ, ◌+◌, eqb, List}
use lib.Ieee.{Float, binary64}
use lib.Ieee.Fits.{div-fits}
use Rattle.buf.specs.Bytes.{u64_at}
use Rattle.buf.proofs.Floats.{f64_fits}
use Rattle.eos.specs.declared.types.Blend.{Blend}
use Rattle.eos.specs.Cubic.{max_density}
use Rattle.solver.specs.declared.types.DensityInitialization.{DensityInitialization}
use Rattle.solver.specs.declared.types.DensityInitialization.TheVariants.{Vapor, Liquid, InitialDensity}
use Rattle.solver.specs.Search.{Evaluator}
use Rattle.solver.specs.Evaluated.{evaluated}
use Rattle.solver_density.specs.Density as Density
use Rattle.solver_state.specs.declared.types.State.{State}
use Rattle.solver_state.specs.declared.types.Job as Search
use Rattle.solver_state.specs.State as Steps
use Rattle.block.specs.declared.types.Conditions.{Conditions}
use Rattle.reader.specs.declared.types.Task.{Task}
use Rattle.reader.specs.declared.types.Refusal.{Refusal}
use Rattle.std.specs.declared.result.Result.{Result}
use Rattle.reader.specs.declared.types.Job.{Job}
use Rattle.block.specs.Pairs.{offset_of, conditions}
use Rattle.block.specs.Numbers.{uses_pressure, uses_start, used_choice, used_pressure, used_start, used, conditions_at, conditions_of}
use Rattle.block.specs.Checks.{plus_zero}
use Rattle.block.proofs.NumberLaws.{numbers_rows}
use Rattle.reader.specs.View.{initial_of, given_of, task_of, refused, view}
use Rattle.reader.proofs.ViewLaws.{view_keeps, task_keeps}
use Rattle.std.specs.Prelude.{Ok, Err}
use Rattle.stepping.specs.Stepping.{task_search, work_of, refused_state, start_by, start_of, uncounted, step_by, step_of}
use Rattle.stepping.specs.Storable.{FloatsStorable}
use Rattle.stepping.proofs.Yields.{YieldsFit}
use Rattle.stepping.proofs.YieldFloats.{yields_fit}
use Rattle.stepping.proofs.DensityFloats.{ConditionsFit, conditions_fit_lem, density_begin_lem, density_steps, stable_begin_lem, stable_steps, spinodal_begin, spinodal_steps, branch_begin_lem, branch_steps}
use Rattle.stepping.proofs.FloatLaws.{Fit, zero_fits, cond_keeps}
use Rattle.stepping.proofs.CriticalFloats.{StartFits, critical_begin_lem, critical_steps, spinodals_begin_lem, spinodals_steps}
use Rattle.stepping.proofs.BinaryFloats.{temperature_begin_lem, temperature_steps, pressure_begin_lem, pressure_steps}

-- ---- a task's floats are read of the block, or +0
abbrev pub InitialFits : DensityInitialization → Type 0
InitialFits Vapor = Unit {0}
InitialFits Liquid = Unit {0}
InitialFits (InitialDensity ρ) = Fit ρ

abbrev pub TaskFits : Task → Type 0
TaskFits (Task.DensityIteration t p initial) = Fit t × Fit p × InitialFits initial
TaskFits (Task.DensityIterationStable t p) = Fit t × Fit p
TaskFits (Task.PressureSpinodal t start) = Fit t × Fit start
TaskFits (Task.PressureSpinodalBranch t branch) = Fit t
TaskFits (Task.CriticalPoint t density) = StartFits t × StartFits density
TaskFits (Task.Spinodal t) = Fit t
TaskFits (Task.CriticalPointBinaryT t density) = Fit t × StartFits density
TaskFits (Task.CriticalPointBinaryP p t density) = Fit p × StartFits t × StartFits density

-- the conditions of a request as they are read
record Given (c : Conditions) : Type 0 where
  temperature : Fit c.temperature
  pressure : Fit c.pressure
  start : Fit c.start

conditions_read : (kind : ℕ) (s : List ℕ) (at : ℕ) → Given (conditions_of kind s at)
unfolding conditions_of used conditions_at used_pressure used_start
conditions_read kind s at = record {
  temperature = f64_fits s (at + 8);
  pressure = cond_keeps Fit (uses_pressure kind) _ _ (f64_fits s (at + 16)) zero_fits;
  start = cond_keeps Fit (uses_start kind (used_choice kind (u64_at s at))) _ _ (f64_fits s (at + 24)) zero_fits;
}

initial_fits : (choice : ℕ) (ρ : Float) → Fit ρ → InitialFits (initial_of choice ρ)
unfolding initial_of
initial_fits choice ρ h = cond_keeps InitialFits (eqb choice 0) _ _ tt (cond_keeps InitialFits (eqb choice 1) _ _ tt h)

given_fits : (x : Float) → Fit x → StartFits (given_of x)
unfolding given_of
given_fits x h = cond_keeps StartFits (plus_zero x) _ _ tt h

task_fits : (kind : ℕ) (c : Conditions) → Given c → TaskFits (task_of kind c)
task_fits kind c g =
    task_keeps TaskFits kind c (g.temperature, g.pressure, initial_fits c.choice c.start g.start) (g.temperature, g.pressure) (g.temperature, g.start) g.temperature
    (given_fits c.temperature g.temperature, given_fits c.start g.start) g.temperature (g.temperature, given_fits c.start g.start)
    (g.pressure, given_fits c.temperature g.temperature, given_fits c.start g.start)

-- of a refused job there is no task
abbrev pub WorkFits : Result Task Refusal → Type 0
WorkFits (Ok task) = TaskFits task
WorkFits (Err refusal) = Unit {0}

refused_fits : (refusal : Refusal) → WorkFits (refused refusal).task
unfolding refused
refused_fits refusal = tt

-- a request is refused, or the floats of its task fit
pub view_fits : (kind n : ℕ) (block : List ℕ) → WorkFits (view kind n block).task
view_fits kind n block =
    view_keeps (λ (job : Job). WorkFits job.task) kind n block refused_fits
    (rw (numbers_rows kind n block) (task_fits kind _ (conditions_read kind block (offset_of block conditions))))

-- and so does the maximum density of any blend
pub max_density_fits : (blend : Blend) → Fit (max_density blend)
unfolding max_density
max_density_fits blend = div-fits binary64 _ _

-- ---- the states of a job

-- a count put otherwise changes no float
recounted : (job : Search.Job) (ev : Evaluator) → ((s : State) → FloatsStorable s → FloatsStorable (Steps.step_of job ev s))
    → (s : State) → FloatsStorable s → FloatsStorable (step_by ev (Ok job) s)
unfolding step_by
recounted job ev step s k =
    let h = step (uncounted s) (record { values = k.values; latest = k.latest }) in
    record { values = h.values; latest = h.latest }

module _ (blend : Blend) where
  abbrev maxdensity : Float
  maxdensity = max_density blend

  m : Fit maxdensity
  m = max_density_fits blend

  start_density_lem : (t p : Float) (initial : DensityInitialization) → InitialFits initial → Fit (Density.start_of maxdensity t p initial)
  unfolding Density.start_of
  start_density_lem t p Vapor h = div-fits binary64 p t
  start_density_lem t p Liquid h = m
  start_density_lem t p (InitialDensity ρ) h = h

  density_conditions : (t p : Float) (initial : DensityInitialization) → TaskFits (Task.DensityIteration t p initial) → ConditionsFit (Density.conditions_of maxdensity t p initial)
  density_conditions t p initial (ht, hp, hi) = conditions_fit_lem maxdensity t p initial m ht hp (start_density_lem t p initial hi)

  begins : (task : Result Task Refusal) → WorkFits task → FloatsStorable (start_by (work_of blend task))
  unfolding work_of task_search start_by refused_state
  begins (Err refusal) h = record { values = record { first = zero_fits; second = zero_fits; third = zero_fits }; latest = zero_fits }
  begins (Ok (Task.DensityIteration t p initial)) h = density_begin_lem _ (density_conditions t p initial h)
  begins (Ok (Task.DensityIterationStable t p)) (ht, hp) = stable_begin_lem maxdensity t p m ht hp
  begins (Ok (Task.PressureSpinodal t start)) (ht, hs) = spinodal_begin maxdensity t start m ht hs
  begins (Ok (Task.PressureSpinodalBranch t branch)) ht = branch_begin_lem maxdensity t branch m ht
  begins (Ok (Task.CriticalPoint t density)) (ht, hd) = critical_begin_lem maxdensity t density ht hd
  begins (Ok (Task.Spinodal t)) ht = spinodals_begin_lem maxdensity t
  begins (Ok (Task.CriticalPointBinaryT t density)) h = temperature_begin_lem maxdensity _ _ t density
  begins (Ok (Task.CriticalPointBinaryP p t density)) (hp, ht, hd) = pressure_begin_lem maxdensity _ _ p t density ht

  steps : (ev : Evaluator) → YieldsFit ev → (task : Result Task Refusal) → WorkFits task → (s : State) → FloatsStorable s → FloatsStorable (step_by ev (work_of blend task) s)
  unfolding work_of task_search
  steps ev y (Err refusal) h = unfold step_by in λ s k. k
  steps ev y (Ok (Task.DensityIteration t p initial)) h = recounted _ ev (λ s. density_steps _ ev s (density_conditions t p initial h) y)
  steps ev y (Ok (Task.DensityIterationStable t p)) (ht, hp) = recounted _ ev (λ s. stable_steps maxdensity t p ev s m ht hp y)
  steps ev y (Ok (Task.PressureSpinodal t start)) (ht, hs) = recounted _ ev (λ s. spinodal_steps maxdensity t start ev s m ht hs y)
  steps ev y (Ok (Task.PressureSpinodalBranch t branch)) ht = recounted _ ev (λ s. branch_steps maxdensity t branch ev s m ht y)
  steps ev y (Ok (Task.CriticalPoint t density)) (ht, hd) = recounted _ ev (λ s. critical_steps maxdensity t density ev s hd)
  steps ev y (Ok (Task.Spinodal t)) ht = recounted _ ev (λ s. spinodals_steps maxdensity t ev s)
  steps ev y (Ok (Task.CriticalPointBinaryT t density)) h = recounted _ ev (λ s. temperature_steps maxdensity _ _ t density ev s)
  steps ev y (Ok (Task.CriticalPointBinaryP p t density)) h = recounted _ ev (λ s. pressure_steps maxdensity _ _ p t density ev s)

-- the first state
pub start_floats : (kind n : ℕ) (block : List ℕ) → FloatsStorable (start_of (view kind n block))
unfolding start_of
start_floats kind n block = begins (view kind n block).blend (view kind n block).task (view_fits kind n block)

-- and each step keeps it so
pub step_floats : (kind n : ℕ) (block : List ℕ) (s : State) → FloatsStorable s → FloatsStorable (step_of (view kind n block) s)
unfolding step_of
step_floats kind n block s h =
    let blend = (view kind n block).blend in steps blend (evaluated blend) (yields_fit blend) (view kind n block).task (view_fits kind n block) s h
