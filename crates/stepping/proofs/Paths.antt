-- The states of a job are those of its search, stepped from its start: the count modulo 2^64 is the count itself. Assumes nothing.
use Rattle.std.proofs.Common.{◌≡◌, ℕ, zero, suc, ◌+◌, ◌%◌, ◌^◌, ◌<◌, ◌≤◌, Bool, true, false, leb, sym, refl, ap, ◌∙◌, subst, add-zero, mod-eq_of_lt, arith, leb-false, leb-true}
use lib.Ieee.{Float}
use Rattle.float.specs.Ops.{f0}
use Rattle.float.specs.Sign.{finite_of}
use Rattle.solver.specs.Search.{Evaluator, Going, next, after, fresh, settle}
use Rattle.solver.specs.Evaluated.{evaluated}
use Rattle.solver.proofs.Steps.{finishes}
use Rattle.solver.proofs.Ranges.{FitsBelow}
use Rattle.solver.proofs.Spans.{run_most}
use Rattle.solver_density.specs.declared.types.Branch.{Branch}
use Rattle.solver_density.specs.declared.types.Conditions.{Conditions}
use Rattle.solver.specs.Answer.{Progress}
use Rattle.solver_step.specs.SpinodalStep.{SpinodalSpot}
use Rattle.std.specs.declared.ops.ControlFlow.TheVariants.{Break, Continue}
use Rattle.solver_step.specs.Phase.{Standing}
use Rattle.solver_step.specs.declared.types.DensitySpot.{DensitySpot}
use Rattle.solver_step.specs.declared.types.StableSpot.{StableSpot}
use Rattle.solver_critical_step.specs.declared.types.CriticalSpot.{CriticalSpot}
use Rattle.solver_critical_step.specs.declared.types.SpinodalsSpot.{SpinodalsSpot}
use Rattle.solver_binary_step.specs.BinaryStep.{TemperatureSpot, PressureSpot}
use Rattle.solver_state.specs.declared.types.Job.{Job}
use Rattle.solver_state.specs.declared.types.Job.TheVariants.{Density, StableDensity, PressureSpinodal, BranchSpinodal, CriticalPoint, StabilitySpinodals, CriticalPointBinaryT, CriticalPointBinaryP}
use Rattle.solver_state.specs.declared.types.State.{State}
use Rattle.solver_state.specs.State.{search_of, span_of, most_rounds, going, start_of, density_step, stable_step, spinodal_step, branch_step, critical_step, spinodals_step, temperature_step, pressure_step, step_of}
use Rattle.solver_state.proofs.StateLaw.{step_law, begins, within_span}
use Rattle.solver_state.proofs.Ranges.{ranges_kept, starts_in_ranges}
use Rattle.reader.specs.declared.types.Job as Block
use Rattle.std.specs.Prelude.{Ok, Err}
use Rattle.reader.specs.Refusals.{number_of}
use Rattle.stepping.specs.Stepping as Stepping
use Rattle.stepping.specs.Stepping.{Work, work_in, refused_state, start_by, uncounted, step_by}
use Rattle.stepping.specs.States.{state_after}
use Rattle.stepping.proofs.Ends.{again, begin_again, step_again}
use Rattle.stepping.proofs.Sights.{after_last, after_most}

-- ---- a step's count is one added to the count before

abbrev added : State → State → State
added s r = record { numbers = r.numbers; evaluations = s.evaluations + r.evaluations; latest = r.latest }

module _ (ev : Evaluator) (s : State) where
  ended_apart : s ≡ added s (uncounted s)
  ended_apart = rw (add-zero s.evaluations)

  density_apart : (c : Conditions) (p : Standing DensitySpot) → density_step c ev p s ≡ added s (density_step c ev p (uncounted s))
  unfolding density_step
  density_apart c (Break a) = ended_apart
  density_apart c (Continue x) = refl

  stable_apart : (maxdensity t p : Float) (x : Standing StableSpot) → stable_step maxdensity t p ev x s ≡ added s (stable_step maxdensity t p ev x (uncounted s))
  unfolding stable_step
  stable_apart maxdensity t p (Break a) = ended_apart
  stable_apart maxdensity t p (Continue x) = refl

  spinodal_apart : (maxdensity t : Float) (p : Progress SpinodalSpot) → spinodal_step maxdensity t ev p s ≡ added s (spinodal_step maxdensity t ev p (uncounted s))
  unfolding spinodal_step
  spinodal_apart maxdensity t (Break a) = ended_apart
  spinodal_apart maxdensity t (Continue x) = refl

  branch_apart : (maxdensity t : Float) (branch : Branch) (p : Progress SpinodalSpot) → branch_step maxdensity t branch ev p s ≡ added s (branch_step maxdensity t branch ev p (uncounted s))
  unfolding branch_step
  branch_apart maxdensity t branch (Break a) = ended_apart
  branch_apart maxdensity t branch (Continue x) = refl

  critical_apart : (maxdensity ρ : Float) (p : Progress CriticalSpot) → critical_step maxdensity ρ ev p s ≡ added s (critical_step maxdensity ρ ev p (uncounted s))
  unfolding critical_step
  critical_apart maxdensity ρ (Break a) = ended_apart
  critical_apart maxdensity ρ (Continue x) = refl

  spinodals_apart : (maxdensity t : Float) (p : Progress SpinodalsSpot) → spinodals_step maxdensity t ev p s ≡ added s (spinodals_step maxdensity t ev p (uncounted s))
  unfolding spinodals_step
  spinodals_apart maxdensity t (Break a) = ended_apart
  spinodals_apart maxdensity t (Continue x) = refl

  temperature_apart : (maxdensity t : Float) (p : Progress TemperatureSpot) → temperature_step maxdensity t ev p s ≡ added s (temperature_step maxdensity t ev p (uncounted s))
  unfolding temperature_step
  temperature_apart maxdensity t (Break a) = ended_apart
  temperature_apart maxdensity t (Continue x) = refl

  pressure_apart : (maxdensity pressure : Float) (p : Progress PressureSpot) → pressure_step maxdensity pressure ev p s ≡ added s (pressure_step maxdensity pressure ev p (uncounted s))
  unfolding pressure_step
  pressure_apart maxdensity pressure (Break a) = ended_apart
  pressure_apart maxdensity pressure (Continue x) = refl

pub step_apart : (job : Job) (ev : Evaluator) (s : State) → step_of job ev s ≡ added s (step_of job ev (uncounted s))
unfolding step_of
step_apart (Density c) ev s = density_apart ev s c _
step_apart (StableDensity maxdensity t p) ev s = stable_apart ev s maxdensity t p _
step_apart (PressureSpinodal maxdensity t ρ) ev s = spinodal_apart ev s maxdensity t _
step_apart (BranchSpinodal maxdensity t branch) ev s = branch_apart ev s maxdensity t branch _
step_apart (CriticalPoint maxdensity temperature density) ev s = critical_apart ev s maxdensity _ _
step_apart (StabilitySpinodals maxdensity t) ev s = spinodals_apart ev s maxdensity t _
step_apart (CriticalPointBinaryT maxdensity z0 z1 t density) ev s = temperature_apart ev s maxdensity t _
step_apart (CriticalPointBinaryP maxdensity z0 z1 p temperature density) ev s = pressure_apart ev s maxdensity p _

-- so the stored count is the count, where that is below 2^64
pub step_counted : (job : Job) (ev : Evaluator) (s : State) → (step_of job ev s).evaluations < 2 ^ 64 → step_by ev (Ok job) s ≡ step_of job ev s
unfolding step_by
step_counted job ev s h =
    let e = step_apart job ev s in
    let r = step_of job ev (uncounted s) in
    let m : (s.evaluations + r.evaluations) % 2 ^ 64 ≡ s.evaluations + r.evaluations = mod-eq_of_lt (subst (λ (x : State). x.evaluations < 2 ^ 64) e h) in
    ap (λ (k : ℕ). record { numbers = r.numbers; evaluations = k; latest = r.latest }) m ∙ sym e

-- ---- the states of a search

unfoldable pub path : Job → Evaluator → ℕ → State
path job ev zero = start_of job
path job ev (suc k) = step_of job ev (path job ev k)

span_low : (job : Job) → span_of job ≤ 6204
unfolding span_of
span_low (Density c) = omega arith
span_low (StableDensity maxdensity t p) = omega arith
span_low (PressureSpinodal maxdensity t ρ) = omega arith
span_low (BranchSpinodal maxdensity t branch) = omega arith
span_low (CriticalPoint maxdensity temperature density) = omega arith
span_low (StabilitySpinodals maxdensity t) = omega arith
span_low (CriticalPointBinaryT maxdensity z0 z1 t density) = omega arith
span_low (CriticalPointBinaryP maxdensity z0 z1 p temperature density) = omega arith

module _ (job : Job) (ev : Evaluator) where
  -- after k steps it stands where its definition does after k evaluations
  pub along : (k : ℕ) → going job (path job ev k) ≡ after finite_of ev k (fresh (settle finite_of (search_of job)))
  unfolding path
  along zero = unfold going start_of after in (ap fresh (begins job))
  along (suc k) =
      step_law job ev (path job ev k) ∙ ap (next finite_of ev) (along k) ∙ sym (after_last finite_of ev k (fresh (settle finite_of (search_of job))))

  count_of : (k : ℕ) → (path job ev k).evaluations ≡ (after finite_of ev k (fresh (settle finite_of (search_of job)))).evaluations
  count_of k = unfold going in (ap (λ (g : Going). g.evaluations) (along k))

  pub count_low : (k : ℕ) → (path job ev k).evaluations ≤ 6204
  count_low k = go (leb (span_of job) k) refl
    where
      go : (b : Bool) → leb (span_of job) k ≡ b → (path job ev k).evaluations ≤ 6204
      go true e =
          let h = count_of k in
          let f = (finishes finite_of ev (within_span job) k (leb-true (span_of job) k e) 0 f0).1 in
          let m = run_most finite_of ev 0 (within_span job) in
          let l = span_low job in
          omega arith
      go false e =
          let h = count_of k in
          let m = after_most finite_of ev k (fresh (settle finite_of (search_of job))) in
          let f = leb-false (span_of job) k e in
          let l = span_low job in
          omega arith

  pub path_fits : (k : ℕ) → FitsBelow (most_rounds job) (path job ev k).numbers
  unfolding path
  path_fits zero = starts_in_ranges job
  path_fits (suc k) = ranges_kept job ev (path job ev k) (path_fits k)

  pub path_again : (k : ℕ) → again job (path job ev k).numbers ≡ (path job ev k).numbers
  unfolding path start_of
  path_again zero = begin_again job
  path_again (suc k) = step_again job ev (path job ev k) (path_again k)

-- ---- the states of a job

unfoldable pub states : Evaluator → Work → ℕ → State
states ev (Err refusal) k = refused_state (number_of refusal)
states ev (Ok job) k = path job ev k

states_step : (ev : Evaluator) (w : Work) (k : ℕ) → step_by ev w (states ev w k) ≡ states ev w (suc k)
unfolding states path
states_step ev (Err refusal) k = unfold step_by in refl
states_step ev (Ok job) k = step_counted job ev (path job ev k) (let h : (step_of job ev (path job ev k)).evaluations ≤ 6204 = count_low job ev (suc k) in omega arith)

states_start : (ev : Evaluator) (w : Work) → start_by w ≡ states ev w 0
unfolding states path start_by
states_start ev (Err refusal) = refl
states_start ev (Ok job) = refl

pub job_states : (job : Block.Job) (k : ℕ) → state_after job k ≡ states (evaluated job.blend) (work_in job) k
unfolding state_after Stepping.start_of Stepping.step_of
job_states job zero = states_start (evaluated job.blend) (work_in job)
job_states job (suc k) = ap (step_by (evaluated job.blend) (work_in job)) (job_states job k) ∙ states_step (evaluated job.blend) (work_in job) k
