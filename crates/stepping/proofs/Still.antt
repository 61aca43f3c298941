-- A step from an end is the same state. Assumes nothing.
use Rattle.std.proofs.Common.{◌≡◌, ◌^◌, ◌<◌, true, eqb, sym, refl, ◌∙◌, subst}
use Rattle.solver.specs.Search.{Evaluator}
use Rattle.solver.specs.Evaluated.{evaluated}
use Rattle.schedule.proofs.Tests.{left_true, right_true}
use Rattle.solver_step.specs.Stored.{spinodal_place_by, density_place_by, stable_place_by}
use Rattle.solver_critical_step.specs.Stored.{critical_place_by, spinodals_place_by}
use Rattle.solver_binary_step.specs.Stored.{temperature_place_by, pressure_place_by}
use Rattle.solver_state.specs.declared.types.Job.{Job}
use Rattle.solver_state.specs.declared.types.Job.TheVariants.{Density, StableDensity, PressureSpinodal, BranchSpinodal, CriticalPoint, StabilitySpinodals, CriticalPointBinaryT, CriticalPointBinaryP}
use Rattle.solver_state.specs.declared.types.State.{State}
use Rattle.solver_state.specs.State.{density_step, stable_step, spinodal_step, branch_step, critical_step, spinodals_step, temperature_step, pressure_step, step_of}
use Rattle.reader.specs.declared.types.Job as Block
use Rattle.std.specs.Prelude.{Ok, Err}
use Rattle.stepping.specs.Stepping as Stepping
use Rattle.stepping.specs.Stepping.{Work, work_in, step_by, at_end}
use Rattle.stepping.proofs.Paths.{step_counted}

search_still : (job : Job) (ev : Evaluator) (s : State) → eqb s.numbers.counters.stage 0 ≡ true → eqb s.numbers.counters.tag 0 ≡ true → step_of job ev s ≡ s
unfolding step_of density_step stable_step spinodal_step branch_step critical_step spinodals_step temperature_step pressure_step density_place_by stable_place_by spinodal_place_by critical_place_by spinodals_place_by temperature_place_by pressure_place_by
search_still (Density c) ev s g t = rw t
search_still (StableDensity maxdensity θ p) ev s g t = rw g
search_still (PressureSpinodal maxdensity θ ρ) ev s g t = rw t
search_still (BranchSpinodal maxdensity θ branch) ev s g t = rw t
search_still (CriticalPoint maxdensity temperature density) ev s g t = rw t
search_still (StabilitySpinodals maxdensity θ) ev s g t = rw g
search_still (CriticalPointBinaryT maxdensity z0 z1 θ density) ev s g t = rw t
search_still (CriticalPointBinaryP maxdensity z0 z1 p temperature density) ev s g t = rw t

work_still : (ev : Evaluator) (w : Work) (s : State) → eqb s.numbers.counters.stage 0 ≡ true → eqb s.numbers.counters.tag 0 ≡ true → s.evaluations < 2 ^ 64 → step_by ev w s ≡ s
work_still ev (Err refusal) s g t h = unfold step_by in refl
work_still ev (Ok job) s g t h =
    let e = search_still job ev s g t in
    step_counted job ev s (subst (λ (x : State). x.evaluations < 2 ^ 64) (sym e) h) ∙ e

pub still : (job : Block.Job) (s : State) → at_end s.numbers.counters ≡ true → s.evaluations < 2 ^ 64 → Stepping.step_of job s ≡ s
unfolding Stepping.step_of at_end
still job s e h = work_still (evaluated job.blend) (work_in job) s (left_true (eqb s.numbers.counters.stage 0) (eqb s.numbers.counters.tag 0) e) (right_true (eqb s.numbers.counters.stage 0) (eqb s.numbers.counters.tag 0) e) h
