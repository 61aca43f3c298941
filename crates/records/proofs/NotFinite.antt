-- A job's status is 27 exactly where specs/NotFinite.antt says. Assumes nothing.
use mathlib.Core.Path.{◌≡◌, refl}
use Prim.Native.Nat.{ℕ}
use mathlib.Core.Bool.{false}
use mathlib.Core.List.{List}
use lib.Dec.{eqb}
use Rattle.eos.specs.declared.types.Blend.{Blend}
use Rattle.eos.specs.Cubic.{nth, max_density}
use Rattle.solver.specs.Answer.{is27}
use Rattle.solver.specs.Search.{Evaluator}
use Rattle.solver.specs.Evaluated.{evaluated}
use Rattle.solver_density.proofs.Rule.{density_27, stable_27, spinodal_27, branch_27}
use Rattle.solver_critical.proofs.Rule.{critical_27, spinodals_27}
use Rattle.solver_binary.proofs.Rule.{temperature_27, pressure_27}
use Rattle.reader.specs.declared.types.Job.{Job}
use Rattle.reader.specs.declared.types.Task.{Task}
use Rattle.reader.specs.declared.types.Refusal.{Refusal}
use Rattle.std.specs.Prelude.{Ok, Err}
use Rattle.std.specs.declared.result.Result.{Result}
use Rattle.reader.specs.Refusals.{number_of}
use Rattle.reader.specs.declared.types.Task.TheVariants.{DensityIteration, DensityIterationStable, PressureSpinodal, PressureSpinodalBranch, CriticalPoint, Spinodal, CriticalPointBinaryT, CriticalPointBinaryP}
use Rattle.reader.specs.View.{view}
use Rattle.records.specs.Outcome.{course_of, refused_end, search_end, end_of, outcome_of}
use Rattle.records.specs.NotFinite.{not_finite}

-- 27 is a search's number alone
refused_27 : (refusal : Refusal) → eqb (number_of refusal) 27 ≡ false
unfolding number_of
refused_27 Refusal.Kind = refl
refused_27 Refusal.Count = refl
refused_27 Refusal.BlockLength = refl
refused_27 Refusal.Pairs = refl
refused_27 Refusal.Components = refl
refused_27 Refusal.Interactions = refl
refused_27 Refusal.Fractions = refl
refused_27 Refusal.FractionSum = refl
refused_27 Refusal.Conditions = refl
refused_27 Refusal.Choice = refl

module _ (ev : Evaluator) (blend : Blend) where
  task_27 : (task : Result Task Refusal) → eqb (end_of ev (course_of blend task)).status 27 ≡ not_finite ev blend task
  unfolding course_of end_of refused_end search_end not_finite is27
  task_27 (Err refusal) = refused_27 refusal
  task_27 (Ok (DensityIteration t p initial)) = density_27 ev (max_density blend) t p initial
  task_27 (Ok (DensityIterationStable t p)) = stable_27 ev (max_density blend) t p
  task_27 (Ok (PressureSpinodal t start)) = spinodal_27 ev (max_density blend) t start
  task_27 (Ok (PressureSpinodalBranch t branch)) = branch_27 ev (max_density blend) t branch
  task_27 (Ok (CriticalPoint t density)) = critical_27 ev (max_density blend) t density
  task_27 (Ok (Spinodal t)) = spinodals_27 ev (max_density blend) t
  task_27 (Ok (CriticalPointBinaryT t density)) = temperature_27 (max_density blend) ev (nth blend.x 0) (nth blend.x 1) t density
  task_27 (Ok (CriticalPointBinaryP p t density)) = pressure_27 (max_density blend) ev (nth blend.x 0) (nth blend.x 1) p t density

-- ---- the theorem, for each job
pub status_27 : (job : Job) → eqb (outcome_of job).status 27 ≡ not_finite (evaluated job.blend) job.blend job.task
unfolding outcome_of
status_27 job = task_27 (evaluated job.blend) job.blend job.task

-- ---- and so for each request
pub request_27 : (kind n : ℕ) (s : List ℕ)
    → eqb (outcome_of (view kind n s)).status 27 ≡ not_finite (evaluated (view kind n s).blend) (view kind n s).blend (view kind n s).task
request_27 kind n s = status_27 (view kind n s)
