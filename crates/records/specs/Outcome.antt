-- How a job ends: document 01's "first data refusal's, else those of the definition's end .. with the evaluations made". Definitions only.
use Rattle.std.specs.Prelude.{ℕ, Ok, Err}
use Rattle.float.specs.Ops.{f0}
use Rattle.float.specs.Sign.{finite_of}
use Rattle.eos.specs.declared.types.Blend.{Blend}
use Rattle.eos.specs.Cubic.{nth, max_density}
use Rattle.solver.specs.declared.types.Ran.{Ran}
use Rattle.solver.specs.Answer.{status_of, values_of}
use Rattle.solver.specs.Search.{Search, Evaluator, run}
use Rattle.solver.specs.Evaluated.{evaluated}
use Rattle.solver_density.specs.Density.{density_iteration}
use Rattle.solver_density.specs.Stable.{density_iteration_stable}
use Rattle.solver_density.specs.Spinodal.{pressure_spinodal, pressure_spinodal_branch}
use Rattle.solver_critical.specs.CriticalPoint.{critical_point}
use Rattle.solver_critical.specs.Spinodal.{spinodal}
use Rattle.solver_binary.specs.CriticalPointBinary.{critical_point_binary_t, critical_point_binary_p}
use Rattle.reader.specs.declared.types.Job.{Job}
use Rattle.reader.specs.declared.types.Task.{Task}
use Rattle.reader.specs.declared.types.Refusal.{Refusal}
use Rattle.std.specs.declared.result.Result.{Result}
use Rattle.reader.specs.Refusals.{number_of}
use Rattle.records.specs.declared.types.Outcome.{Outcome}

-- a job is refused by its data, or it is a search
pub data Course : Type 0 where
  refused_by : ℕ → Course
  searches : Search → Course

-- "Kinds and spans": each kind's search, from the maximum density of its blend; kinds 8 and 9 "start from the block's fractions"
unfoldable pub course_of : Blend → Result Task Refusal → Course
course_of blend (Err refusal) = refused_by (number_of refusal)
course_of blend (Ok (Task.DensityIteration t p initial)) = searches (density_iteration (max_density blend) t p initial)
course_of blend (Ok (Task.DensityIterationStable t p)) = searches (density_iteration_stable (max_density blend) t p)
course_of blend (Ok (Task.PressureSpinodal t start)) = searches (pressure_spinodal (max_density blend) t start)
course_of blend (Ok (Task.PressureSpinodalBranch t branch)) = searches (pressure_spinodal_branch (max_density blend) t branch)
course_of blend (Ok (Task.CriticalPoint t density)) = searches (critical_point (max_density blend) t density)
course_of blend (Ok (Task.Spinodal t)) = searches (spinodal (max_density blend) t)
course_of blend (Ok (Task.CriticalPointBinaryT t density)) = searches (critical_point_binary_t (max_density blend) (nth blend.x 0) (nth blend.x 1) t density)
course_of blend (Ok (Task.CriticalPointBinaryP p t density)) = searches (critical_point_binary_p (max_density blend) (nth blend.x 0) (nth blend.x 1) p t density)

-- "Unused floats, and all on refusal, are +0"; a data refusal comes before any evaluation
unfoldable pub refused_end : ℕ → Outcome
refused_end number = record { status = number; values = record { first = f0; second = f0; third = f0 }; evaluations = 0 }

unfoldable pub search_end : Ran → Outcome
search_end r = record { status = status_of r.answer; values = values_of r.answer; evaluations = r.evaluations }

unfoldable pub end_of : Evaluator → Course → Outcome
end_of ev (refused_by number) = refused_end number
end_of ev (searches t) = search_end (run finite_of ev 0 t)

abbrev pub job_course : Job → Course
job_course job = course_of job.blend job.task

unfoldable pub outcome_of : Job → Outcome
outcome_of job = end_of (evaluated job.blend) (job_course job)
