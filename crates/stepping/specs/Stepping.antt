-- A job of a request block, one evaluation at a time: its first state, its step, the range of a stored state, and its end. Definitions only.
use Rattle.std.specs.Prelude.{ℕ, ◌+◌, ◌%◌, ◌^◌, Bool, cond, ◌&&◌, ◌||◌, ◌==◌, Ok, Err}
use Rattle.float.specs.Ops.{f0}
use Rattle.eos.specs.declared.types.Blend.{Blend}
use Rattle.eos.specs.Cubic.{nth, max_density}
use Rattle.solver.specs.declared.types.Counters.{Counters}
use Rattle.solver.specs.Search.{Evaluator}
use Rattle.solver.specs.Evaluated.{evaluated}
use Rattle.solver.specs.Stored.{in_ranges}
use Rattle.solver_density.specs.Density.{conditions_of}
use Rattle.solver_state.specs.declared.types.State.{State}
use Rattle.solver_state.specs.declared.types.Job.{Job as SearchJob}
use Rattle.solver_state.specs.declared.types.Job.TheVariants as Search
use Rattle.solver_state.specs.State as Steps
use Rattle.reader.specs.declared.types.Job.{Job}
use Rattle.reader.specs.declared.types.Task.{Task}
use Rattle.reader.specs.declared.types.Refusal.{Refusal}
use Rattle.std.specs.declared.result.Result.{Result}
use Rattle.reader.specs.Refusals.{number_of}
use Rattle.reader.specs.View.{of_data}
use Rattle.stepping.specs.declared.types.Ended.{Ended}

-- the search that a job makes, or what it is refused by
abbrev pub Work : Type 0
Work = Result SearchJob Refusal

-- the search that a task makes, from its blend's maximum density, and in kinds 8 and 9 from its fractions
unfoldable pub task_search : Blend → Task → SearchJob
task_search blend (Task.DensityIteration t p initial) = Search.Density (conditions_of (max_density blend) t p initial)
task_search blend (Task.DensityIterationStable t p) = Search.StableDensity (max_density blend) t p
task_search blend (Task.PressureSpinodal t start) = Search.PressureSpinodal (max_density blend) t start
task_search blend (Task.PressureSpinodalBranch t branch) = Search.BranchSpinodal (max_density blend) t branch
task_search blend (Task.CriticalPoint t density) = Search.CriticalPoint (max_density blend) t density
task_search blend (Task.Spinodal t) = Search.StabilitySpinodals (max_density blend) t
task_search blend (Task.CriticalPointBinaryT t density) = Search.CriticalPointBinaryT (max_density blend) (nth blend.x 0) (nth blend.x 1) t density
task_search blend (Task.CriticalPointBinaryP p t density) = Search.CriticalPointBinaryP (max_density blend) (nth blend.x 0) (nth blend.x 1) p t density

unfoldable pub work_of : Blend → Result Task Refusal → Work
work_of blend (Ok task) = Ok (task_search blend task)
work_of blend (Err refusal) = Err refusal

abbrev pub work_in : Job → Work
work_in job = work_of job.blend job.task

-- a job refused by its data is at its end before any evaluation: tag 0, and the refusal as its status
unfoldable pub refused_state : ℕ → State
refused_state number = record {
  numbers = record {
    counters = record { stage = 0; tag = 0; status = number; left = 0; way = 0; rounds = 0 };
    values = record { first = f0; second = f0; third = f0 };
  };
  evaluations = 0;
  latest = f0;
}

unfoldable pub start_by : Work → State
start_by (Err refusal) = refused_state (number_of refusal)
start_by (Ok job) = Steps.start_of job

unfoldable pub start_of : Job → State
start_of job = start_by (work_in job)

-- a state with its count put to zero, and with n more counted, in eight bytes
abbrev pub uncounted : State → State
uncounted s = record { numbers = s.numbers; evaluations = 0; latest = s.latest }

abbrev pub counted : ℕ → State → State
counted n s = record { numbers = s.numbers; evaluations = (n + s.evaluations) % 2 ^ 64; latest = s.latest }

-- one evaluation and one more counted, or none at an end
unfoldable pub step_by : Evaluator → Work → State → State
step_by ev (Err refusal) s = s
step_by ev (Ok job) s = counted s.evaluations (Steps.step_of job ev (uncounted s))

unfoldable pub step_of : Job → State → State
step_of job s = step_by (evaluated job.blend) (work_in job) s

-- stage 0 and tag 0: every kind reads this as its end
unfoldable pub at_end : Counters → Bool
at_end c = c.stage == 0 && c.tag == 0

-- the end of a job refused by its data
unfoldable pub data_refusal : Counters → Bool
data_refusal c = at_end c && (c.left == 0 && (c.way == 0 && (c.rounds == 0 && of_data c.status)))

-- the range of each counter: those of the kind's search, or a data refusal's
abbrev pub counters_fit : (kind : ℕ) → Counters → Bool
counters_fit kind c = in_ranges kind c || data_refusal c

unfoldable pub state_fits : (kind : ℕ) → State → Bool
state_fits kind s = counters_fit kind s.numbers.counters

-- status and floats of an end, as they are stored; where a state is no end, which no job of a fresh board leaves in its last turn, 22 and +0
unfoldable pub result_of : State → Ended
result_of s =
    cond (at_end s.numbers.counters)
    (record { status = s.numbers.counters.status; values = s.numbers.values })
    (record { status = 22; values = record { first = f0; second = f0; third = f0 } })
