-- The states of a job, one evaluation after another, and what a look shows of them. Definitions only.
use Rattle.std.specs.Prelude.{◌≡◌, ℕ, zero, suc, ◌%◌, ◌^◌, min, true, List, length, Float}
use Rattle.float.specs.Ops.{f0}
use Rattle.float.specs.Sign.{finite_of}
use Rattle.solver.specs.Search.{Evaluator, run, Going, after, fresh}
use Rattle.solver.specs.Evaluated.{evaluated}
use Rattle.reader.specs.declared.types.Job.{Job}
use Rattle.reader.specs.View.{view}
use Rattle.records.specs.declared.types.Outcome.{Outcome}
use Rattle.records.specs.Outcome.{Course, refused_by, searches, job_course}
use Rattle.schedule.specs.Spans.{kind_fits, count_fits}
use Rattle.solver_state.specs.declared.types.State.{State}
use Rattle.stepping.specs.Stepping.{start_of, step_of, result_of}

-- a request that submit accepts
pub record Request (kind n : ℕ) (block : List ℕ) : Type 0 where
  pub fit_kind : kind_fits kind ≡ true
  pub fit_count : count_fits kind n ≡ true
  pub block_fits : length block ≡ 640

-- the state of a job after k turns
unfoldable pub state_after : Job → ℕ → State
state_after job zero = start_of job
state_after job (suc k) = step_of job (state_after job k)

-- what the record states of a state
unfoldable pub outcome_at : State → Outcome
outcome_at s = record { status = (result_of s).status; values = (result_of s).values; evaluations = s.evaluations }

-- a search under way with its count in eight bytes
unfoldable pub wrapped : Going → Going
wrapped g = record { left = g.left; evaluations = g.evaluations % 2 ^ 64; latest = g.latest }

-- "Look gives the running job's evaluations so far and the density of the latest one (+0 before any)"
pub record Sight : Type 0 where
  pub evaluations : ℕ
  pub density : Float

-- "look after j turns shows the definition's state after the lesser of j and all evaluations"
unfoldable pub sight_of : Evaluator → (turns : ℕ) → Course → Sight
sight_of ev turns (refused_by number) = record { evaluations = 0; density = f0 }
sight_of ev turns (searches t) =
    record {
      evaluations = (after finite_of ev (min turns (run finite_of ev 0 t).evaluations) (fresh t)).evaluations;
      density = (after finite_of ev (min turns (run finite_of ev 0 t).evaluations) (fresh t)).latest;
    }

unfoldable pub sight : (kind n : ℕ) → List ℕ → (turns : ℕ) → Sight
sight kind n block turns =
    sight_of (evaluated (view kind n block).blend) turns (job_course (view kind n block))
