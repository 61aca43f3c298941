-- A step of a job whose blend is read in place: that of the job, since a refused one makes no evaluation. Assumes nothing.
use Rattle.std.proofs.Common.{◌≡◌, true, refl, ap, ◌∙◌}
use Rattle.eos.specs.declared.types.Blend.{Blend}
use Rattle.solver.specs.Evaluated.{evaluated}
use Rattle.reader.specs.declared.types.Job.{Job}
use Rattle.reader.specs.declared.types.Task.{Task}
use Rattle.reader.specs.declared.types.Refusal.{Refusal}
use Rattle.std.specs.declared.result.Result.{Result}
use Rattle.std.specs.Prelude.{Option, Ok, Err, unwrap_or}
use Rattle.reader.specs.Reading.{not_refused, Reads}
use Rattle.solver_state.specs.declared.types.State.{State}
use Rattle.stepping.specs.Stepping.{Work, work_of, start_by, start_of, step_by, step_of}

module _ (stored : Option State) where
  -- the step on a blend
  abbrev step_on : Result Task Refusal → Blend → State
  step_on task b = step_by (evaluated b) (work_of b task) (unwrap_or stored (start_by (work_of b task)))

  same_step : (task : Result Task Refusal) (rows b : Blend) → (not_refused task ≡ true → rows ≡ b) → step_on task rows ≡ step_on task b
  unfolding work_of start_by step_by not_refused
  same_step (Err refusal) rows b h = refl
  same_step (Ok task) rows b h = ap (step_on (Ok task)) (h refl)

  pub step_read : (job : Job) (task : Result Task Refusal) (blend : Blend) (w : Work) (from r : State) → Reads job task blend → w ≡ work_of blend task
      → from ≡ unwrap_or stored (start_by w) → r ≡ step_by (evaluated blend) w from → r ≡ step_of job (unwrap_or stored (start_of job))
  unfolding step_of start_of
  step_read job task blend w from r h ew ef er =
      er ∙ rw (ef, ew) (same_step task blend job.blend h.1 ∙ ap (λ (t : Result Task Refusal). step_on t job.blend) h.0)
