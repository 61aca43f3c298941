-- The search that a request makes has the range of its kind. Assumes nothing.
use Rattle.std.proofs.Common.{◌≡◌, ℕ, List, refl}
use Rattle.eos.specs.declared.types.Blend.{Blend}
use Rattle.solver.specs.Stored.{rounds_of}
use Rattle.solver_state.specs.State.{most_rounds}
use Rattle.block.specs.declared.types.Conditions.{Conditions}
use Rattle.block.specs.Numbers.{numbers_of}
use Rattle.reader.specs.declared.types.Job.{Job}
use Rattle.reader.specs.declared.types.Task.{Task}
use Rattle.reader.specs.declared.types.Refusal.{Refusal}
use Rattle.reader.specs.View.{task_of, refused, run_blend, view}
use Rattle.reader.proofs.ViewLaws.{view_keeps, task_by_kind}
use Rattle.std.specs.Prelude.{Ok, Err}
use Rattle.stepping.specs.Stepping.{task_search, Work, work_of, work_in}

abbrev pub OfKind : ℕ → Work → Type 0
OfKind kind (Err refusal) = Unit {0}
OfKind kind (Ok job) = rounds_of kind ≡ most_rounds job

task_of_kind : (blend : Blend) (kind : ℕ) (c : Conditions) → OfKind kind (work_of blend (Ok (task_of kind c)))
unfolding work_of task_search most_rounds rounds_of
task_of_kind blend kind c =
    task_by_kind (λ (kind : ℕ) (task : Task). OfKind kind (work_of blend (Ok task))) kind c refl refl refl refl (λ o. rw (o.not_8, o.not_9)) refl refl refl

refused_of_kind : (kind : ℕ) (refusal : Refusal) → OfKind kind (work_in (refused refusal))
unfolding work_of refused
refused_of_kind kind refusal = tt

pub view_of_kind : (kind n : ℕ) (block : List ℕ) → OfKind kind (work_in (view kind n block))
view_of_kind kind n block =
    let d = numbers_of kind n block in
    view_keeps (λ (job : Job). OfKind kind (work_in job)) kind n block (refused_of_kind kind) (task_of_kind (run_blend kind n d) kind d.conditions)
