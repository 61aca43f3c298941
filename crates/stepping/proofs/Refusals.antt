-- A request that submit accepts is refused by its data only. Assumes nothing.
use Rattle.std.proofs.Common.{◌≡◌, ℕ, Bool, true, List, refl}
use Rattle.eos.specs.declared.types.Blend.{Blend}
use Rattle.block.specs.declared.types.Conditions.{Conditions}
use Rattle.reader.specs.declared.types.Job.{Job}
use Rattle.reader.specs.declared.types.Task.{Task}
use Rattle.reader.specs.declared.types.Refusal.{Refusal}
use Rattle.reader.specs.Refusals.{number_of}
use Rattle.block.specs.Numbers.{numbers_of}
use Rattle.reader.specs.View.{task_of, refused, of_data, run_blend, view}
use Rattle.reader.proofs.ViewLaws.{OfData, request_keeps, task_keeps}
use Rattle.std.specs.Prelude.{Ok, Err}
use Rattle.stepping.specs.Stepping.{Work, work_of, work_in}
use Rattle.stepping.specs.States.{Request}

-- a search, or a refusal of the supplier's data
unfoldable pub by_data : Work → Bool
by_data (Err refusal) = of_data (number_of refusal)
by_data (Ok job) = true

task_searches : (blend : Blend) (kind : ℕ) (c : Conditions) → by_data (work_of blend (Ok (task_of kind c))) ≡ true
unfolding work_of by_data
task_searches blend kind c = task_keeps (λ (task : Task). by_data (work_of blend (Ok task)) ≡ true) kind c refl refl refl refl refl refl refl refl

refused_data : (refusal : Refusal) → OfData refusal → by_data (work_in (refused refusal)) ≡ true
unfolding refused work_of by_data
refused_data refusal e = e

pub refused_by_data : (kind n : ℕ) (block : List ℕ) → Request kind n block → by_data (work_in (view kind n block)) ≡ true
refused_by_data kind n block r =
    let d = numbers_of kind n block in
    request_keeps (λ (job : Job). by_data (work_in job) ≡ true) kind n block r.fit_kind r.fit_count r.block_fits refused_data (task_searches (run_blend kind n d) kind d.conditions)
