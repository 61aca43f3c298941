-- What the reader of a request leaves: the task of its job and the blend that the job searches. Definitions only.
use Rattle.std.specs.Prelude.{◌≡◌, ℕ, Bool, true, false, Ok, Err}
use Rattle.std.specs.declared.result.Result.{Result}
use Rattle.eos.specs.declared.types.Blend.{Blend}
use Rattle.reader.specs.declared.types.Task.{Task}
use Rattle.reader.specs.declared.types.Refusal.{Refusal}
use Rattle.reader.specs.declared.types.Job.{Job}
use Rattle.reader.specs.Refusals.{number_of}

-- there is a task, and so a search
unfoldable pub not_refused : Result Task Refusal → Bool
not_refused (Ok task) = true
not_refused (Err refusal) = false

-- the number that a request is refused by; 0 where it is not
unfoldable pub refusal_of : {A : Type 0} → Result A Refusal → ℕ
refusal_of (Ok x) = 0
refusal_of (Err refusal) = number_of refusal

-- the job's task, and its blend where it is not refused
abbrev pub Reads : Job → Result Task Refusal → Blend → Type 0
Reads job task blend = (task ≡ job.task) × (not_refused task ≡ true → blend ≡ job.blend)
