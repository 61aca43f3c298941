-- `stepping::jobs::step_request`.
use Rattle.reader.specs.View.{view}
use Rattle.stepping.proofs.ReadSteps.{step_read}
use Rattle.stepping.proofs.jobs.step_request.Goals as goal

pub returns : goal.returns
returns c =
    let A = c.args in
    step_read A.stored (view A.kind A.n A.block.now) _ _ _ _ _ c.read-task.ensures c.work-work.ensures c.state_of.ensures c.step_by.ensures
