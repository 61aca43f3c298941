-- `quarter::jobs::step_first`.
use Rattle.quarter.proofs.QuarterLaws.{job_stepped}
use Rattle.quarter.proofs.jobs.step_first.Goals as goal

pub returns : goal.returns
returns c =
    let A = c.args in
    job_stepped _ _ _ _ A.stored _ c.first_slot-slot.ensures.0 c.get_u64-kind.ensures c.get_u64-n.ensures c.step_request.ensures
