-- `quarter::jobs::first_ticket`.
use Rattle.std.proofs.Common.{rules}
use Rattle.quarter.proofs.QuarterLaws.{ticket_below}
use Rattle.quarter.proofs.jobs.first_ticket.Goals as goal

pub returns : goal.returns
returns c = ticket_below _ _ _ _ c.get_u64-accepted.ensures c.get_u64-held.ensures (search rules) c.wrapping_sub_u64.ensures.value
