-- `gateway::pr_write_block`.
use Rattle.gateway.proofs.pr_write_block.Goals as goal

pub returns : goal.returns
returns c = rw c.number.ensures c.write_block-written.ensures
