-- `writer::packing::put_conditions`.
use Rattle.writer.proofs.PutLaws.{conditions_put}
use borrow.Author.Rules.{rules}
use Rattle.writer.proofs.packing.put_conditions.Goals as goal

pub returns : goal.returns
returns c = (
  conditions_put _ _ _ _ _ _ _ c.put_u64.ensures c.put_float.ensures.0 c.put_float-2.ensures.0 c.put_float-3.ensures.0,
  record { choice = search rules; temperature = c.put_float.ensures.1; pressure = c.put_float-2.ensures.1; start = c.put_float-3.ensures.1 },
)
