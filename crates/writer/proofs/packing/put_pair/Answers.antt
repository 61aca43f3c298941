-- `writer::packing::put_pair`.
use Rattle.writer.proofs.PutLaws.{pair_put}
use Rattle.writer.proofs.packing.put_pair.Goals as goal

pub returns : goal.returns
returns c = pair_put _ _ _ _ _ _ c.put_num.ensures c.put_num-2.ensures
