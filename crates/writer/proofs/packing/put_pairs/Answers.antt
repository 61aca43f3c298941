-- `writer::packing::put_pairs`.
use Rattle.writer.proofs.PutLaws.{pairs_put}
use Rattle.writer.proofs.packing.put_pairs.Goals as goal

pub returns : goal.returns
returns c = pairs_put _ _ _ _ _ _ _ _ _ _ c.interactions_from.ensures.0 c.interactions_size.ensures.0 c.fractions_from.ensures.0 c.conditions_from.ensures.0 c.put_pair.ensures c.put_pair-2.ensures c.put_pair-3.ensures c.put_pair-4.ensures
