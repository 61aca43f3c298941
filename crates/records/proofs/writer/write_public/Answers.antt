-- `records::writer::write_public`.
use Rattle.records.proofs.RecordLaws.{public_written}
use Rattle.records.proofs.writer.write_public.Goals as goal

pub returns : goal.returns
returns c = public_written _ _ _ _ _ _ _ _ c.put_u64.ensures c.put_num.ensures c.put_num-2.ensures c.put_num-3.ensures
