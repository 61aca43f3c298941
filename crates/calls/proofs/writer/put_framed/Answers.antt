-- `calls::writer::put_framed`.
use Rattle.calls.proofs.WriteLaws.{framed_written}
use Rattle.buf.specs.Bytes.{zeros}
use Rattle.calls.proofs.writer.put_framed.Goals as goal

pub returns : goal.returns
unfolding zeros
returns c = framed_written _ _ _ _ _ _ _ _ _ c.put_u64.ensures c.put_u64-2.ensures c.put_part.ensures c.put_part-2.ensures
