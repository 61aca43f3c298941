-- `calls::writer::put_turned`.
use lib.ListN.{length-take}
use native.Mathlib.Omega.{arith}
use Rattle.calls.proofs.writer.put_turned.Goals as goal

pub put_framed-requires-2 : goal.put_framed-requires-2
put_framed-requires-2 c = (omega arith, simp length-take (omega arith))
