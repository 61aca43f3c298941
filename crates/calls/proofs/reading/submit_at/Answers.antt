-- `calls::reading::submit_at`.
use Rattle.calls.proofs.ReadLaws.{submit_cut, submit_read}
use native.Mathlib.Omega.{arith}
use Rattle.calls.proofs.reading.submit_at.Goals as goal

pub returns-then-calls-from : goal.returns-then-calls-from
returns-then-calls-from c = submit_cut _ _ _ c.get_u64-length.ensures (omega arith) c.if-calls-from.true

pub returns : goal.returns
returns c = submit_read _ _ _ c.get_u64-length.ensures _ _ _ c.get_u64-queue.ensures c.get_u64-kind.ensures c.get_u64-n.ensures (omega arith) c.if-calls-from.false
