-- `buf::put_u64`.
use mathlib.Core.Path.{◌∙◌}
use native.Mathlib.Omega.{arith}
use Rattle.buf.specs.Bytes.{bytes_of, put_num}
use Rattle.buf.proofs.Laws.{lent_back, length_bytes_of, to_eight}
use Rattle.buf.proofs.put_u64.Goals as goal

pub returns : goal.returns
unfolding put_num
returns c = let v = c.args.v in rw (c.copy_from_slice.ensures.after, c.to_le_bytes.ensures ∙ to_eight v) (lent_back c.args.s.now (bytes_of 8 v) c.args.at _ 8 (omega arith) (length_bytes_of 8 v) c.requires)
