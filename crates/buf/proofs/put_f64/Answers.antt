-- `buf::put_f64`.
use Rattle.buf.proofs.put_f64.Goals as goal

pub returns : goal.returns
returns c = cc
