-- `buf::get_f64`.
use Rattle.buf.proofs.get_f64.Goals as goal

pub returns : goal.returns
returns c = cc
