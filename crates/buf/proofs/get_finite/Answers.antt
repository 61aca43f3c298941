-- `buf::get_finite`.
use Rattle.buf.proofs.get_finite.Goals as goal

pub from_finite_bits-requires : goal.from_finite_bits-requires
from_finite_bits-requires c = rw c.get_u64.ensures c.requires.1

pub returns : goal.returns
returns c = cc
