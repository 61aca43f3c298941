-- `float::bits::finite_bits`.
use Rattle.float.proofs.FiniteBits.{finite_bits}
use Rattle.float.proofs.bits.finite_bits.Goals as goal

pub returns : goal.returns
returns c = finite_bits c.args.b
