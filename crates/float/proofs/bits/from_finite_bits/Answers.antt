-- `float::bits::from_finite_bits`.
use Rattle.float.proofs.Patterns.{no_nan}
use Rattle.float.proofs.FiniteBits.{finite_no_nan}
use Rattle.float.proofs.bits.from_finite_bits.Goals as goal

pub float_from_bits-result : goal.float_from_bits-result
float_from_bits-result c = no_nan c.args.b (finite_no_nan c.args.b c.requires)
