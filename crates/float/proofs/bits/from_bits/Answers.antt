-- `float::bits::from_bits`.
use mathlib.Core.Path.{sym, ◌∙◌}
use Rattle.float.proofs.Patterns.{no_nan}
use Rattle.float.proofs.Above.{nan_is}
use Rattle.float.proofs.RoundTrip.{nan_pattern}
use Rattle.float.proofs.bits.from_bits.Goals as goal

pub float_from_bits-result : goal.float_from_bits-result
float_from_bits-result c = no_nan c.args.b c.if-b-le-INFINITY_BITS.true

pub returns : goal.returns
returns c = nan_is ∙ sym (nan_pattern c.args.b c.if-b-le-INFINITY_BITS.false)
