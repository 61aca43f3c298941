-- `float::bits::to_bits`.
use mathlib.Core.Path.{sym, ap}
use Rattle.std.specs.Float.{binary64}
use Rattle.std.specs.Float.Ieee.{to_bits}
use Rattle.float.proofs.SignLaws.{nan_only}
use Rattle.float.proofs.bits.to_bits.Goals as goal

pub returns-then-is_nan : goal.returns-then-is_nan
unfolding to_bits
returns-then-is_nan c = sym (ap (to_bits binary64) (nan_only c.args.x (sym c.if-is_nan.ensures.value)))
