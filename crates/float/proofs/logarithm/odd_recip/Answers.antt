-- `float::logarithm::odd_recip`.
use mathlib.Core.Path.{refl}
use Prim.Native.Nat.{◌+◌, ◌*◌}
use native.Mathlib.Omega.{arith}
use Rattle.float.specs.Ln.{odd_recip}
use Rattle.float.proofs.Casts.{small_int}
use Rattle.float.proofs.logarithm.odd_recip.Goals as goal

pub int_to_float-result : goal.int_to_float-result
int_to_float-result c = small_int (2 * c.args.k + 1) (omega arith)

pub returns : goal.returns
unfolding odd_recip
returns c = refl
