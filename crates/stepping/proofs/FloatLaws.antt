-- Floats that eight bytes hold: +0, and what a test chooses. Assumes nothing.
use Rattle.std.proofs.Common.{Bool, true, false, cond, T}
use lib.Ieee.{Float, binary64, fits}
use lib.Ieee.Bits.{of_bits-fits}
use Rattle.float.specs.Ops.{f0}

abbrev pub Fit : Float → Type 0
Fit x = T (fits binary64 x)

pub zero_fits : Fit f0
zero_fits = of_bits-fits binary64 0

-- by a test
pub cond_keeps : {S : Type 0} (P : S → Type 0) (b : Bool) (x y : S) → P x → P y → P (cond b x y)
cond_keeps P true x y h k = h
cond_keeps P false x y h k = k
