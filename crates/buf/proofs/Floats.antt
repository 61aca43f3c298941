-- Floats stored and read back. Assumes nothing.
use mathlib.Core.Path.{◌≡◌, ap, ◌∙◌}
use Prim.Native.Nat.{ℕ, ◌+◌}
use mathlib.Core.Bool.{true}
use mathlib.Core.List.{List}
use lib.ListN.{length}
use lib.Dec.{T, leb}
use lib.Ieee.{Float, binary64, of_bits, to_bits, fits}
use lib.Ieee.Bits.{of_bits-to_bits, to_bits-lt, of_bits-fits}
use Rattle.buf.specs.Bytes.{num_at, f64_at, put_f64}
use Rattle.buf.proofs.Laws.{get_put_same}

-- a value that fits is read back
pub f64_same : (s : List ℕ) (i : ℕ) (x : Float) → leb (i + 8) (length s) ≡ true → T (fits binary64 x) → f64_at (put_f64 s i x) i ≡ x
f64_same s i x h k = ap (of_bits binary64) (get_put_same 8 s i (to_bits binary64 x) h (to_bits-lt binary64 x k)) ∙ of_bits-to_bits binary64 x k

-- what is read fits
pub f64_fits : (s : List ℕ) (i : ℕ) → T (fits binary64 (f64_at s i))
f64_fits s i = of_bits-fits binary64 (num_at 8 s i)
