-- Document 01's logarithm of a binary64 with ln 2 in two parts (P4 of document 02), each operation rounded. Their sentences are quoted above the definitions.
-- Definitions only. How near it is to the exact logarithm: crate `ln_near`.
use Rattle.std.specs.Prelude.{ℕ, zero, suc, ◌+◌, ◌-◌, ◌*◌, ◌^◌, Bool, false, true, cond, ℤ, pos, Float}
use Rattle.std.specs.Float.{inf, binary64}
use Rattle.std.specs.Float.Ieee.{minus, size, round, of_int, of_bits, le}
use Rattle.float.specs.Ops.{◌⊕◌, ◌⊖◌, ◌⊗◌, ◌⊘◌, f1, f2}
use Rattle.float.specs.Above.{above}

-- "Split L: high part bits 3FE62E42FEE00000, low part 3DEA39EF35793C76"
abbrev pub ln2_high : Float
ln2_high = of_bits binary64 0x3fe6_2e42_fee0_0000

abbrev pub ln2_low : Float
ln2_low = of_bits binary64 0x3dea_39ef_3579_3c76

-- 1/(2k+1)
unfoldable pub odd_recip : ℕ → Float
odd_recip k = f1 ⊘ of_int binary64 (pos (2 * k + 1))

-- "then h·z + 1/(2k+1) for k = 9 down to 0": here for each k below n, the greatest first
unfoldable pub horner : Float → ℕ → Float → Float
horner z zero h = h
horner z (suc k) h = horner z k (h ⊗ z ⊕ odd_recip k)

-- "z = s·s. h starts at 1/21": the last h
unfoldable pub series : Float → Float
series s = horner (s ⊗ s) 10 (odd_recip 10)

-- "result E·high + (E·low + (2·s)·h)". Nothing else combines E with the series.
abbrev pub combined : Float → Float → Float → Float
combined E s h = E ⊗ ln2_high ⊕ (E ⊗ ln2_low ⊕ f2 ⊗ s ⊗ h)

-- "s = (M−1)/(M+1)"
unfoldable pub reduced_ln : Float → ℤ → Float
reduced_ln M E = let s = (M ⊖ f1) ⊘ (M ⊕ f1) in combined (of_int binary64 E) s (series s)

-- "if M is at least hexadecimal bits 3FF6A09E667F3BCD"
abbrev pub halves : Float → Bool
halves M = le (of_bits binary64 0x3ff6_a09e_667f_3bcd) M

-- "halve M and add 1 to E". E is j − 1074.
unfoldable pub ln_at : Float → ℕ → Float
ln_at M j =
    cond (halves M)
    (reduced_ln (M ⊗ of_bits binary64 0x3fe0_0000_0000_0000) (minus (j + 1) 1074))
    (reduced_ln M (minus j 1074))

-- "x = M·2^E, M in [1, 2)", for an x of n units of 2^−1074. j is the place of n's highest digit, so M is n / 2^j, and `round` is exact there.
unfoldable pub ln_units : ℕ → Float
ln_units n = let j = size n - 1 in ln_at (round binary64 false n (2 ^ j)) j

-- "Either zero gives minus infinity, a negative number NaN, infinity or NaN itself"
unfoldable pub ln_of : Float → Float
ln_of = above (λ s e. inf true) ln_units
