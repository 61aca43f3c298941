-- The check of 17 in exact numbers: where a kind reads fractions, their sum, added in floats, passes if and only if it differs from 1 by at most 10^−9, with nothing
-- rounded in the comparison. Statement only; `sums_exact` in proofs/NearOne.antt proves it of every request.
use Rattle.std.specs.Prelude.{◌≡◌, ℕ, ◌+◌, ◌-◌, ◌*◌, ◌^◌, Bool, true, false, not, ◌||◌, List, leb, Float}
use Rattle.std.specs.Float.{nan, inf, fin}
use Rattle.std.specs.Float.Ieee.{up, down}
use Rattle.block.specs.Numbers.{reads_fractions, numbers_of}
use Rattle.block.specs.Checks.{fraction_sum, sum_fits}

-- how far ±a / c is from 1, in units of 1 / c
unfoldable pub from_one : (negative : Bool) (a c : ℕ) → ℕ
from_one false a c = a - c + (c - a)
from_one true a c = a + c

-- whether a float, ±m·2^e, differs from 1 by at most 10^−9; `up e / down e` is 2^e
unfoldable pub within_billionth : Float → Bool
within_billionth nan = false
within_billionth (inf s) = false
within_billionth (fin s m e) = leb (from_one s (m * up e) (down e) * 10 ^ 9) (down e)

abbrev pub SumsExact : Type 0
SumsExact = (kind n : ℕ) (block : List ℕ)
    → sum_fits kind n (numbers_of kind n block).fractions ≡ not (reads_fractions kind) || within_billionth (fraction_sum n (numbers_of kind n block).fractions)
