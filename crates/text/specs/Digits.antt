-- A number's digits, in ASCII. Definitions only.
use Rattle.std.specs.Prelude.{ℕ, zero, suc, ◌+◌, ◌/◌, ◌%◌, cond, List, [], ◌∷◌, ◌++◌, ltb}

-- `0` to `9`, then `A` to `F`
unfoldable pub glyph : ℕ → ℕ
glyph d = cond (ltb d 10) (48 + d) (55 + d)

-- the last k digits of n, the most significant first
unfoldable pub digits : (base k n : ℕ) → List ℕ
digits base zero n = []
digits base (suc k) n = digits base k (n / base) ++ (glyph (n % base) ∷ [])

-- how many decimal digits n has, at most k + 1
unfoldable pub width_in : (k n : ℕ) → ℕ
width_in zero n = 1
width_in (suc k) n = cond (ltb n 10) 1 (suc (width_in k (n / 10)))

-- a u64 has at most 20
unfoldable pub width : ℕ → ℕ
width n = width_in 19 n
