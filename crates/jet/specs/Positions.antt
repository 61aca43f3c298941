-- The positions of a jet's coefficients, and which stand not above which. Definitions only.
use Rattle.std.specs.Prelude.{ℕ, zero, suc, ◌+◌, ◌/◌, ◌%◌, Bool, cond, ◌&&◌, List, [], ◌∷◌, pos, leb, Float}
use Rattle.std.specs.Float.{binary64}
use Rattle.std.specs.Float.Ieee.{of_int}

-- "coefficients of a polynomial in marks e0 (degree up to 3), e1 and e2 (up to 1), at position i + 4j + 8k"; "a jet now has 32 floats: a mark e3 of degree up to 1 adds 16 to
-- the position"
abbrev pub positions : ℕ
positions = 32

abbrev pub degree0 : ℕ → ℕ
degree0 m = m % 4

abbrev pub degree1 : ℕ → ℕ
degree1 m = m / 4 % 2

abbrev pub degree2 : ℕ → ℕ
degree2 m = m / 8 % 2

abbrev pub degree3 : ℕ → ℕ
degree3 m = m / 16

-- "p not above m in any mark"
unfoldable pub not_above : ℕ → ℕ → Bool
not_above p m = leb (degree0 p) (degree0 m) && leb (degree1 p) (degree1 m) && leb (degree2 p) (degree2 m) && leb (degree3 p) (degree3 m)

-- of the k positions from p on, those not above m, ascending
unfoldable pub among : ℕ → ℕ → ℕ → List ℕ
among zero p m = []
among (suc k) p m = cond (not_above p m) (p ∷ among k (suc p) m) (among k (suc p) m)

-- the p of the pairs p, m; those of them before m; and those other than 0 and m
unfoldable pub pairs_of : ℕ → List ℕ
pairs_of m = among (suc m) 0 m

unfoldable pub before : ℕ → List ℕ
before m = among m 0 m

unfoldable pub between : ℕ → List ℕ
between zero = []
between (suc k) = among k 1 (suc k)

-- no term that two of e1, e2 and e3 share
unfoldable pub first_order : ℕ → Bool
first_order m = leb (degree1 m + degree2 m + degree3 m) 1

-- "w the degree sum", as a float
unfoldable pub weight_of : ℕ → Float
weight_of m = of_int binary64 (pos (degree0 m + degree1 m + degree2 m + degree3 m))
