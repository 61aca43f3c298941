-- An array of jets, two jets by their index, and a table of unordered pairs of its indices. Definitions only.
use Rattle.std.specs.Prelude.{ℕ, ◌+◌, ◌*◌, cond, List, [], get_or, leb, eqb, Float}
use Rattle.jet.specs.declared.Jet.{Jet}

-- the coefficients of the jet at index i
abbrev pub jet_at : List Jet → ℕ → List Float
jet_at a i = (get_or a i (record { c = [] })).c

-- the first of two jets at index 0, the second at any other
abbrev pub pair_of : List Float → List Float → ℕ → List Float
pair_of x y i = cond (eqb i 0) x y

-- where the unordered pair of the indices i and j stands in a table of 8 rows: in the row of the larger one
unfoldable pub place_of : ℕ → ℕ → ℕ
place_of i j = cond (leb j i) (8 * i + j) (8 * j + i)
