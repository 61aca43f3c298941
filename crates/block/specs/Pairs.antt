-- The four pairs of offset and length at the start of a request block. Document 01's sentences are quoted above the definitions. Definitions only.
use Rattle.std.specs.Prelude.{ℕ, ◌+◌, ◌-◌, ◌*◌, Bool, ◌&&◌, List, leb, eqb}
use Rattle.buf.specs.Bytes.{num_at}

-- "Four pairs of offset and length, each u16, fill bytes 0 to 15"
unfoldable pub offset_of : List ℕ → ℕ → ℕ
offset_of s i = num_at 2 s (4 * i)

unfoldable pub length_of : List ℕ → ℕ → ℕ
length_of s i = num_at 2 s (4 * i + 2)

abbrev pub end_of : List ℕ → ℕ → ℕ
end_of s i = offset_of s i + length_of s i

-- their order
abbrev pub coefficients : ℕ
coefficients = 0

abbrev pub interactions : ℕ
interactions = 1

abbrev pub fractions : ℕ
fractions = 2

abbrev pub conditions : ℕ
conditions = 3

-- their lengths: "coefficients (24N ..), interactions (4N(N−1) ..), fractions (8N), conditions (32 ..)"
abbrev pub coefficients_length : ℕ → ℕ
coefficients_length n = 24 * n

abbrev pub interactions_length : ℕ → ℕ
interactions_length n = 4 * (n * (n - 1))

abbrev pub fractions_length : ℕ → ℕ
fractions_length n = 8 * n

abbrev pub conditions_length : ℕ
conditions_length = 32

unfoldable pub lengths_fit : ℕ → List ℕ → Bool
lengths_fit n s =
    eqb (length_of s coefficients) (coefficients_length n)
    && (eqb (length_of s interactions) (interactions_length n)
    && (eqb (length_of s fractions) (fractions_length n) && eqb (length_of s conditions) conditions_length))

-- "Offsets begin at 16 or later, and none precedes the end of the pair before; the last end is at most 640"
unfoldable pub offsets_fit : List ℕ → Bool
offsets_fit s =
    leb 16 (offset_of s coefficients)
    && (leb (end_of s coefficients) (offset_of s interactions)
    && (leb (end_of s interactions) (offset_of s fractions)
    && (leb (end_of s fractions) (offset_of s conditions) && leb (end_of s conditions) 640)))

-- 11
unfoldable pub pairs_fit : ℕ → List ℕ → Bool
pairs_fit n s = lengths_fit n s && offsets_fit s
