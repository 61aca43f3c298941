-- The block that the writer makes of the numbers filed: "the parts packed from 16 and zeros after them". Definitions only.
use Rattle.std.specs.Prelude.{ℕ, ◌+◌, ◌-◌, List, [], ◌∷◌, ◌++◌, Float}
use Rattle.buf.specs.Bytes.{bytes_of, zeros}
use Rattle.block.specs.declared.types.Conditions.{Conditions}
use Rattle.block.specs.declared.types.Numbers.{Numbers}
use Rattle.records.specs.Record.{float_bytes}
use Rattle.block.specs.Pairs.{coefficients_length, interactions_length, fractions_length, conditions_length}

-- the numbers filed: three lists of any length and the conditions
abbrev pub filed_by : (coefficients interactions fractions : List Float) → Conditions → Numbers
filed_by coefficients interactions fractions c = record { coefficients = coefficients; interactions = interactions; fractions = fractions; conditions = c }

-- where each part begins: at the end of the one before
abbrev pub coefficients_from : ℕ → ℕ
coefficients_from n = 16

abbrev pub interactions_from : ℕ → ℕ
interactions_from n = coefficients_from n + coefficients_length n

abbrev pub fractions_from : ℕ → ℕ
fractions_from n = interactions_from n + interactions_length n

abbrev pub conditions_from : ℕ → ℕ
conditions_from n = fractions_from n + fractions_length n

-- the end of the last
abbrev pub packed_end : ℕ → ℕ
packed_end n = conditions_from n + conditions_length

-- "pairs of offset and length, each u16"
unfoldable pub pair_bytes : (offset length : ℕ) → List ℕ
pair_bytes offset length = bytes_of 2 offset ++ bytes_of 2 length

-- "Four pairs .. fill bytes 0 to 15"
unfoldable pub pairs_bytes : ℕ → List ℕ
pairs_bytes n =
    pair_bytes (coefficients_from n) (coefficients_length n)
    ++ (pair_bytes (interactions_from n) (interactions_length n)
    ++ (pair_bytes (fractions_from n) (fractions_length n) ++ pair_bytes (conditions_from n) conditions_length))

-- floats one after the other
unfoldable pub floats_bytes : List Float → List ℕ
floats_bytes [] = []
floats_bytes (x ∷ xs) = float_bytes x ++ floats_bytes xs

-- "conditions (32: choice u64, temperature, pressure, start)"
unfoldable pub condition_bytes : Conditions → List ℕ
condition_bytes c = bytes_of 8 c.choice ++ floats_bytes (c.temperature ∷ c.pressure ∷ c.start ∷ [])

-- the pairs and the four parts
unfoldable pub filled : (n : ℕ) → Numbers → List ℕ
filled n d = pairs_bytes n ++ (floats_bytes d.coefficients ++ (floats_bytes d.interactions ++ (floats_bytes d.fractions ++ condition_bytes d.conditions)))

-- "and zeros after them"
unfoldable pub packed : (n : ℕ) → Numbers → List ℕ
packed n d = filled n d ++ zeros (640 - packed_end n)
