-- Request blocks with the same bytes where a job reads them, to be checked with a hex dump. Definitions only.
use Rattle.std.specs.Prelude.{◌≡◌, ℕ, ◌+◌, ◌-◌, ◌*◌, true, List, length}
use Rattle.buf.specs.Bytes.{part, u64_at}
use Rattle.block.specs.Pairs.{offset_of, coefficients, interactions, fractions, conditions, pairs_fit}
use Rattle.block.specs.Numbers.{reads_fractions, uses_choice, uses_pressure, uses_start, used_choice}

-- the count bytes from the skip-th of part i are the same, wherever the part begins
abbrev pub SamePart : (s t : List ℕ) (i skip count : ℕ) → Type 0
SamePart s t i skip count = part s (offset_of s i + skip) count ≡ part t (offset_of t i + skip) count

-- The parts that are read: coefficients and interactions by every kind, fractions by the kinds that read them, of the conditions those that the kind uses.
-- The gaps between the parts, what follows them and the other conditions are free.
pub record SameRead (kind n : ℕ) (s t : List ℕ) : Type 0 where
  pub in_coefficients : SamePart s t coefficients 0 (24 * n)
  pub in_interactions : SamePart s t interactions 0 (4 * (n * (n - 1)))
  pub in_fractions : reads_fractions kind ≡ true → SamePart s t fractions 0 (8 * n)
  pub in_choice : uses_choice kind ≡ true → SamePart s t conditions 0 8
  pub in_temperature : SamePart s t conditions 8 8
  pub in_pressure : uses_pressure kind ≡ true → SamePart s t conditions 16 8
  pub in_start : uses_start kind (used_choice kind (u64_at s (offset_of s conditions))) ≡ true → SamePart s t conditions 24 8

-- Nothing beyond the pairs is read where these are refused.
pub record SameBytes (kind n : ℕ) (s t : List ℕ) : Type 0 where
  pub in_length : length s ≡ length t
  pub in_pairs : part s 0 16 ≡ part t 0 16
  pub in_parts : pairs_fit n s ≡ true → SameRead kind n s t
