-- The numbers in the parts of a request block, and which of them a job reads. What it does not read stands as 0 or +0, which the checks let pass; the sum's asks the
-- kind, since zeros do not add up to 1. Definitions only.
use Rattle.std.specs.Prelude.{ℕ, ◌+◌, ◌-◌, ◌*◌, ◌/◌, Bool, cond, not, ◌||◌, List, leb, ltb, eqb, get_or, Float}
use Rattle.std.specs.Float.{nan}
use Rattle.float.specs.Ops.{f0}
use Rattle.buf.specs.Bytes.{u64_at, f64_at}
use Rattle.block.specs.Lists.{tabulate}
use Rattle.block.specs.Pairs.{offset_of, coefficients, interactions, fractions, conditions}
use Rattle.block.specs.declared.types.Conditions.{Conditions}
use Rattle.block.specs.declared.types.Numbers.{Numbers}

-- "critical temperature, critical pressure, acentric factor" of each component
abbrev pub coefficient_count : ℕ → ℕ
coefficient_count n = 3 * n

-- "k_ij by rows, i below j"
abbrev pub interaction_count : ℕ → ℕ
interaction_count n = n * (n - 1) / 2

-- ---- what stands in the parts of a block

-- the count floats from index at
unfoldable pub list_at : ℕ → List ℕ → ℕ → List Float
list_at count s at = tabulate count (λ i. f64_at s (at + 8 * i))

-- "conditions (32: choice u64, temperature, pressure, start)" from index at
unfoldable pub conditions_at : List ℕ → ℕ → Conditions
conditions_at s at = record { choice = u64_at s at; temperature = f64_at s (at + 8); pressure = f64_at s (at + 16); start = f64_at s (at + 24) }

-- every number, read or not
unfoldable pub filed_in : (n : ℕ) → List ℕ → Numbers
filed_in n s = record {
  coefficients = list_at (coefficient_count n) s (offset_of s coefficients);
  interactions = list_at (interaction_count n) s (offset_of s interactions);
  fractions = list_at n s (offset_of s fractions);
  conditions = conditions_at s (offset_of s conditions);
}

-- ---- what a kind reads of the numbers

-- "Kinds 5 and 6 read no fractions": they search one component, the others the whole blend
unfoldable pub reads_fractions : (kind : ℕ) → Bool
reads_fractions kind = not (eqb kind 5 || eqb kind 6)

unfoldable pub fraction_count : (kind n : ℕ) → ℕ
fraction_count kind n = cond (reads_fractions kind) n 0

-- a temperature of +0 is none: "Kind 5 reads +0 in temperature or start as none"; kind 7 uses "only temperature and start, as kind 5 reads them"; "kind 9 reads
-- +0 as 300"
unfoldable pub optional_temperature : (kind : ℕ) → Bool
optional_temperature kind = eqb kind 5 || (eqb kind 7 || eqb kind 9)

-- so is a start of +0: kinds 8 and 9 "read +0 in start as none"
unfoldable pub optional_start : (kind : ℕ) → Bool
optional_start kind = eqb kind 8 || optional_temperature kind

-- "Choice: kind 1 ..; kind 4 ..; kinds 5 and 6, the component"
unfoldable pub uses_choice : (kind : ℕ) → Bool
uses_choice kind = eqb kind 1 || (eqb kind 4 || not (reads_fractions kind))

-- kinds 1 and 2 search a density at a pressure, and kind 9 a critical point
unfoldable pub uses_pressure : (kind : ℕ) → Bool
uses_pressure kind = leb kind 2 || eqb kind 9

-- kind 1 with choice 2, "start"; "Pressure spinodal from a start"; a start that may be none
unfoldable pub uses_start : (kind choice : ℕ) → Bool
uses_start kind choice = cond (eqb kind 1) (eqb choice 2) (eqb kind 3 || optional_start kind)

-- "Unused conditions .. are ignored"
unfoldable pub used_choice : (kind choice : ℕ) → ℕ
used_choice kind choice = cond (uses_choice kind) choice 0

unfoldable pub used_pressure : (kind : ℕ) → Float → Float
used_pressure kind pressure = cond (uses_pressure kind) pressure f0

unfoldable pub used_start : (kind choice : ℕ) → Float → Float
used_start kind choice start = cond (uses_start kind choice) start f0

unfoldable pub used : (kind : ℕ) → Conditions → Conditions
used kind c = record {
  choice = used_choice kind c.choice;
  temperature = c.temperature;
  pressure = used_pressure kind c.pressure;
  start = used_start kind (used_choice kind c.choice) c.start;
}

-- a row of 28: the first count numbers of a list, then +0
unfoldable pub first_of : ℕ → List Float → List Float
first_of count l = tabulate 28 (λ i. cond (ltb i count) (get_or l i nan) f0)

unfoldable pub as_read : (kind n : ℕ) → Numbers → Numbers
as_read kind n d = record {
  coefficients = first_of (coefficient_count n) d.coefficients;
  interactions = first_of (interaction_count n) d.interactions;
  fractions = first_of (fraction_count kind n) d.fractions;
  conditions = used kind d.conditions;
}

-- what a job reads of a block
unfoldable pub numbers_of : (kind n : ℕ) → List ℕ → Numbers
numbers_of kind n s = as_read kind n (filed_in n s)

-- ---- what a job reads of one part, which begins at index at

-- a row of 28: the count floats, then +0
unfoldable pub floats_at : ℕ → List ℕ → ℕ → List Float
floats_at count s at = tabulate 28 (λ i. cond (ltb i count) (f64_at s (at + 8 * i)) f0)

-- the conditions
unfoldable pub conditions_of : (kind : ℕ) → List ℕ → ℕ → Conditions
conditions_of kind s at = used kind (conditions_at s at)
