-- The status and the evaluations in a record's sealed bytes, for every request that its caller's refusals let through: which refusal of the supplier's data comes
-- when, in their order, and that nothing but 0, 11 to 17 and 21 to 27 does. Statements only; `statuses` in proofs/Statuses.antt proves them.
use Rattle.std.specs.Prelude.{◌≡◌, ℕ, ◌≤◌, Bool, true, false, List, ◌++◌, length}
use Rattle.buf.specs.Bytes.{bytes_of, zeros, u64_at}
use Rattle.block.specs.Pairs.{pairs_fit}
use Rattle.block.specs.Numbers.{numbers_of}
use Rattle.block.specs.Checks.{components_fit, interactions_fit, fractions_fit, sum_fits, conditions_fit}
use Rattle.block.specs.Blend.{blend_of}
use Rattle.reader.specs.View.{run_fits}
use Rattle.schedule.specs.Spans.{span_of}
use Rattle.schedule.specs.Refusals.{Inside, CountRight}
use Rattle.records.specs.Record.{sealed_of}

-- "The equation, sealed", 21 to 27; 0 where an answer is found
pub data SearchStatus : ℕ → Type 0 where
  found : SearchStatus 0
  refused : {number : ℕ} → Inside 21 27 number → SearchStatus number

-- "status u64 (0 or a refusal)"
pub data Status : ℕ → Type 0 where
  of_data_lem : {number : ℕ} → Inside 11 17 number → Status number
  of_search : {number : ℕ} → SearchStatus number → Status number

module _ (kind n : ℕ) (block : List ℕ) where
  -- the data's checks
  abbrev pub pairs : Bool
  pairs = pairs_fit n block

  abbrev pub components : Bool
  components = components_fit n (numbers_of kind n block).coefficients

  abbrev pub interactions : Bool
  interactions = interactions_fit n (numbers_of kind n block).interactions

  abbrev pub fractions : Bool
  fractions = fractions_fit n (numbers_of kind n block).fractions

  abbrev pub sum : Bool
  sum = sum_fits kind n (numbers_of kind n block).fractions

  abbrev pub conditions : Bool
  conditions = conditions_fit kind (numbers_of kind n block).conditions

  -- the choice, and the run's maximum density
  abbrev pub run : Bool
  run = run_fits kind n (numbers_of kind n block).conditions (blend_of n (numbers_of kind n block))

  -- "The supplier's data, sealed, in this order"
  pub data DataTests : (status : ℕ) → Type 0 where
    -- "11 pairs"
    refused_11 : pairs ≡ false → DataTests 11
    -- "12 in any component, used or not, critical values .."
    refused_12 : pairs ≡ true → components ≡ false → DataTests 12
    -- "13 interaction not finite"
    refused_13 : pairs ≡ true → components ≡ true → interactions ≡ false → DataTests 13
    -- "14 a read fraction not finite or with a minus sign"
    refused_14 : pairs ≡ true → components ≡ true → interactions ≡ true → fractions ≡ false → DataTests 14
    -- "17, sum of fractions, .. tested directly after 14"
    refused_17 : pairs ≡ true → components ≡ true → interactions ≡ true → fractions ≡ true → sum ≡ false → DataTests 17
    -- "15 a used temperature .. used pressure or start not finite"
    refused_15 : pairs ≡ true → components ≡ true → interactions ≡ true → fractions ≡ true → sum ≡ true → conditions ≡ false → DataTests 15
    -- "16 choice, or the run's maximum density not finite and positive"
    refused_16 : pairs ≡ true → components ≡ true → interactions ≡ true → fractions ≡ true → sum ≡ true → conditions ≡ true → run ≡ false → DataTests 16
    -- none of these comes, and the status is the search's
    passed : {status : ℕ} → pairs ≡ true → components ≡ true → interactions ≡ true → fractions ≡ true → sum ≡ true → conditions ≡ true → run ≡ true → SearchStatus status → DataTests status

  -- where the sealed bytes hold the status and the evaluations
  abbrev pub status_in : ℕ
  status_in = u64_at (sealed_of kind n block) 0

  abbrev pub evaluations_in : ℕ
  evaluations_in = u64_at (sealed_of kind n block) 32

  -- what holds of a request that is not refused by its caller
  pub record Sealed : Type 0 where
    -- the status is the one that the checks tell,
    pub tests : DataTests status_in
    -- each of 11 to 17 exactly where its check fails first,
    pub only : (number : ℕ) → Inside 11 17 number → DataTests number → status_in ≡ number
    -- with +0 and no evaluation after it: "Unused floats, and all on refusal, are +0",
    pub refused_bytes : (number : ℕ) → Inside 11 17 number → DataTests number → sealed_of kind n block ≡ bytes_of 8 number ++ zeros 40
    -- and so 0, 11 to 17 or 21 to 27
    pub status : Status status_in
    -- "Count of evaluations in the record, .. at most the kind's span"
    pub evaluations : evaluations_in ≤ span_of kind

abbrev pub Statuses : Type 0
Statuses = (kind n : ℕ) (block : List ℕ) → Inside 1 9 kind → CountRight kind n → length block ≡ 640 → Sealed kind n block
