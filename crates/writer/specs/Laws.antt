-- What holds of written blocks. Numbers are the same where they are the same values: every NaN is one value, so two blocks may hold the same numbers in other bytes, and
-- a NaN among the numbers that the kind does not read is written as 7FF8000000000000 whatever its pattern was. Statements only; proofs/WriterLaws.antt proves them.
use Rattle.std.specs.Prelude.{◌≡◌, ℕ, ◌^◌, ◌<◌, true, false, List, length, T, Float}
use Rattle.std.specs.Float.{binary64}
use Rattle.std.specs.Float.Ieee.{fits}
use Rattle.schedule.specs.Spans.{kind_fits, count_fits}
use Rattle.block.specs.declared.types.Conditions.{Conditions}
use Rattle.block.specs.declared.types.Numbers.{Numbers}
use Rattle.block.specs.Pairs.{pairs_fit}
use Rattle.block.specs.Numbers.{filed_in, as_read, numbers_of}
use Rattle.block.specs.Blend.{at}
use Rattle.reader.specs.View.{ready_job, view}
use Rattle.reader.specs.Reading.{refusal_of}
use Rattle.records.specs.Record.{sealed_of}
use Rattle.writer.specs.Packed.{packed}
use Rattle.writer.specs.Written.{lists_fit, verdict, written}

-- Numbers that the code's types hold: floats of binary64, a choice below 2^64. What stands in a block is such, and what a caller hands to the writer, whose contract
-- therefore asks for none of it.
abbrev pub Binary64 : List Float → Type 0
Binary64 l = (i : ℕ) → i < length l → T (fits binary64 (at l i))

pub record ConditionsRepresentable (c : Conditions) : Type 0 where
  pub choice : c.choice < 2 ^ 64
  pub temperature : T (fits binary64 c.temperature)
  pub pressure : T (fits binary64 c.pressure)
  pub start : T (fits binary64 c.start)

pub record Representable (d : Numbers) : Type 0 where
  pub coefficients : Binary64 d.coefficients
  pub interactions : Binary64 d.interactions
  pub fractions : Binary64 d.fractions
  pub conditions : ConditionsRepresentable d.conditions

-- "What the board's reader finds in a written block must be what was given"
pub record Found (kind n : ℕ) (d : Numbers) (buffer : List ℕ) : Type 0 where
  -- in the parts, read or not
  pub in_parts : filed_in n (written kind n d buffer) ≡ d
  -- as the kind reads them
  pub same_as_read : numbers_of kind n (written kind n d buffer) ≡ as_read kind n d
  -- the job of these numbers, which is no refusal
  pub as_job : view kind n (written kind n d buffer) ≡ ready_job kind n (as_read kind n d)
  pub not_refused_lem : refusal_of (view kind n (written kind n d buffer)).task ≡ 0

abbrev pub WhatWasGiven : Type 0
WhatWasGiven = (kind n : ℕ) (d : Numbers) (buffer : List ℕ) → Representable d → verdict kind n d (length buffer) ≡ 0 → Found kind n d buffer

-- what the writer answers, what it leaves in the buffer, and what is then found there
abbrev pub Answers : (kind n : ℕ) (d : Numbers) (buffer : List ℕ) (number : ℕ) (bytes : List ℕ) → Type 0
Answers kind n d buffer number bytes = (number ≡ verdict kind n d (length buffer)) × (bytes ≡ written kind n d buffer) × (number ≡ 0 → Found kind n d buffer)

-- "the buffer is then unchanged"
abbrev pub RefusedUnchanged : Type 0
RefusedUnchanged = (kind n : ℕ) (d : Numbers) (buffer : List ℕ) → (verdict kind n d (length buffer) ≡ 0 → ⊥) → written kind n d buffer ≡ buffer

-- "a block that the reader accepts, read and written again, must read the same"
pub record Again (kind n : ℕ) (block buffer : List ℕ) : Type 0 where
  pub accepted : verdict kind n (filed_in n block) (length buffer) ≡ 0
  -- in the parts, read or not
  pub in_parts : filed_in n (written kind n (filed_in n block) buffer) ≡ filed_in n block
  -- as the kind reads them
  pub same_as_read : numbers_of kind n (written kind n (filed_in n block) buffer) ≡ numbers_of kind n block
  pub as_job : view kind n (written kind n (filed_in n block) buffer) ≡ view kind n block
  pub as_sealed : sealed_of kind n (written kind n (filed_in n block) buffer) ≡ sealed_of kind n block

abbrev pub ReadsTheSame : Type 0
ReadsTheSame = (kind n : ℕ) (block buffer : List ℕ) → length buffer ≡ 640 → refusal_of (view kind n block).task ≡ 0 → Again kind n block buffer

-- "by the board's numbers and in its order: 2, 3, 8 for a buffer of another length, .. 11 also for lists of a length that doesn't fit N", whatever comes after
pub record InOrder (kind n : ℕ) (d : Numbers) (size : ℕ) : Type 0 where
  pub refused_2 : kind_fits kind ≡ false → verdict kind n d size ≡ 2
  pub refused_3 : kind_fits kind ≡ true → count_fits kind n ≡ false → verdict kind n d size ≡ 3
  pub refused_8 : kind_fits kind ≡ true → count_fits kind n ≡ true → (size ≡ 640 → ⊥) → verdict kind n d size ≡ 8
  pub refused_11 : kind_fits kind ≡ true → count_fits kind n ≡ true → size ≡ 640 → lists_fit n d ≡ false → verdict kind n d size ≡ 11

abbrev pub Ordered : Type 0
Ordered = (kind n : ℕ) (d : Numbers) (size : ℕ) → InOrder kind n d size

-- and "then the data refusals": numbers in lists that fit N are refused exactly where the reader refuses the block made of them, by the same number.
abbrev pub AsTheReader : Type 0
AsTheReader = (kind n : ℕ) (d : Numbers) → lists_fit n d ≡ true → Representable d → verdict kind n d 640 ≡ refusal_of (view kind n (packed n d)).task

-- The same of any block whose pairs fit, wherever its parts stand: the writer refuses what stands in them exactly where the reader refuses the block, by the same number.
abbrev pub SameVerdict : Type 0
SameVerdict = (kind n : ℕ) (block : List ℕ) → pairs_fit n block ≡ true → verdict kind n (filed_in n block) (length block) ≡ refusal_of (view kind n block).task

-- Blocks of one length whose pairs fit, with the same numbers where the kind reads them, have the same sealed bytes, wherever their parts stand.
abbrev pub SealedByNumbers : Type 0
SealedByNumbers = (kind n : ℕ) (s t : List ℕ) → length s ≡ length t → pairs_fit n s ≡ true → pairs_fit n t ≡ true → numbers_of kind n s ≡ numbers_of kind n t → sealed_of kind n s ≡ sealed_of kind n t
