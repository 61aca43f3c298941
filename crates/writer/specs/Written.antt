-- What the writer answers and what it leaves in the buffer, for any kind, N, numbers and buffer. Document 02's sentences are quoted above the definitions. Definitions only.
use Rattle.std.specs.Prelude.{ℕ, Bool, cond, ◌&&◌, List, length, eqb, Float}
use Rattle.block.specs.declared.types.Numbers.{Numbers}
use Rattle.block.specs.Numbers.{coefficient_count, interaction_count, as_read}
use Rattle.reader.specs.View.{requested}
use Rattle.reader.specs.Reading.{refusal_of}
use Rattle.writer.specs.Packed.{packed}

-- "lists of a length that doesn't fit N" do not: 3N coefficients, N(N−1)/2 interactions, N fractions do, whether the kind reads them or not
unfoldable pub counts_fit : (n : ℕ) (coefficients interactions fractions : List Float) → Bool
counts_fit n coefficients interactions fractions = eqb (length coefficients) (coefficient_count n) && (eqb (length interactions) (interaction_count n) && eqb (length fractions) n)

abbrev pub lists_fit : (n : ℕ) → Numbers → Bool
lists_fit n d = counts_fit n d.coefficients d.interactions d.fractions

-- "refuses .. by the board's numbers and in its order: 2, 3, 8 for a buffer of another length, then the data refusals, 11 also for lists of a length that doesn't fit N":
-- the reader's checks on the numbers given; 0 where none refuses
unfoldable pub verdict : (kind n : ℕ) → Numbers → (size : ℕ) → ℕ
verdict kind n d size = refusal_of (requested kind n size (lists_fit n d) (as_read kind n d)).task

-- the buffer afterwards: the block, or, refused, "unchanged"
unfoldable pub written : (kind n : ℕ) → Numbers → List ℕ → List ℕ
written kind n d buffer = cond (eqb (verdict kind n d (length buffer)) 0) (packed n d) buffer
