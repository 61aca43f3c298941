-- Bytes of a written block, of the pairs of others and of some floats, to be held beside a dump. Statements only; proofs/Cases.antt works them out.
use Rattle.std.specs.Prelude.{◌≡◌, [], ◌∷◌}
use Rattle.std.specs.Float.{nan}
use Rattle.std.specs.Float.Ieee.{neg}
use Rattle.buf.specs.Bytes.{zeros}
use Rattle.float.specs.Ops.{f0, f1, f2}
use Rattle.writer.specs.Packed.{filed_by, packed_end, pairs_bytes, floats_bytes, packed}

pub record Cases : Type 0 where
  -- offset and length of coefficients, interactions, fractions and conditions, for one, two and eight components
  pub pairs_1 : pairs_bytes 1 ≡ 16 ∷ 0 ∷ 24 ∷ 0 ∷ 40 ∷ 0 ∷ 0 ∷ 0 ∷ 40 ∷ 0 ∷ 8 ∷ 0 ∷ 48 ∷ 0 ∷ 32 ∷ 0 ∷ []
  pub pairs_2 : pairs_bytes 2 ≡ 16 ∷ 0 ∷ 48 ∷ 0 ∷ 64 ∷ 0 ∷ 8 ∷ 0 ∷ 72 ∷ 0 ∷ 16 ∷ 0 ∷ 88 ∷ 0 ∷ 32 ∷ 0 ∷ []
  pub pairs_8 : pairs_bytes 8 ≡ 16 ∷ 0 ∷ 192 ∷ 0 ∷ 208 ∷ 0 ∷ 224 ∷ 0 ∷ 176 ∷ 1 ∷ 64 ∷ 0 ∷ 240 ∷ 1 ∷ 32 ∷ 0 ∷ []
  pub end_8 : packed_end 8 ≡ 528
  -- 1, −0, and NaN as 7FF8000000000000, the low byte first
  pub one : floats_bytes (f1 ∷ []) ≡ 0 ∷ 0 ∷ 0 ∷ 0 ∷ 0 ∷ 0 ∷ 240 ∷ 63 ∷ []
  pub minus_zero : floats_bytes (neg f0 ∷ []) ≡ 0 ∷ 0 ∷ 0 ∷ 0 ∷ 0 ∷ 0 ∷ 0 ∷ 128 ∷ []
  pub not_a_number : floats_bytes (nan ∷ []) ≡ 0 ∷ 0 ∷ 0 ∷ 0 ∷ 0 ∷ 0 ∷ 248 ∷ 127 ∷ []
  -- one component with coefficients 1, 2, 1, fraction 1, choice 2, temperature 2, pressure −0 and start NaN
  pub block_1 : packed 1 (filed_by (f1 ∷ f2 ∷ f1 ∷ []) [] (f1 ∷ []) (record { choice = 2; temperature = f2; pressure = neg f0; start = nan }))
      ≡ 16 ∷ 0 ∷ 24 ∷ 0 ∷ 40 ∷ 0 ∷ 0 ∷ 0 ∷ 40 ∷ 0 ∷ 8 ∷ 0 ∷ 48 ∷ 0 ∷ 32 ∷ 0
      ∷ 0 ∷ 0 ∷ 0 ∷ 0 ∷ 0 ∷ 0 ∷ 240 ∷ 63
      ∷ 0 ∷ 0 ∷ 0 ∷ 0 ∷ 0 ∷ 0 ∷ 0 ∷ 64
      ∷ 0 ∷ 0 ∷ 0 ∷ 0 ∷ 0 ∷ 0 ∷ 240 ∷ 63
      ∷ 0 ∷ 0 ∷ 0 ∷ 0 ∷ 0 ∷ 0 ∷ 240 ∷ 63
      ∷ 2 ∷ 0 ∷ 0 ∷ 0 ∷ 0 ∷ 0 ∷ 0 ∷ 0
      ∷ 0 ∷ 0 ∷ 0 ∷ 0 ∷ 0 ∷ 0 ∷ 0 ∷ 64
      ∷ 0 ∷ 0 ∷ 0 ∷ 0 ∷ 0 ∷ 0 ∷ 0 ∷ 128
      ∷ 0 ∷ 0 ∷ 0 ∷ 0 ∷ 0 ∷ 0 ∷ 248 ∷ 127
      ∷ zeros 560
