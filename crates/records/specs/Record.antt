-- The 64 bytes of a record. Definitions only.
use Rattle.std.specs.Prelude.{ℕ, List, ◌++◌, Float}
use Rattle.std.specs.Float.{binary64}
use Rattle.std.specs.Float.Ieee.{to_bits}
use Rattle.buf.specs.Bytes.{bytes_of, zeros}
use Rattle.reader.specs.View.{view}
use Rattle.records.specs.declared.types.Outcome.{Outcome}
use Rattle.records.specs.Outcome.{outcome_of}

-- a float's eight bytes; NaN has one pattern
abbrev pub float_bytes : Float → List ℕ
float_bytes x = bytes_of 8 (to_bits binary64 x)

-- "Public: ticket u64, kind and queue bytes, six zeros"
unfoldable pub public_bytes : (ticket kind queue : ℕ) → List ℕ
public_bytes ticket kind queue = bytes_of 8 ticket ++ (bytes_of 1 kind ++ (bytes_of 1 queue ++ zeros 6))

-- "Sealed from 16"
abbrev pub sealed_at : ℕ
sealed_at = 16

-- "status u64 (0 or a refusal), three floats, evaluations u64, eight zeros"
unfoldable pub sealed_bytes : Outcome → List ℕ
sealed_bytes o =
    bytes_of 8 o.status
    ++ (float_bytes o.values.first
    ++ (float_bytes o.values.second ++ (float_bytes o.values.third ++ (bytes_of 8 o.evaluations ++ zeros 8))))

unfoldable pub record_bytes : (ticket kind queue : ℕ) → Outcome → List ℕ
record_bytes ticket kind queue o = public_bytes ticket kind queue ++ sealed_bytes o

-- "Sealed bytes depend on kind, N and block only"
unfoldable pub sealed_of : (kind n : ℕ) → List ℕ → List ℕ
sealed_of kind n block = sealed_bytes (outcome_of (view kind n block))
