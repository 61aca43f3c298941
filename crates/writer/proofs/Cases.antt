-- The bytes of `specs/Cases.antt`, worked out. Assumes nothing.
use mathlib.Core.Path.{refl}
use Rattle.buf.specs.Bytes.{bytes_of, zeros}
use Rattle.writer.specs.Packed.{pair_bytes, pairs_bytes, floats_bytes, condition_bytes, filled, packed}
use Rattle.writer.specs.Cases.{Cases}

pub cases : Cases
unfolding packed filled condition_bytes pairs_bytes pair_bytes floats_bytes bytes_of zeros lib.Ieee.to_bits lib.Ieee.of_bits lib.Ieee.neg
cases = record { pairs_1 = refl; pairs_2 = refl; pairs_8 = refl; end_8 = refl; one = refl; minus_zero = refl; not_a_number = refl; block_1 = refl }
