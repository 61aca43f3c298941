-- Little-endian numbers, floats and parts in a list of bytes, for any list. Definitions only.
use Rattle.std.specs.Prelude.{ℕ, zero, suc, ◌+◌, ◌*◌, ◌/◌, ◌%◌, List, [], ◌∷◌, take, drop, replicate, Float}
use Rattle.std.proofs.lemmas.List.Edits.{sets}
use Rattle.std.specs.Float.{binary64}
use Rattle.std.specs.Float.Ieee.{of_bits, to_bits}

-- the number that bytes stand for, the low byte first. An element counts as a byte, modulo 256, so the number of k elements is always below 256 ^ k.
unfoldable pub le : List ℕ → ℕ
le [] = 0
le (b ∷ bs) = le bs * 256 + b % 256

-- the k low bytes of n, the low byte first
unfoldable pub bytes_of : ℕ → ℕ → List ℕ
bytes_of zero n = []
bytes_of (suc k) n = n % 256 ∷ bytes_of k (n / 256)

-- the n elements of s from index at
unfoldable pub part : List ℕ → ℕ → ℕ → List ℕ
part s at n = take n (drop at s)

-- s with v stored over it from index at; what would fall past the end is dropped, so the length is always that of s
unfoldable pub splice : List ℕ → ℕ → List ℕ → List ℕ
splice s at v = sets s at v

-- the number of k bytes at index at
unfoldable pub num_at : ℕ → List ℕ → ℕ → ℕ
num_at k s at = le (part s at k)

-- s with the k low bytes of v stored from index at
unfoldable pub put_num : ℕ → List ℕ → ℕ → ℕ → List ℕ
put_num k s at v = splice s at (bytes_of k v)

abbrev pub u64_at : List ℕ → ℕ → ℕ
u64_at s at = num_at 8 s at

abbrev pub put_u64 : List ℕ → ℕ → ℕ → List ℕ
put_u64 s at v = put_num 8 s at v

-- the f64 whose bits are the 8 bytes at index at; every NaN's pattern gives `nan`
abbrev pub f64_at : List ℕ → ℕ → Float
f64_at s at = of_bits binary64 (num_at 8 s at)

-- s with the bits of x stored from index at; for a NaN one pattern is stored
abbrev pub put_f64 : List ℕ → ℕ → Float → List ℕ
put_f64 s at x = put_num 8 s at (to_bits binary64 x)

-- n zeros. Not an `abbrev`: at a numeral it would be written out
unfoldable pub zeros : ℕ → List ℕ
zeros n = replicate n 0
