-- The bytes of an answer. Assumes nothing.
use mathlib.Core.Path.{◌≡◌}
use Prim.Native.Nat.{ℕ, ◌<◌}
use mathlib.Core.List.{List, []}
use native.Mathlib.Omega.{arith}
use lib.ListN.{length}
use lib.Seq.{take_all}
use Rattle.buf.specs.Bytes.{part, splice, put_u64, zeros}
use Rattle.buf.proofs.Laws.{length_splice, length_put_num, length_zeros}
use Rattle.board_spec.specs.Run.{Public, refusal, ticketed, turning, looking, quoting}
use Rattle.calls.specs.Calls.{framed, answer_bytes}

pub framed_written : (w w' a₁ a₂ a₃ v : List ℕ) (at what number : ℕ) → a₁ ≡ put_u64 (zeros 32) 0 what → a₂ ≡ put_u64 a₁ 8 number → a₃ ≡ splice a₂ 16 v → w' ≡ splice w at a₃
    → w' ≡ splice w at (framed what number v)
unfolding framed
framed_written w w' a₁ a₂ a₃ v at what number e₁ e₂ e₃ e = rw (e, e₃, e₂, e₁)

-- a record of fewer bytes than are shown of it is shown whole
pub part_short : (b : List ℕ) → length b < 16 → part b 0 16 ≡ b
unfolding part
part_short b h = take_all 16 b (omega arith)

pub length_framed : (what number : ℕ) (v : List ℕ) → length (framed what number v) ≡ 32
unfolding framed
length_framed what number v = simp (length_splice, length_put_num, length_zeros)

pub length_answer : (p : Public) → length (answer_bytes p) ≡ 32
unfolding answer_bytes
length_answer (refusal number) = length_framed 0 number []
length_answer (ticketed ticket) = length_framed 1 ticket []
length_answer (turning answer written) = length_framed 2 answer written
length_answer looking = length_framed 3 0 []
length_answer (quoting turns) = length_framed 4 turns []
