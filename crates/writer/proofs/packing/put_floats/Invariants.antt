-- `writer::packing::put_floats`.
use mathlib.Core.Path.{◌≡◌}
use Prim.Native.Nat.{◌+◌, ◌*◌}
use lib.ListN.{length, drop}
use Rattle.buf.specs.Bytes.{splice}
use Rattle.writer.specs.Packed.{floats_bytes}
use Rattle.writer.proofs.PutLaws.{Before}
use Rattle.writer.proofs.packing.put_floats.Given as goal

abbrev pub invariant-loop-i : goal.invariant-loop-i
invariant-loop-i l = (splice l.block (l.at + 8 * l.i) (floats_bytes (drop l.i l.list)) ≡ splice l.initial.block l.at (floats_bytes l.list)) × ((length l.block ≡ length l.initial.block) × Before l.list l.i)
