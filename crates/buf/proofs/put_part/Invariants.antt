-- `buf::put_part`.
use mathlib.Core.Path.{◌≡◌}
use Prim.Native.Nat.{◌+◌}
use lib.ListN.{drop}
use Rattle.buf.specs.Bytes.{splice}
use Rattle.buf.proofs.put_part.Given as goal

abbrev pub invariant-loop-i : goal.invariant-loop-i
invariant-loop-i l = splice l.s (l.at + l.i) (drop l.i l.b) ≡ splice l.initial.s l.at l.b
