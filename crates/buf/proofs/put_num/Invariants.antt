-- `buf::put_num`.
use mathlib.Core.Path.{◌≡◌}
use Prim.Native.Nat.{◌+◌, ◌-◌}
use Rattle.buf.specs.Bytes.{bytes_of, splice}
use Rattle.buf.proofs.put_num.Given as goal

abbrev pub invariant-loop-i : goal.invariant-loop-i
invariant-loop-i l = splice l.s (l.at + l.i) (bytes_of (l.k - l.i) l.x) ≡ splice l.initial.s l.at (bytes_of l.k l.v)
