-- `buf::get_num`.
use mathlib.Core.Path.{◌≡◌}
use Prim.Native.Nat.{◌+◌, ◌-◌}
use Rattle.buf.specs.Bytes.{le, part}
use Rattle.buf.proofs.get_num.Given as goal

abbrev pub invariant-loop-i : goal.invariant-loop-i
invariant-loop-i l = l.v ≡ le (part l.s (l.at + l.i) (l.k - l.i))
