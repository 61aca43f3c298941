-- `text::digits::width`.
use mathlib.Core.Path.{◌≡◌}
use Prim.Native.Nat.{◌+◌, ◌-◌}
use Rattle.text.specs.Digits.{width, width_in}
use Rattle.text.proofs.digits.width.Given as goal

abbrev pub invariant-loop-k : goal.invariant-loop-k
invariant-loop-k l = l.k - 1 + width_in (20 - l.k) l.rest ≡ width l.n
