-- `block::checks::fraction_sum`.
use mathlib.Core.Path.{◌≡◌}
use Prim.Native.Nat.{◌-◌}
use Rattle.float.specs.Ops.{◌⊕◌}
use Rattle.eos.specs.Indices.{fold_from}
use Rattle.block.specs.Blend.{at}
use Rattle.block.specs.Checks.{fraction_sum}
use Rattle.block.proofs.checks.fraction_sum.Given as goal

abbrev pub invariant-loop-i : goal.invariant-loop-i
invariant-loop-i l = fold_from (λ s i. s ⊕ at l.x i) (l.n - l.i) l.i l.s ≡ fraction_sum l.n l.x
