-- `eos::cubic::dot`.
use mathlib.Core.Path.{◌≡◌}
use Prim.Native.Nat.{◌-◌}
use Rattle.float.specs.Ops.{◌⊕◌, ◌⊗◌}
use Rattle.eos.specs.Indices.{fold_from, total}
use Rattle.eos.specs.Cubic.{nth}
use Rattle.eos.proofs.cubic.dot.Given as goal

abbrev pub invariant-loop-i : goal.invariant-loop-i
invariant-loop-i l = fold_from (λ s i. s ⊕ nth l.x i ⊗ nth l.y i) (l.n - l.i) l.i l.s ≡ total l.n (λ i. nth l.x i ⊗ nth l.y i)
