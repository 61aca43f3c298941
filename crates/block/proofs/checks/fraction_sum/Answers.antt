use mathlib.Core.Path.{refl}
use native.Mathlib.Omega.{arith}
use Rattle.float.specs.Ops.{◌⊕◌}
use Rattle.eos.proofs.Folds.{fold_turn}
use Rattle.block.specs.Blend.{at}
use Rattle.block.proofs.checks.fraction_sum.Goals as goal

pub loop-i-preserved : goal.loop-i-preserved
loop-i-preserved c =
    let a = c.args in
    fold_turn (λ s i. s ⊕ at a.x.now i) a.n c.loop-i.i c.loop-i.s _ _ (omega arith) refl c.loop-i.invariant
