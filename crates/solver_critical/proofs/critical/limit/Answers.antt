-- `solver_critical::critical::limit`.
use Rattle.std.proofs.Common.{refl, ◌∙◌, arith}
use Rattle.float.specs.Ops.{◌⊗◌, ◌⊘◌}
use Rattle.solver_critical.proofs.Scaled.{map_ends, map_turn}
use Rattle.solver_critical.specs.CriticalPoint.{limited}
use Rattle.solver_critical.proofs.critical.limit.Goals as goal

pub loop-x-init : goal.loop-x-init
loop-x-init c = refl

pub loop-x-preserved : goal.loop-x-preserved
loop-x-preserved c = map_turn (λ x. x ⊗ (c.args.most ⊘ c.args.size)) c.loop-x.delta c.loop-x.x-index _ (omega arith) ∙ c.loop-x.invariant

pub returns-after-loop-x : goal.returns-after-loop-x
unfolding limited
returns-after-loop-x c = rw c.if-size-most.true (map_ends (λ x. x ⊗ (c.args.most ⊘ c.args.size)) c.loop-x.delta _ c.loop-x.x-index (omega arith) c.loop-x.invariant)

pub returns-else-size-most : goal.returns-else-size-most
unfolding limited
returns-else-size-most c = rw c.if-size-most.false
