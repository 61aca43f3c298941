-- `solver_critical::critical::limit`.
use mathlib.Core.Path.{◌≡◌}
use Rattle.std.proofs.Common.{◌++◌, take, drop, map}
use Rattle.float.specs.Ops.{◌⊗◌}
use Rattle.solver_critical.proofs.critical.limit.Given as goal

abbrev pub invariant-loop-x : goal.invariant-loop-x
invariant-loop-x l = take l.x-index l.delta ++ map (λ x. x ⊗ l.factor) (drop l.x-index l.delta) ≡ map (λ x. x ⊗ l.factor) l.initial.delta
