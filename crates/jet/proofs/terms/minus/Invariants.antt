-- `jet::terms::minus`.
use mathlib.Core.Path.{◌≡◌}
use Prim.Native.Nat.{◌-◌}
use mathlib.Core.Bool.{true}
use mathlib.Core.List.{foldl}
use Rattle.jet.specs.Positions.{not_above, among}
use Rattle.jet.proofs.Fold.{subtracting}
use Rattle.jet.proofs.terms.minus.Given as goal

abbrev pub invariant-loop-p : goal.invariant-loop-p
invariant-loop-p l = (not_above l.p l.m ≡ true) × (foldl (subtracting l.a l.b l.m) l.s (among (l.m - l.p) l.p l.m) ≡ foldl (subtracting l.a l.b l.m) l.x (among (l.m - l.first) l.first l.m))

abbrev pub decreases-loop-p : goal.decreases-loop-p
decreases-loop-p l = l.m - l.p
