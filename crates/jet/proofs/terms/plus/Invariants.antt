-- `jet::terms::plus`.
use mathlib.Core.Path.{◌≡◌}
use Prim.Native.Nat.{suc, ◌-◌}
use mathlib.Core.Bool.{true}
use mathlib.Core.List.{foldl}
use lib.ListN.{drop}
use Rattle.jet.specs.Positions.{not_above, among, pairs_of}
use Rattle.jet.proofs.Fold.{adding}
use Rattle.jet.proofs.terms.plus.Given as goal

abbrev pub invariant-loop-p : goal.invariant-loop-p
invariant-loop-p l = (not_above l.p l.m ≡ true) × (foldl (adding l.a l.b l.m) l.s (among (l.m - l.p) (suc l.p) l.m) ≡ foldl (adding l.a l.b l.m) l.x (drop 1 (pairs_of l.m)))

abbrev pub decreases-loop-p : goal.decreases-loop-p
decreases-loop-p l = l.m - l.p
