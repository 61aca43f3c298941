-- `float::logarithm::series`. The invariant: what is left of the sum, from h on, is the whole sum.
use mathlib.Core.Path.{◌≡◌}
use Rattle.float.specs.Ops.{◌⊗◌}
use Rattle.float.specs.Ln.{horner, series}
use Rattle.float.proofs.logarithm.series.Given as goal

abbrev pub invariant-loop-k : goal.invariant-loop-k
invariant-loop-k l = horner (l.s ⊗ l.s) l.k l.h ≡ series l.s
