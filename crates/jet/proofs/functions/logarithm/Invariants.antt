-- `jet::functions::logarithm`.
use mathlib.Core.Path.{◌≡◌}
use Prim.Native.Nat.{ℕ, ◌≤◌, ◌<◌}
use mathlib.Core.List.{List}
use lib.ListN.{length}
use lib.Ieee.{Float}
use Rattle.float.specs.Ops.{◌⊗◌}
use Rattle.jet.specs.Positions.{positions, weight_of}
use Rattle.jet.specs.Coefficients.{at, build, cut, logarithm_at}
use Rattle.jet.proofs.functions.logarithm.Given as goal

pub record Inv (x : List Float) (l wl : List Float) (m : ℕ) : Type 0 where
  pub filled : l ≡ cut m (build (logarithm_at x) positions)
  pub sized : length wl ≡ positions
  pub weighted : (p : ℕ) → 1 ≤ p → p < m → at wl p ≡ weight_of p ⊗ at l p

abbrev pub invariant-loop-m : goal.invariant-loop-m
invariant-loop-m l = Inv l.x l.l l.wl l.m
