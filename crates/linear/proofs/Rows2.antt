-- Which row of a 2 by 2 system comes first, by the sizes of the left entries. Assumes nothing.
use mathlib.Core.Path.{◌≡◌}
use mathlib.Core.Bool.{true, false}
use mathlib.Core.List.{List}
use lib.ListN.{get_or}
use lib.Ieee.{Float, nan, lt}
use Rattle.float.specs.Sign.{abs_of}
use Rattle.linear.specs.Linear.{Solved}
use Rattle.linear.specs.Linear.{entry, eliminated, solve2}

module _ (m : List (List Float)) (r : List Float) (x y : Float) (ex : x ≡ abs_of (entry m 0 0)) (ey : y ≡ abs_of (entry m 1 0)) (s : Solved) where
  pub swapped_law : lt x y ≡ true → s ≡ eliminated (entry m 1 0) (entry m 1 1) (get_or r 1 nan) (entry m 0 0) (entry m 0 1) (get_or r 0 nan) → s ≡ solve2 m r
  unfolding solve2
  swapped_law h e = rw (← ex, ← ey, h) e

  pub kept_law : lt x y ≡ false → s ≡ eliminated (entry m 0 0) (entry m 0 1) (get_or r 0 nan) (entry m 1 0) (entry m 1 1) (get_or r 1 nan) → s ≡ solve2 m r
  unfolding solve2
  kept_law h e = rw (← ex, ← ey, h) e
