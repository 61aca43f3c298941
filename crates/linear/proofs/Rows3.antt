-- The pivot's row of a 3 by 3 system, by the sizes of the first entries. Assumes nothing.
use mathlib.Core.Path.{◌≡◌}
use Prim.Native.Nat.{ℕ, ◌<◌}
use native.Mathlib.Omega.{arith}
use mathlib.Core.Bool.{Bool, true, false, cond}
use mathlib.Core.List.{List}
use lib.Ieee.{Float, lt}
use Rattle.float.specs.Sign.{abs_of}
use Rattle.linear.specs.Linear.{entry, pivot_row}

module _ (m : List (List Float)) (x y z : Float) (ex : x ≡ abs_of (entry m 0 0)) (ey : y ≡ abs_of (entry m 1 0)) (ez : z ≡ abs_of (entry m 2 0)) where
  pub third_above_second : lt x y ≡ true → lt y z ≡ true → 2 ≡ pivot_row m
  unfolding pivot_row
  third_above_second h k = rw (← ex, ← ey, h, ← ey, ← ez, k)

  pub second_largest : lt x y ≡ true → lt y z ≡ false → 1 ≡ pivot_row m
  unfolding pivot_row
  second_largest h k = rw (← ex, ← ey, h, ← ey, ← ez, k)

  pub third_above_first : lt x y ≡ false → lt x z ≡ true → 2 ≡ pivot_row m
  unfolding pivot_row
  third_above_first h k = rw (← ex, ← ey, h, ← ex, ← ez, k)

  pub first_largest : lt x y ≡ false → lt x z ≡ false → 0 ≡ pivot_row m
  unfolding pivot_row
  first_largest h k = rw (← ex, ← ey, h, ← ex, ← ez, k)

either_low : (b : Bool) (x y : ℕ) → x < 3 → y < 3 → cond b x y < 3
either_low true x y h k = h
either_low false x y h k = k

-- it is one of the three
pub pivot_low : (m : List (List Float)) → pivot_row m < 3
unfolding pivot_row
pivot_low m =
    let b = lt (abs_of (entry m 0 0)) (abs_of (entry m 1 0)) in
    let upper : ℕ = cond b 1 0 in
    either_low (lt (abs_of (entry m upper 0)) (abs_of (entry m 2 0))) 2 upper (omega arith) (either_low b 1 0 (omega arith) (omega arith))
