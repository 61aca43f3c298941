-- The coefficients of a derivative by e0, by the tests on its order and the position. Assumes nothing.
use mathlib.Core.Path.{◌≡◌, refl}
use Prim.Native.Nat.{ℕ, zero, suc, ◌+◌, ◌%◌, ◌≤◌, ◌<◌}
use native.Mathlib.Omega.{arith}
use mathlib.Core.Bool.{Bool, true, false, ◌&&◌}
use mathlib.Core.List.{List}
use lib.Ieee.{Float, of_int, of_bits}
use borrow.Author.Tests.{le-leb, lt-leb, eq-eqb, ne_eqb}
use Rattle.float.specs.Ops.{◌⊗◌, f0, f1}
use Rattle.jet.specs.Coefficients.{at, factorial, factorial_of, derivative_at}

pub factorial_one : (k : ℕ) → k ≤ 3 → (k ≡ 3 → ⊥) → (k ≡ 2 → ⊥) → f1 ≡ factorial_of k
unfolding factorial_of factorial of_int of_bits
factorial_one zero h a b = refl
factorial_one (suc zero) h a b = refl
factorial_one (suc (suc k)) h a b = absurd (omega (arith, a, b))

and-false : (b : Bool) → (b && false) ≡ false
and-false true = refl
and-false false = refl

module _ (k : ℕ) (a c : List Float) (m : ℕ) where
  pub from_fourth : 3 < k → f0 ≡ derivative_at k a c m
  unfolding derivative_at
  from_fourth h = rw (lt-leb k 3 h)

  pub with_e0 : (m % 4 ≡ 0 → ⊥) → f0 ≡ derivative_at k a c m
  unfolding derivative_at
  with_e0 h = rw (ne_eqb (m % 4) 0 h, and-false)

  pub free_of_e0 : (f : Float) → k ≤ 3 → m % 4 ≡ 0 → f ≡ factorial_of k → f ⊗ at a (m + k) ≡ derivative_at k a c m
  unfolding derivative_at
  free_of_e0 f h e g = rw (le-leb k 3 h, eq-eqb (m % 4) 0 e, g)
