-- The product of two floats does not hang on their order. Assumes nothing.
use mathlib.Core.Path.{◌≡◌, refl, ap}
use Prim.Native.Nat.{◌*◌}
use native.Mathlib.Nat.{mul_comm}
use mathlib.Core.Bool.{Bool, true, false}
use lib.Ieee.{Float, nan, inf, fin, mul, unlike, up, down}
use Rattle.float.specs.Ops.{◌⊗◌}

unlike_commutes : (s t : Bool) → unlike s t ≡ unlike t s
unlike_commutes true true = refl
unlike_commutes true false = refl
unlike_commutes false true = refl
unlike_commutes false false = refl

pub product_commutes : (x y : Float) → x ⊗ y ≡ y ⊗ x
unfolding mul
product_commutes nan nan = refl
product_commutes nan (inf t) = refl
product_commutes nan (fin t n d) = refl
product_commutes (inf s) nan = refl
product_commutes (inf s) (inf t) = ap inf (unlike_commutes s t)
product_commutes (inf s) (fin t n d) = rw (unlike_commutes s t)
product_commutes (fin s m e) nan = refl
product_commutes (fin s m e) (inf t) = rw (unlike_commutes s t)
product_commutes (fin s m e) (fin t n d) = rw (unlike_commutes s t, mul_comm (m * up e) (n * up d), mul_comm (down e) (down d))
