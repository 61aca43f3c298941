-- What each function gives in the coefficients of first order below w, from those of its operands. Assumes nothing.
use mathlib.Core.Path.{◌≡◌, refl, ap, ◌∙◌}
use Prim.Native.Nat.{ℕ, ◌≤◌}
use native.Mathlib.Omega.{arith}
use native.Mathlib.Nat.{le_trans}
use mathlib.Core.List.{List}
use lib.Ieee.{Float}
use Rattle.float.specs.Ops.{◌⊗◌}
use Rattle.jet.specs.Positions.{first_order, not_above, among, pairs_of}
use Rattle.jet.specs.Coefficients.{at, build, total, upto, Upto, cut, sum_of, difference_of, product_at, product_of, quotient_at, quotient_of, root_at, root_of, logarithm_at, logarithm_of}
use Rattle.jet.proofs.Depends.{taken, upto_ext, cut_upto, sum_first, difference_first, product_first, quotient_first, root_first, logarithm_first}

-- the same jet
pub is : (w : ℕ) {a b : List Float} → a ≡ b → Upto w a b
is w e = ap (upto w) e

module _ (w : ℕ) (a a' r : List Float) (A : Upto w a a') where
  module _ (b b' : List Float) (B : Upto w b b') where
    pub add_upto : Upto w r (sum_of a b) → Upto w r (sum_of a' b')
    add_upto e = e ∙ sum_first w a a' A b b' B

    pub sub_upto : Upto w r (difference_of a b) → Upto w r (difference_of a' b')
    sub_upto e = e ∙ difference_first w a a' A b b' B

    pub mul_upto : Upto w r (product_of a b) → Upto w r (product_of a' b')
    mul_upto e = e ∙ product_first w a a' A b b' B

    pub div_upto : Upto w r (quotient_of a b) → Upto w r (quotient_of a' b')
    div_upto e = e ∙ quotient_first w a a' A b b' B

  pub sqrt_upto : Upto w r (root_of a) → Upto w r (root_of a')
  sqrt_upto e = e ∙ root_first w a a' A

  pub ln_upto : Upto w r (logarithm_of a) → Upto w r (logarithm_of a')
  ln_upto e = e ∙ logarithm_first w a a' A

-- the functions without a loop along e0
pub mul_along : (a b r : List Float) → r ≡ cut 4 (product_of a b) → Upto 4 r (product_of a b)
unfolding product_of
mul_along a b r e = is 4 e ∙ cut_upto 4 (product_at a b) (omega arith)

pub div_along : (a b r : List Float) → r ≡ cut 4 (quotient_of a b) → Upto 4 r (quotient_of a b)
unfolding quotient_of
div_along a b r e = is 4 e ∙ cut_upto 4 (quotient_at a b) (omega arith)

pub sqrt_along : (a r : List Float) → r ≡ cut 4 (root_of a) → Upto 4 r (root_of a)
unfolding root_of
sqrt_along a r e = is 4 e ∙ cut_upto 4 (root_at a) (omega arith)

pub ln_along : (a r : List Float) → r ≡ cut 4 (logarithm_of a) → Upto 4 r (logarithm_of a)
unfolding logarithm_of
ln_along a r e = is 4 e ∙ cut_upto 4 (logarithm_at a) (omega arith)

-- fewer coefficients
pub fewer : (k w : ℕ) (a b : List Float) → k ≤ w → Upto w a b → Upto k a b
fewer k w a b h e = upto_ext k a b (λ m l f. taken w m a b e (le_trans l h) f)

-- the first coefficient
pub head_same : (w : ℕ) (a b : List Float) → 1 ≤ w → Upto w a b → at a 0 ≡ at b 0
unfolding first_order
head_same w a b h e = taken w 0 a b e h refl

-- and of a product
pub product_head : (w : ℕ) (a b r : List Float) → 1 ≤ w → Upto w r (product_of a b) → at r 0 ≡ at a 0 ⊗ at b 0
unfolding product_of product_at total pairs_of among not_above build
product_head w a b r h e = head_same w r (product_of a b) h e
