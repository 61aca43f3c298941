-- What the four coefficients along e0 are, of a product, a quotient, a root and a logarithm. Assumes nothing.
use mathlib.Core.Path.{◌≡◌, refl}
use native.Mathlib.Omega.{arith}
use mathlib.Core.List.{List, ◌∷◌}
use lib.ListN.{replicate}
use lib.Ieee.{Float, of_int, of_bits}
use Rattle.float.specs.Ops.{◌⊕◌, ◌⊖◌, ◌⊗◌, ◌⊘◌, f0, f1, f2, f3}
use Rattle.float.specs.Root.{root}
use Rattle.float.specs.Ln.{ln_of}
use Rattle.jet.specs.Positions.{not_above, among, pairs_of, before, between, weight_of}
use Rattle.jet.specs.Coefficients.{at, build, cut, total, less, product_at, product_of, quotient_at, quotient_of, root_at, root_of, logarithm_at, logarithm_of}
use Rattle.jet.proofs.Build.{padded}

-- four coefficients, and +0 at the other positions
abbrev pub along : Float → Float → Float → Float → List Float
along a b c d = a ∷ b ∷ c ∷ d ∷ replicate 28 f0

module _ (x y : List Float) where
  pub product_along : cut 4 (product_of x y) ≡ along (at x 0 ⊗ at y 0) (at x 0 ⊗ at y 1 ⊕ at x 1 ⊗ at y 0) (at x 0 ⊗ at y 2 ⊕ at x 1 ⊗ at y 1 ⊕ at x 2 ⊗ at y 0) (at x 0 ⊗ at y 3 ⊕ at x 1 ⊗ at y 2 ⊕ at x 2 ⊗ at y 1 ⊕ at x 3 ⊗ at y 0)
  unfolding product_of product_at total pairs_of among not_above build
  product_along = padded (product_at x y) 4 (omega arith)

  abbrev q0 : Float
  q0 = at x 0 ⊘ at y 0

  abbrev q1 : Float
  q1 = (at x 1 ⊖ q0 ⊗ at y 1) ⊘ at y 0

  abbrev q2 : Float
  q2 = (at x 2 ⊖ q0 ⊗ at y 2 ⊖ q1 ⊗ at y 1) ⊘ at y 0

  abbrev q3 : Float
  q3 = (at x 3 ⊖ q0 ⊗ at y 3 ⊖ q1 ⊗ at y 2 ⊖ q2 ⊗ at y 1) ⊘ at y 0

  pub quotient_along : cut 4 (quotient_of x y) ≡ along q0 q1 q2 q3
  unfolding quotient_of quotient_at less before among not_above build
  quotient_along = padded (quotient_at x y) 4 (omega arith)

-- the root from its first coefficient r0
module _ (x : List Float) (r0 : Float) where
  abbrev r1 : Float
  r1 = at x 1 ⊘ (f2 ⊗ r0)

  abbrev r2 : Float
  r2 = (at x 2 ⊖ r1 ⊗ r1) ⊘ (f2 ⊗ r0)

  abbrev r3 : Float
  r3 = (at x 3 ⊖ r1 ⊗ r2 ⊖ r2 ⊗ r1) ⊘ (f2 ⊗ r0)

  pub root_along : r0 ≡ root (at x 0) → cut 4 (root_of x) ≡ along r0 r1 r2 r3
  unfolding root_of root_at less between among not_above build
  root_along e = rw e (padded (root_at x) 4 (omega arith))

-- the logarithm by the weights of positions 1, 2 and 3
module _ (x : List Float) (w1 w2 w3 : Float) where
  abbrev l1 : Float
  l1 = w1 ⊗ at x 1 ⊘ (w1 ⊗ at x 0)

  abbrev l2 : Float
  l2 = (w2 ⊗ at x 2 ⊖ w1 ⊗ l1 ⊗ at x 1) ⊘ (w2 ⊗ at x 0)

  abbrev l3 : Float
  l3 = (w3 ⊗ at x 3 ⊖ w1 ⊗ l1 ⊗ at x 2 ⊖ w2 ⊗ l2 ⊗ at x 1) ⊘ (w3 ⊗ at x 0)

  abbrev weighted : Float → List Float
  weighted l0 = along l0 l1 l2 l3

by_weights : (x : List Float) → cut 4 (logarithm_of x) ≡ weighted x (weight_of 1) (weight_of 2) (weight_of 3) (ln_of (at x 0))
unfolding logarithm_of logarithm_at less between among not_above build
by_weights x = padded (logarithm_at x) 4 (omega arith)

weight_1 : weight_of 1 ≡ f1
unfolding weight_of of_int of_bits
weight_1 = refl

weight_2 : weight_of 2 ≡ f2
unfolding weight_of of_int of_bits
weight_2 = refl

weight_3 : weight_of 3 ≡ f3
unfolding weight_of of_int of_bits
weight_3 = refl

pub logarithm_along : (x : List Float) (l0 : Float) → l0 ≡ ln_of (at x 0) → cut 4 (logarithm_of x) ≡ weighted x f1 f2 f3 l0
logarithm_along x l0 e = rw (e, ← weight_1, ← weight_2, ← weight_3) (by_weights x)
