-- `smallest_ev` of num_dual's linalg for a symmetric 2 by 2 matrix of jets with the entries m11, m12 and m22, by the rules of document 02, P3. Definitions only.
use Rattle.std.specs.Prelude.{ℕ, cond, List, eqb, Float}
use Rattle.std.specs.Float.{binary64}
use Rattle.std.specs.Float.Ieee.{of_bits, eq, le}
use Rattle.float.specs.Ops.{f0, f1, f4}
use Rattle.jet.specs.Coefficients.{at, Upto, number_of, root_of}
use Rattle.jet.specs.Ops.{◌⊞◌, ◌⊟◌, ◌⊠◌, ◌⧄◌}
use Rattle.linear.specs.declared.types.Eigenpair.{Eigenpair}

-- 0.5
abbrev pub half : Float
half = of_bits binary64 0x3fe0_0000_0000_0000

-- "From m11 + m22 take the root of (m11−m22)·(m11−m22) + (4·m12)·m12; half of what remains is the smallest eigenvalue, l."
unfoldable pub smallest_of : (m11 m12 m22 : List Float) → List Float
smallest_of m11 m12 m22 = (m11 ⊞ m22 ⊟ root_of ((m11 ⊟ m22) ⊠ (m11 ⊟ m22) ⊞ number_of f4 ⊠ m12 ⊠ m12)) ⊠ number_of half

-- the length of a vector
unfoldable pub length_of : (x y : List Float) → List Float
length_of x y = root_of (x ⊠ x ⊞ y ⊠ y)

-- (1,0) or (0,1), the j-th of the two
unfoldable pub unit_of : (j i : ℕ) → List Float
unit_of j i = number_of (cond (eqb i j) f1 f0)

-- "Its vector is (m12, l−m11) over its length; where m12 is 0 it is (1,0) if m11 is at most m22, else (0,1).", "with branches taken on position 0": entry i
unfoldable pub vector_of : (m11 m12 m22 : List Float) (i : ℕ) → List Float
vector_of m11 m12 m22 i =
    let y = smallest_of m11 m12 m22 ⊟ m11 in
    cond (eq (at m12 0) f0) (unit_of (cond (le (at m11 0) (at m22 0)) 0 1) i) (cond (eqb i 0) m12 y ⧄ length_of m12 y)

-- the pair is that eigenvalue with its vector in the first w coefficients
pub record Smallest (w : ℕ) (m11 m12 m22 : List Float) (e : Eigenpair) : Type 0 where
  pub value : Upto w e.l.c (smallest_of m11 m12 m22)
  pub first : Upto w e.u1.c (vector_of m11 m12 m22 0)
  pub second : Upto w e.u2.c (vector_of m11 m12 m22 1)
