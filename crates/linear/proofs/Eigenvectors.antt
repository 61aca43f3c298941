-- The smallest eigenvalue of a 2 by 2 matrix of jets and its vector, worked out one operation after the other in the first w coefficients, and which matrices have
-- them alike. Assumes nothing.
use mathlib.Core.Path.{◌≡◌, refl, ◌∙◌}
use Prim.Native.Nat.{ℕ, ◌≤◌}
use mathlib.Core.Bool.{Bool, true, false, cond}
use mathlib.Core.List.{List}
use lib.Dec.{eqb}
use lib.Ieee.{Float, eq, le}
use Rattle.float.specs.Ops.{f0, f1, f4}
use Rattle.jet.specs.Coefficients.{at, Upto, number_of, sum_of, difference_of, product_of, quotient_of, root_of}
use Rattle.jet.specs.Ops.{◌⊞◌, ◌⊟◌, ◌⊠◌, ◌⧄◌}
use Rattle.jet.proofs.Prefix.{is, head_same, add_upto, sub_upto, mul_upto, div_upto, sqrt_upto}
use Rattle.jet.proofs.Depends.{sum_first, difference_first, product_first, quotient_first, root_first}
use Rattle.linear.specs.declared.types.Eigenpair.{Eigenpair}
use Rattle.linear.specs.SmallestEv.{half, smallest_of, length_of, unit_of, vector_of, Smallest}

module _ (w : ℕ) where
  pub smallest_law : (m11 m12 m22 d four f x q s r t u h out : List Float)
      → Upto w d (difference_of m11 m22) → four ≡ number_of f4 → Upto w f (product_of four m12) → Upto w x (product_of f m12) → Upto w q (product_of d d) → Upto w s (sum_of q x) → Upto w r (root_of s) → Upto w t (sum_of m11 m22) → Upto w u (difference_of t r) → h ≡ number_of half → Upto w out (product_of u h)
      → Upto w out (smallest_of m11 m12 m22)
  unfolding smallest_of
  smallest_law m11 m12 m22 d four f x q s r t u h out ed e4 ef ex eq es er et eu eh eo =
      let d' = m11 ⊟ m22 in
      let F = mul_upto w four (number_of f4) f (is w e4) m12 m12 refl ef in
      let X = mul_upto w f (number_of f4 ⊠ m12) x F m12 m12 refl ex in
      let Q = mul_upto w d d' q ed d d' ed eq in
      let S = add_upto w q (d' ⊠ d') s Q x (number_of f4 ⊠ m12 ⊠ m12) X es in
      let R = sqrt_upto w s (d' ⊠ d' ⊞ number_of f4 ⊠ m12 ⊠ m12) r S er in
      let U = sub_upto w t (m11 ⊞ m22) u et r (root_of (d' ⊠ d' ⊞ number_of f4 ⊠ m12 ⊠ m12)) R eu in
      mul_upto w u (m11 ⊞ m22 ⊟ root_of (d' ⊠ d' ⊞ number_of f4 ⊠ m12 ⊠ m12)) out U h (number_of half) (is w eh) eo

  pub length_law : (x y p q s out : List Float) → Upto w p (product_of x x) → Upto w q (product_of y y) → Upto w s (sum_of p q) → Upto w out (root_of s) → Upto w out (length_of x y)
  unfolding length_of
  length_law x y p q s out ep eq es eo =
      let P = mul_upto w x x p refl x x refl ep in
      let Q = mul_upto w y y q refl y y refl eq in
      sqrt_upto w s (x ⊠ x ⊞ y ⊠ y) out (add_upto w p (x ⊠ x) s P q (y ⊠ y) Q es) eo

  -- ---- which matrices have them alike

  length_cong : (x x' y y' : List Float) → Upto w x x' → Upto w y y' → Upto w (length_of x y) (length_of x' y')
  unfolding length_of
  length_cong x x' y y' X Y = root_first w _ _ (sum_first w _ _ (product_first w x x' X x x' X) _ _ (product_first w y y' Y y y' Y))

  module _ (m11 m11' m12 m12' m22 m22' : List Float) (M11 : Upto w m11 m11') (M12 : Upto w m12 m12') (M22 : Upto w m22 m22') where
    pub smallest_cong : Upto w (smallest_of m11 m12 m22) (smallest_of m11' m12' m22')
    unfolding smallest_of
    smallest_cong =
        let D = difference_first w m11 m11' M11 m22 m22' M22 in
        let X = product_first w _ _ (product_first w (number_of f4) (number_of f4) refl m12 m12' M12) m12 m12' M12 in
        let R = root_first w _ _ (sum_first w _ _ (product_first w _ _ D _ _ D) _ _ X) in
        product_first w _ _ (difference_first w _ _ (sum_first w m11 m11' M11 m22 m22' M22) _ _ R) (number_of half) (number_of half) refl

    -- the entry of the vector before the division, and the vector
    entry_cong : (i : Bool) → Upto w (cond i m12 (smallest_of m11 m12 m22 ⊟ m11)) (cond i m12' (smallest_of m11' m12' m22' ⊟ m11'))
    entry_cong true = M12
    entry_cong false = difference_first w _ _ smallest_cong m11 m11' M11

    pub vector_cong : 1 ≤ w → (i : ℕ) → Upto w (vector_of m11 m12 m22 i) (vector_of m11' m12' m22' i)
    unfolding vector_of
    vector_cong h i =
        rw (head_same w m12 m12' h M12, head_same w m11 m11' h M11, head_same w m22 m22' h M22) (branch (eq (at m12' 0) f0))
      where
        branch : (z : Bool)
            → Upto w (cond z (unit_of (cond (le (at m11' 0) (at m22' 0)) 0 1) i) (cond (eqb i 0) m12 (smallest_of m11 m12 m22 ⊟ m11) ⧄ length_of m12 (smallest_of m11 m12 m22 ⊟ m11)))
            (cond z (unit_of (cond (le (at m11' 0) (at m22' 0)) 0 1) i) (cond (eqb i 0) m12' (smallest_of m11' m12' m22' ⊟ m11') ⧄ length_of m12' (smallest_of m11' m12' m22' ⊟ m11')))
        branch true = refl
        branch false = quotient_first w _ _ (entry_cong (eqb i 0)) _ _ (length_cong m12 m12' _ _ M12 (entry_cong false))

-- ---- the branches of `smallest_ev`

module _ (w : ℕ) (m11 m12 m22 : List Float) (e : Eigenpair) (L : Upto w e.l.c (smallest_of m11 m12 m22)) where
  pub first_unit_law : eq (at m12 0) f0 ≡ true → le (at m11 0) (at m22 0) ≡ true → e.u1.c ≡ number_of f1 → e.u2.c ≡ number_of f0 → Smallest w m11 m12 m22 e
  unfolding vector_of unit_of
  first_unit_law z g e1 e2 = record { value = L; first = rw (z, g, e1); second = rw (z, g, e2) }

  pub second_unit_law : eq (at m12 0) f0 ≡ true → le (at m11 0) (at m22 0) ≡ false → e.u1.c ≡ number_of f0 → e.u2.c ≡ number_of f1 → Smallest w m11 m12 m22 e
  unfolding vector_of unit_of
  second_unit_law z g e1 e2 = record { value = L; first = rw (z, g, e1); second = rw (z, g, e2) }

  pub scaled_law : (y size : List Float) → eq (at m12 0) f0 ≡ false → Upto w y (difference_of e.l.c m11) → Upto w size (length_of m12 y) → Upto w e.u1.c (quotient_of m12 size) → Upto w e.u2.c (quotient_of y size) → Smallest w m11 m12 m22 e
  unfolding vector_of
  scaled_law y size z ey es e1 e2 =
      let y' = smallest_of m11 m12 m22 ⊟ m11 in
      let Y = sub_upto w e.l.c (smallest_of m11 m12 m22) y L m11 m11 refl ey in
      let S = es ∙ length_cong w m12 m12 y y' refl Y in
      record {
        value = L;
        first = rw z (div_upto w m12 m12 e.u1.c refl size (length_of m12 y') S e1);
        second = rw z (div_upto w y y' e.u2.c Y size (length_of m12 y') S e2);
      }
