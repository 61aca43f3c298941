-- The four coefficients of a jet along e0, and the four along e0 beside another mark: document 01's rules at the latter, from the four of both. They are for the crate's own
-- functions; what it exports is stated by `jet`'s definitions. Definitions only.
use Rattle.std.specs.Prelude.{ℕ, ◌+◌, List, ◌∷◌, ◌++◌, replicate, Float}
use Rattle.float.specs.Ops.{◌⊕◌, ◌⊖◌, ◌⊗◌, ◌⊘◌, f0, f1, f2, f3, f4}
use Rattle.jet.specs.Coefficients.{at}
use Rattle.jet_gradient.specs.declared.Four.{Four}

-- the four from position i
unfoldable pub four_at : List Float → ℕ → Four
four_at a i = record { c0 = at a i; c1 = at a (i + 1); c2 = at a (i + 2); c3 = at a (i + 3) }

-- the jet of the four along e0, those beside e1, beside e2 and beside e3
unfoldable pub joined_of : (l u v z : Four) → List Float
joined_of l u v z =
    l.c0 ∷ l.c1 ∷ l.c2 ∷ l.c3 ∷ u.c0 ∷ u.c1 ∷ u.c2 ∷ u.c3 ∷ v.c0 ∷ v.c1 ∷ v.c2 ∷ v.c3
    ∷ (replicate 4 f0 ++ z.c0 ∷ z.c1 ∷ z.c2 ∷ z.c3 ∷ replicate 12 f0)

-- the sum and the difference, beside a mark or not
unfoldable pub sum_beside : (x y : Four) → Four
sum_beside x y = record { c0 = x.c0 ⊕ y.c0; c1 = x.c1 ⊕ y.c1; c2 = x.c2 ⊕ y.c2; c3 = x.c3 ⊕ y.c3 }

unfoldable pub difference_beside : (x y : Four) → Four
difference_beside x y = record { c0 = x.c0 ⊖ y.c0; c1 = x.c1 ⊖ y.c1; c2 = x.c2 ⊖ y.c2; c3 = x.c3 ⊖ y.c3 }

-- the product of x and y, which have u and w beside the mark
unfoldable pub product_beside : (x u y w : Four) → Four
product_beside x u y w = record {
  c0 = x.c0 ⊗ w.c0 ⊕ u.c0 ⊗ y.c0;
  c1 = x.c0 ⊗ w.c1 ⊕ x.c1 ⊗ w.c0 ⊕ u.c0 ⊗ y.c1 ⊕ u.c1 ⊗ y.c0;
  c2 = x.c0 ⊗ w.c2 ⊕ x.c1 ⊗ w.c1 ⊕ x.c2 ⊗ w.c0 ⊕ u.c0 ⊗ y.c2 ⊕ u.c1 ⊗ y.c1 ⊕ u.c2 ⊗ y.c0;
  c3 = x.c0 ⊗ w.c3 ⊕ x.c1 ⊗ w.c2 ⊕ x.c2 ⊗ w.c1 ⊕ x.c3 ⊗ w.c0 ⊕ u.c0 ⊗ y.c3 ⊕ u.c1 ⊗ y.c2 ⊕ u.c2 ⊗ y.c1 ⊕ u.c3 ⊗ y.c0;
}

-- the quotient by y, which has w beside the mark: u is the dividend's, q the quotient along e0
unfoldable pub quotient_beside : (u q y w : Four) → Four
quotient_beside u q y w =
    let s0 = (u.c0 ⊖ q.c0 ⊗ w.c0) ⊘ y.c0 in
    let s1 = (u.c1 ⊖ q.c0 ⊗ w.c1 ⊖ q.c1 ⊗ w.c0 ⊖ s0 ⊗ y.c1) ⊘ y.c0 in
    let s2 = (u.c2 ⊖ q.c0 ⊗ w.c2 ⊖ q.c1 ⊗ w.c1 ⊖ q.c2 ⊗ w.c0 ⊖ s0 ⊗ y.c2 ⊖ s1 ⊗ y.c1) ⊘ y.c0 in
    let s3 = (u.c3 ⊖ q.c0 ⊗ w.c3 ⊖ q.c1 ⊗ w.c2 ⊖ q.c2 ⊗ w.c1 ⊖ q.c3 ⊗ w.c0 ⊖ s0 ⊗ y.c3 ⊖ s1 ⊗ y.c2 ⊖ s2 ⊗ y.c1) ⊘ y.c0 in
    record { c0 = s0; c1 = s1; c2 = s2; c3 = s3 }

-- the root that is r along e0
unfoldable pub root_beside : (u r : Four) → Four
root_beside u r =
    let d = f2 ⊗ r.c0 in
    let s0 = u.c0 ⊘ d in
    let s1 = (u.c1 ⊖ r.c1 ⊗ s0 ⊖ s0 ⊗ r.c1) ⊘ d in
    let s2 = (u.c2 ⊖ r.c1 ⊗ s1 ⊖ r.c2 ⊗ s0 ⊖ s0 ⊗ r.c2 ⊖ s1 ⊗ r.c1) ⊘ d in
    let s3 = (u.c3 ⊖ r.c1 ⊗ s2 ⊖ r.c2 ⊗ s1 ⊖ r.c3 ⊗ s0 ⊖ s0 ⊗ r.c3 ⊖ s1 ⊗ r.c2 ⊖ s2 ⊗ r.c1) ⊘ d in
    record { c0 = s0; c1 = s1; c2 = s2; c3 = s3 }

-- the logarithm of x that is l along e0, by the weights p along e0 and q beside the mark
unfoldable pub weighted_beside : (p1 p2 p3 q0 q1 q2 q3 : Float) (x u l : Four) → Four
weighted_beside p1 p2 p3 q0 q1 q2 q3 x u l =
    let s0 = q0 ⊗ u.c0 ⊘ (q0 ⊗ x.c0) in
    let s1 = (q1 ⊗ u.c1 ⊖ p1 ⊗ l.c1 ⊗ u.c0 ⊖ q0 ⊗ s0 ⊗ x.c1) ⊘ (q1 ⊗ x.c0) in
    let s2 = (q2 ⊗ u.c2 ⊖ p1 ⊗ l.c1 ⊗ u.c1 ⊖ p2 ⊗ l.c2 ⊗ u.c0 ⊖ q0 ⊗ s0 ⊗ x.c2 ⊖ q1 ⊗ s1 ⊗ x.c1) ⊘ (q2 ⊗ x.c0) in
    let s3 = (q3 ⊗ u.c3 ⊖ p1 ⊗ l.c1 ⊗ u.c2 ⊖ p2 ⊗ l.c2 ⊗ u.c1 ⊖ p3 ⊗ l.c3 ⊗ u.c0 ⊖ q0 ⊗ s0 ⊗ x.c3 ⊖ q1 ⊗ s1 ⊗ x.c2 ⊖ q2 ⊗ s2 ⊗ x.c1) ⊘ (q3 ⊗ x.c0) in
    record { c0 = s0; c1 = s1; c2 = s2; c3 = s3 }

-- the weights are the degree sums: 1 to 3 along e0, 1 to 4 beside the mark
unfoldable pub logarithm_beside : (x u l : Four) → Four
logarithm_beside = weighted_beside f1 f2 f3 f1 f2 f3 f4
