-- The coefficients beside a mark of a sum, a difference, a product, a quotient, a root and a logarithm: the same four terms for each mark. Assumes nothing.
use mathlib.Core.Path.{◌≡◌, refl, sym, ap, ◌∙◌}
use Prim.Native.Nat.{ℕ, ◌+◌, ◌<◌}
use native.Mathlib.Omega.{arith}
use mathlib.Core.List.{List}
use lib.Ieee.{Float, of_int, of_bits}
use Rattle.float.specs.Ops.{◌⊕◌, ◌⊖◌, ◌⊗◌, ◌⊘◌, f2}
use Rattle.jet.specs.Positions.{positions, not_above, first_order, among, pairs_of, before, between, weight_of}
use Rattle.jet.specs.Coefficients.{at, build, cut, upto, Upto, total, less, sum_at, sum_of, difference_at, difference_of, product_at, product_of, quotient_at, quotient_of, root_at, root_of, logarithm_at, logarithm_of}
use Rattle.jet.proofs.Build.{Local, length_build, build_at, cut_at}
use Rattle.jet.proofs.Rules.{quotient_local, root_local, logarithm_local}
use Rattle.jet.proofs.Prefix.{is}
use Rattle.jet_gradient.specs.declared.Four.{Four}
use Rattle.jet_gradient.specs.Beside.{four_at, joined_of, sum_beside, difference_beside, product_beside, quotient_beside, root_beside, weighted_beside, logarithm_beside}

-- the positions of e1, e2 and e3
pub data Mark : ℕ → Type 0 where
  e1 : Mark 4
  e2 : Mark 8
  e3 : Mark 16

-- ---- a coefficient by the whole result's own

coefficient : (f : List Float → ℕ → Float) → Local f → (m : ℕ) → m < positions → at (build f positions) m ≡ f (build f positions) m
coefficient f local m h =
    build_at f positions m h
    ∙ local m (build f m) (build f positions) (λ p l u. build_at f m p l ∙ sym (build_at f positions p (omega arith)))

-- ---- four coefficients, each by the ones before it

module _ (t : Four) where
  product_four : (x u y w : Four)
      → t.c0 ≡ x.c0 ⊗ w.c0 ⊕ u.c0 ⊗ y.c0
      → t.c1 ≡ x.c0 ⊗ w.c1 ⊕ x.c1 ⊗ w.c0 ⊕ u.c0 ⊗ y.c1 ⊕ u.c1 ⊗ y.c0
      → t.c2 ≡ x.c0 ⊗ w.c2 ⊕ x.c1 ⊗ w.c1 ⊕ x.c2 ⊗ w.c0 ⊕ u.c0 ⊗ y.c2 ⊕ u.c1 ⊗ y.c1 ⊕ u.c2 ⊗ y.c0
      → t.c3 ≡ x.c0 ⊗ w.c3 ⊕ x.c1 ⊗ w.c2 ⊕ x.c2 ⊗ w.c1 ⊕ x.c3 ⊗ w.c0 ⊕ u.c0 ⊗ y.c3 ⊕ u.c1 ⊗ y.c2 ⊕ u.c2 ⊗ y.c1 ⊕ u.c3 ⊗ y.c0
      → t ≡ product_beside x u y w
  unfolding product_beside
  product_four x u y w h0 h1 h2 h3 = rw (h0, h1, h2, h3)

  quotient_four : (u q y w : Four)
      → t.c0 ≡ (u.c0 ⊖ q.c0 ⊗ w.c0) ⊘ y.c0
      → t.c1 ≡ (u.c1 ⊖ q.c0 ⊗ w.c1 ⊖ q.c1 ⊗ w.c0 ⊖ t.c0 ⊗ y.c1) ⊘ y.c0
      → t.c2 ≡ (u.c2 ⊖ q.c0 ⊗ w.c2 ⊖ q.c1 ⊗ w.c1 ⊖ q.c2 ⊗ w.c0 ⊖ t.c0 ⊗ y.c2 ⊖ t.c1 ⊗ y.c1) ⊘ y.c0
      → t.c3 ≡ (u.c3 ⊖ q.c0 ⊗ w.c3 ⊖ q.c1 ⊗ w.c2 ⊖ q.c2 ⊗ w.c1 ⊖ q.c3 ⊗ w.c0 ⊖ t.c0 ⊗ y.c3 ⊖ t.c1 ⊗ y.c2 ⊖ t.c2 ⊗ y.c1) ⊘ y.c0
      → t ≡ quotient_beside u q y w
  unfolding quotient_beside
  quotient_four u q y w h0 h1 h2 h3 = rw (h3, h2, h1, h0)

  root_four : (u r : Four)
      → t.c0 ≡ u.c0 ⊘ (f2 ⊗ r.c0)
      → t.c1 ≡ (u.c1 ⊖ r.c1 ⊗ t.c0 ⊖ t.c0 ⊗ r.c1) ⊘ (f2 ⊗ r.c0)
      → t.c2 ≡ (u.c2 ⊖ r.c1 ⊗ t.c1 ⊖ r.c2 ⊗ t.c0 ⊖ t.c0 ⊗ r.c2 ⊖ t.c1 ⊗ r.c1) ⊘ (f2 ⊗ r.c0)
      → t.c3 ≡ (u.c3 ⊖ r.c1 ⊗ t.c2 ⊖ r.c2 ⊗ t.c1 ⊖ r.c3 ⊗ t.c0 ⊖ t.c0 ⊗ r.c3 ⊖ t.c1 ⊗ r.c2 ⊖ t.c2 ⊗ r.c1) ⊘ (f2 ⊗ r.c0)
      → t ≡ root_beside u r
  unfolding root_beside
  root_four u r h0 h1 h2 h3 = rw (h3, h2, h1, h0)

  logarithm_four : (p1 p2 p3 q0 q1 q2 q3 : Float) (x u l : Four)
      → t.c0 ≡ q0 ⊗ u.c0 ⊘ (q0 ⊗ x.c0)
      → t.c1 ≡ (q1 ⊗ u.c1 ⊖ p1 ⊗ l.c1 ⊗ u.c0 ⊖ q0 ⊗ t.c0 ⊗ x.c1) ⊘ (q1 ⊗ x.c0)
      → t.c2 ≡ (q2 ⊗ u.c2 ⊖ p1 ⊗ l.c1 ⊗ u.c1 ⊖ p2 ⊗ l.c2 ⊗ u.c0 ⊖ q0 ⊗ t.c0 ⊗ x.c2 ⊖ q1 ⊗ t.c1 ⊗ x.c1) ⊘ (q2 ⊗ x.c0)
      → t.c3 ≡ (q3 ⊗ u.c3 ⊖ p1 ⊗ l.c1 ⊗ u.c2 ⊖ p2 ⊗ l.c2 ⊗ u.c1 ⊖ p3 ⊗ l.c3 ⊗ u.c0 ⊖ q0 ⊗ t.c0 ⊗ x.c3 ⊖ q1 ⊗ t.c1 ⊗ x.c2 ⊖ q2 ⊗ t.c2 ⊗ x.c1) ⊘ (q3 ⊗ x.c0)
      → t ≡ weighted_beside p1 p2 p3 q0 q1 q2 q3 x u l
  unfolding weighted_beside
  logarithm_four p1 p2 p3 q0 q1 q2 q3 x u l h0 h1 h2 h3 = rw (h3, h2, h1, h0)

-- ---- beside each mark

module _ (x y : List Float) where
  product_local : Local (product_at x y)
  unfolding product_at
  product_local m c d h = refl

  product_at_lem : (m : ℕ) → m < positions → at (product_of x y) m ≡ product_at x y (product_of x y) m
  unfolding product_of
  product_at_lem m h = coefficient (product_at x y) product_local m h

  quotient_at_lem : (m : ℕ) → m < positions → at (quotient_of x y) m ≡ quotient_at x y (quotient_of x y) m
  unfolding quotient_of
  quotient_at_lem m h = coefficient (quotient_at x y) (quotient_local x y) m h

  product_beside_lem : {m : ℕ} → Mark m → four_at (product_of x y) m ≡ product_beside (four_at x 0) (four_at x m) (four_at y 0) (four_at y m)
  unfolding product_at total pairs_of among not_above four_at
  product_beside_lem e1 = product_four (four_at (product_of x y) 4) (four_at x 0) (four_at x 4) (four_at y 0) (four_at y 4) (product_at_lem 4 (omega arith)) (product_at_lem 5 (omega arith)) (product_at_lem 6 (omega arith)) (product_at_lem 7 (omega arith))
  product_beside_lem e2 = product_four (four_at (product_of x y) 8) (four_at x 0) (four_at x 8) (four_at y 0) (four_at y 8) (product_at_lem 8 (omega arith)) (product_at_lem 9 (omega arith)) (product_at_lem 10 (omega arith)) (product_at_lem 11 (omega arith))
  product_beside_lem e3 = product_four (four_at (product_of x y) 16) (four_at x 0) (four_at x 16) (four_at y 0) (four_at y 16) (product_at_lem 16 (omega arith)) (product_at_lem 17 (omega arith)) (product_at_lem 18 (omega arith)) (product_at_lem 19 (omega arith))

  quotient_beside_lem : {m : ℕ} → Mark m → four_at (quotient_of x y) m ≡ quotient_beside (four_at x m) (four_at (quotient_of x y) 0) (four_at y 0) (four_at y m)
  unfolding quotient_at less before among not_above four_at
  quotient_beside_lem e1 = quotient_four (four_at (quotient_of x y) 4) (four_at x 4) (four_at (quotient_of x y) 0) (four_at y 0) (four_at y 4) (quotient_at_lem 4 (omega arith)) (quotient_at_lem 5 (omega arith)) (quotient_at_lem 6 (omega arith)) (quotient_at_lem 7 (omega arith))
  quotient_beside_lem e2 = quotient_four (four_at (quotient_of x y) 8) (four_at x 8) (four_at (quotient_of x y) 0) (four_at y 0) (four_at y 8) (quotient_at_lem 8 (omega arith)) (quotient_at_lem 9 (omega arith)) (quotient_at_lem 10 (omega arith)) (quotient_at_lem 11 (omega arith))
  quotient_beside_lem e3 = quotient_four (four_at (quotient_of x y) 16) (four_at x 16) (four_at (quotient_of x y) 0) (four_at y 0) (four_at y 16) (quotient_at_lem 16 (omega arith)) (quotient_at_lem 17 (omega arith)) (quotient_at_lem 18 (omega arith)) (quotient_at_lem 19 (omega arith))

module _ (x : List Float) where
  root_at_lem : (m : ℕ) → m < positions → at (root_of x) m ≡ root_at x (root_of x) m
  unfolding root_of
  root_at_lem m h = coefficient (root_at x) (root_local x) m h

  logarithm_at_lem : (m : ℕ) → m < positions → at (logarithm_of x) m ≡ logarithm_at x (logarithm_of x) m
  unfolding logarithm_of
  logarithm_at_lem m h = coefficient (logarithm_at x) (logarithm_local x) m h

  root_beside_lem : {m : ℕ} → Mark m → four_at (root_of x) m ≡ root_beside (four_at x m) (four_at (root_of x) 0)
  unfolding root_at less between among not_above four_at
  root_beside_lem e1 = root_four (four_at (root_of x) 4) (four_at x 4) (four_at (root_of x) 0) (root_at_lem 4 (omega arith)) (root_at_lem 5 (omega arith)) (root_at_lem 6 (omega arith)) (root_at_lem 7 (omega arith))
  root_beside_lem e2 = root_four (four_at (root_of x) 8) (four_at x 8) (four_at (root_of x) 0) (root_at_lem 8 (omega arith)) (root_at_lem 9 (omega arith)) (root_at_lem 10 (omega arith)) (root_at_lem 11 (omega arith))
  root_beside_lem e3 = root_four (four_at (root_of x) 16) (four_at x 16) (four_at (root_of x) 0) (root_at_lem 16 (omega arith)) (root_at_lem 17 (omega arith)) (root_at_lem 18 (omega arith)) (root_at_lem 19 (omega arith))

  -- by the weights that the rule has there
  weighted : ℕ → Four → Four → Four → Four
  weighted m = weighted_beside (weight_of 1) (weight_of 2) (weight_of 3) (weight_of m) (weight_of (m + 1)) (weight_of (m + 2)) (weight_of (m + 3))

  by_weights : {m : ℕ} → Mark m → four_at (logarithm_of x) m ≡ weighted m (four_at x 0) (four_at x m) (four_at (logarithm_of x) 0)
  unfolding weighted logarithm_at less between among not_above four_at
  by_weights e1 = logarithm_four (four_at (logarithm_of x) 4) (weight_of 1) (weight_of 2) (weight_of 3) (weight_of 4) (weight_of 5) (weight_of 6) (weight_of 7) (four_at x 0) (four_at x 4) (four_at (logarithm_of x) 0) (logarithm_at_lem 4 (omega arith)) (logarithm_at_lem 5 (omega arith)) (logarithm_at_lem 6 (omega arith)) (logarithm_at_lem 7 (omega arith))
  by_weights e2 = logarithm_four (four_at (logarithm_of x) 8) (weight_of 1) (weight_of 2) (weight_of 3) (weight_of 8) (weight_of 9) (weight_of 10) (weight_of 11) (four_at x 0) (four_at x 8) (four_at (logarithm_of x) 0) (logarithm_at_lem 8 (omega arith)) (logarithm_at_lem 9 (omega arith)) (logarithm_at_lem 10 (omega arith)) (logarithm_at_lem 11 (omega arith))
  by_weights e3 = logarithm_four (four_at (logarithm_of x) 16) (weight_of 1) (weight_of 2) (weight_of 3) (weight_of 16) (weight_of 17) (weight_of 18) (weight_of 19) (four_at x 0) (four_at x 16) (four_at (logarithm_of x) 0) (logarithm_at_lem 16 (omega arith)) (logarithm_at_lem 17 (omega arith)) (logarithm_at_lem 18 (omega arith)) (logarithm_at_lem 19 (omega arith))

  -- the weights are the same beside each mark
  same_weights : {m : ℕ} → Mark m → weighted m ≡ logarithm_beside
  unfolding weighted weight_of of_int of_bits logarithm_beside
  same_weights e1 = refl
  same_weights e2 = refl
  same_weights e3 = refl

  log_beside : {m : ℕ} → Mark m → four_at (logarithm_of x) m ≡ logarithm_beside (four_at x 0) (four_at x m) (four_at (logarithm_of x) 0)
  log_beside {m} k = by_weights k ∙ ap (λ (f : Four → Four → Four → Four). f (four_at x 0) (four_at x m) (four_at (logarithm_of x) 0)) (same_weights k)

-- a sum and a difference, beside a mark or not
module _ (x y : List Float) (m : ℕ) (h : m + 3 < positions) where
  sum_four : four_at (sum_of x y) m ≡ sum_beside (four_at x m) (four_at y m)
  unfolding sum_of four_at sum_beside
  sum_four = rw (build_at (sum_at x y) positions m (omega arith), build_at (sum_at x y) positions (m + 1) (omega arith), build_at (sum_at x y) positions (m + 2) (omega arith), build_at (sum_at x y) positions (m + 3) (omega arith))

  difference_four : four_at (difference_of x y) m ≡ difference_beside (four_at x m) (four_at y m)
  unfolding difference_of four_at difference_beside
  difference_four = rw (build_at (difference_at x y) positions m (omega arith), build_at (difference_at x y) positions (m + 1) (omega arith), build_at (difference_at x y) positions (m + 2) (omega arith), build_at (difference_at x y) positions (m + 3) (omega arith))

-- ---- what the functions give

-- the first four by a function without a loop
along : (f : List Float → ℕ → Float) (r : List Float) → r ≡ cut 4 (build f positions) → four_at r 0 ≡ four_at (build f positions) 0
unfolding four_at
along f r e = rw (e, here 0 (omega arith), here 1 (omega arith), here 2 (omega arith), here 3 (omega arith))
  where
    here : (m : ℕ) → m < 4 → at (cut 4 (build f positions)) m ≡ at (build f positions) m
    here m h = cut_at 4 m (build f positions) h (rw (length_build f positions) (omega arith))

module _ (x y : List Float) where
  pub sum_from : (m : ℕ) → m + 3 < positions → (u : Four) → u ≡ sum_beside (four_at x m) (four_at y m) → u ≡ four_at (sum_of x y) m
  sum_from m h u e = e ∙ sym (sum_four x y m h)

  pub difference_from : (m : ℕ) → m + 3 < positions → (u : Four) → u ≡ difference_beside (four_at x m) (four_at y m) → u ≡ four_at (difference_of x y) m
  difference_from m h u e = e ∙ sym (difference_four x y m h)

  pub product_along : (l : Four) (low : List Float) → low ≡ cut 4 (product_of x y) → l ≡ four_at low 0 → l ≡ four_at (product_of x y) 0
  unfolding product_of
  product_along l low e g = g ∙ along (product_at x y) low e

  pub product_from : {m : ℕ} → Mark m → (u : Four) → u ≡ product_beside (four_at x 0) (four_at x m) (four_at y 0) (four_at y m) → u ≡ four_at (product_of x y) m
  product_from k u e = e ∙ sym (product_beside_lem x y k)

  pub quotient_along : (l : Four) (low : List Float) → low ≡ cut 4 (quotient_of x y) → l ≡ four_at low 0 → l ≡ four_at (quotient_of x y) 0
  unfolding quotient_of
  quotient_along l low e g = g ∙ along (quotient_at x y) low e

  pub quotient_from : {m : ℕ} → Mark m → (q u : Four) → q ≡ four_at (quotient_of x y) 0 → u ≡ quotient_beside (four_at x m) q (four_at y 0) (four_at y m) → u ≡ four_at (quotient_of x y) m
  quotient_from {m} k q u g e = e ∙ ap (λ (t : Four). quotient_beside (four_at x m) t (four_at y 0) (four_at y m)) g ∙ sym (quotient_beside_lem x y k)

module _ (x : List Float) where
  pub root_along : (l : Four) (low : List Float) → low ≡ cut 4 (root_of x) → l ≡ four_at low 0 → l ≡ four_at (root_of x) 0
  unfolding root_of
  root_along l low e g = g ∙ along (root_at x) low e

  pub root_from : {m : ℕ} → Mark m → (r u : Four) → r ≡ four_at (root_of x) 0 → u ≡ root_beside (four_at x m) r → u ≡ four_at (root_of x) m
  root_from {m} k r u g e = e ∙ ap (root_beside (four_at x m)) g ∙ sym (root_beside_lem x k)

  pub logarithm_along : (l : Four) (low : List Float) → low ≡ cut 4 (logarithm_of x) → l ≡ four_at low 0 → l ≡ four_at (logarithm_of x) 0
  unfolding logarithm_of
  logarithm_along l low e g = g ∙ along (logarithm_at x) low e

  pub logarithm_from : {m : ℕ} → Mark m → (l u : Four) → l ≡ four_at (logarithm_of x) 0 → u ≡ logarithm_beside (four_at x 0) (four_at x m) l → u ≡ four_at (logarithm_of x) m
  logarithm_from {m} k l u g e = e ∙ ap (logarithm_beside (four_at x 0) (four_at x m)) g ∙ sym (log_beside x k)

-- the jet of the coefficients below w
whole_4 : (p : List Float) (u v z : Four) → Upto 4 (joined_of (four_at p 0) u v z) p
unfolding upto first_order joined_of four_at
whole_4 p u v z = refl

pub no_mark : (p r : List Float) (l u v z : Four) → l ≡ four_at p 0 → r ≡ joined_of l u v z → Upto 4 r p
no_mark p r l u v z el e = is 4 (rw (e, el)) ∙ whole_4 p u v z

whole_12 : (p : List Float) (z : Four) → Upto 12 (joined_of (four_at p 0) (four_at p 4) (four_at p 8) z) p
unfolding upto first_order joined_of four_at
whole_12 p z = refl

whole_20 : (p : List Float) → Upto 20 (joined_of (four_at p 0) (four_at p 4) (four_at p 8) (four_at p 16)) p
unfolding upto first_order joined_of four_at
whole_20 p = refl

module _ (p r : List Float) (l u v z : Four) (el : l ≡ four_at p 0) (eu : u ≡ four_at p 4) (ev : v ≡ four_at p 8) (e : r ≡ joined_of l u v z) where
  pub two_marks : Upto 12 r p
  two_marks = is 12 (rw (e, el, eu, ev)) ∙ whole_12 p z

  pub three_marks : z ≡ four_at p 16 → Upto 20 r p
  three_marks ez = is 20 (rw (e, el, eu, ev, ez)) ∙ whole_20 p
