-- Which mole numbers, volumes and fractions have conditions of criticality and stability alike in the coefficients of first order below w. Assumes nothing.
use mathlib.Core.Path.{◌≡◌, refl, ◌∙◌}
use Prim.Native.Nat.{ℕ, ◌≤◌, ◌<◌}
use native.Mathlib.Omega.{arith}
use mathlib.Core.Bool.{Bool, true, false, cond, ◌||◌}
use mathlib.Core.List.{List}
use lib.Dec.{eqb}
use lib.Ieee.{Float, eq}
use borrow.Author.Tests.{eqb-true}
use Rattle.float.specs.Ops.{f0, f1}
use Rattle.jet.specs.Coefficients.{at, Upto, number_of, marked_of, with_mark_of, root_of, logarithm_of}
use Rattle.jet.specs.Ops.{◌⊞◌, ◌⊟◌, ◌⊠◌, ◌⧄◌}
use Rattle.jet.proofs.Prefix.{head_same}
use Rattle.jet.proofs.Depends.{sum_first, difference_first, product_first, quotient_first, root_first, logarithm_first, derivative_first, mark_first}
use Rattle.linear.specs.SmallestEv.{half, smallest_of, vector_of}
use Rattle.linear.proofs.Eigenvectors.{smallest_cong, vector_cong}
use Rattle.eos.specs.declared.types.Blend.{Blend}
use Rattle.eos.proofs.Energy.{helmholtz_cong, volume_cong}
use Rattle.eos.proofs.Totals.{total_cong}
use Rattle.evaluations.specs.Critical.{energy_over_t, along, second_along, dmu_dn, matrix, eigenvalue, eigenvector, moved, moved_along, ideal_term, ideal_gas, third_derivative}
use Rattle.evaluations.specs.Entries.{Width}

-- ---- which jets keep each definition alike

module _ (w : ℕ) where
  pub entry_cong : (h h' si si' sj sj' : List Float) (one : Float) → Upto w h h' → Upto w si si' → Upto w sj sj' → Upto w (h ⊠ (si ⊠ sj) ⊞ number_of one) (h' ⊠ (si' ⊠ sj') ⊞ number_of one)
  entry_cong h h' si si' sj sj' one H Si SJ = sum_first w _ _ (product_first w h h' H _ _ (product_first w si si' Si sj sj' SJ)) (number_of one) (number_of one) refl

  pub moved_cong : (z z' u u' : List Float) → Upto w z z' → Upto w u u' → Upto w (moved z u) (moved z' u')
  unfolding moved
  moved_cong z z' u u' Z U = sum_first w z z' Z _ _ (product_first w _ _ (product_first w (root_of z) (root_of z') (root_first w z z' Z) u u' U) (marked_of 1 f0) (marked_of 1 f0) refl)

  along_cong : (z z' : ℕ → List Float) (direction : ℕ → Bool) (i : ℕ) → Upto w (z i) (z' i) → Upto w (along z direction i) (along z' direction i)
  unfolding along
  along_cong z z' direction i Z = branch (direction i)
    where
      branch : (x : Bool) → Upto w (cond x (with_mark_of 1 (z i)) (z i)) (cond x (with_mark_of 1 (z' i)) (z' i))
      branch true = mark_first w (z i) (z' i) Z 1
      branch false = Z

  pub ideal_cong : 1 ≤ w → (n n' v v' : List Float) → Upto w n n' → Upto w v v' → Upto w (ideal_term n v) (ideal_term n' v')
  unfolding ideal_term
  ideal_cong h n n' v v' N Vol = product_first w n n' N _ _ (rw (head_same w n n' h N) (branch (eq (at n' 0) f0)))
    where
      branch : (z : Bool) → Upto w (cond z (number_of f0) (logarithm_of (n ⧄ v) ⊟ number_of f1)) (cond z (number_of f0) (logarithm_of (n' ⧄ v') ⊟ number_of f1))
      branch true = refl
      branch false = difference_first w _ _ (logarithm_first w _ _ (quotient_first w n n' N v v' Vol)) (number_of f1) (number_of f1) refl

module _ (w : ℕ) (W : Width w) (b : Blend) (n : ℕ) (h : 1 ≤ n) (t : List Float) where
  pub energy_cong : (v v' : List Float) (moles moles' : ℕ → List Float) → Upto w v v' → ((i : ℕ) → i < n → Upto w (moles i) (moles' i)) → Upto w (energy_over_t b n t v moles) (energy_over_t b n t v' moles')
  unfolding energy_over_t
  energy_cong v v' moles moles' Vol M = quotient_first w _ _ (helmholtz_cong w n h b t v moles moles' M ∙ volume_cong w n h b t v v' moles' Vol) t t refl

  -- the ideal gas of mole numbers alike
  pub gas_cong : (v v' : List Float) (moles moles' : ℕ → List Float) → Upto w v v' → ((i : ℕ) → i < n → Upto w (moles i) (moles' i)) → Upto w (ideal_gas n moles v) (ideal_gas n moles' v')
  unfolding ideal_gas
  gas_cong v v' moles moles' Vol M = total_cong w n (λ i. ideal_term (moles i) v) (λ i. ideal_term (moles' i) v') h (λ i l. ideal_cong w W.some (moles i) (moles' i) v v' (M i l) Vol)

  -- the volumes v and v', and the fractions z and z'
  module _ (v v' : List Float) (z z' : ℕ → List Float) (Vol : Upto w v v') (Z : (i : ℕ) → i < n → Upto w (z i) (z' i)) where
    second_cong : (direction : ℕ → Bool) → Upto w (second_along b n t v z direction) (second_along b n t v' z' direction)
    unfolding second_along
    second_cong direction = derivative_first w 2 _ _ W.fours (energy_cong v v' (along z direction) (along z' direction) Vol (λ i l. along_cong w z z' direction i (Z i l)))

    dmu_cong : (i j : ℕ) → Upto w (dmu_dn b n t v z i j) (dmu_dn b n t v' z' i j)
    unfolding dmu_dn
    dmu_cong i j = branch (eqb i j)
      where
        branch : (x : Bool)
            → Upto w (cond x (second_along b n t v z (eqb i)) ((second_along b n t v z (λ k. eqb i k || eqb j k) ⊟ second_along b n t v z (eqb i) ⊟ second_along b n t v z (eqb j)) ⊠ number_of half))
            (cond x (second_along b n t v' z' (eqb i)) ((second_along b n t v' z' (λ k. eqb i k || eqb j k) ⊟ second_along b n t v' z' (eqb i) ⊟ second_along b n t v' z' (eqb j)) ⊠ number_of half))
        branch true = second_cong (eqb i)
        branch false =
            product_first w _ _ (difference_first w _ _ (difference_first w _ _ (second_cong (λ k. eqb i k || eqb j k)) _ _ (second_cong (eqb i))) _ _ (second_cong (eqb j)))
            (number_of half) (number_of half) refl

    matrix_cong : (i j : ℕ) → i < n → j < n → Upto w (matrix b n t v z i j) (matrix b n t v' z' i j)
    unfolding matrix
    matrix_cong i j hi hj = entry_cong w _ _ _ _ _ _ (cond (eqb i j) f1 f0) (dmu_cong i j) (root_first w (z i) (z' i) (Z i hi)) (root_first w (z j) (z' j) (Z j hj))

    pub eigenvalue_cong : Upto w (eigenvalue b n t v z) (eigenvalue b n t v' z')
    unfolding eigenvalue
    eigenvalue_cong = branch (eqb n 2) refl
      where
        branch : (x : Bool) → eqb n 2 ≡ x
            → Upto w (cond x (smallest_of (matrix b n t v z 0 0) (matrix b n t v z 0 1) (matrix b n t v z 1 1)) (matrix b n t v z 0 0))
            (cond x (smallest_of (matrix b n t v' z' 0 0) (matrix b n t v' z' 0 1) (matrix b n t v' z' 1 1)) (matrix b n t v' z' 0 0))
        branch true e = let q = eqb-true n 2 e in smallest_cong w _ _ _ _ _ _ (matrix_cong 0 0 h h) (matrix_cong 0 1 h (omega arith)) (matrix_cong 1 1 (omega arith) (omega arith))
        branch false e = matrix_cong 0 0 h h

    vector_same : (i : ℕ) → Upto w (eigenvector b n t v z i) (eigenvector b n t v' z' i)
    unfolding eigenvector
    vector_same i = branch (eqb n 2) refl
      where
        branch : (x : Bool) → eqb n 2 ≡ x
            → Upto w (cond x (vector_of (matrix b n t v z 0 0) (matrix b n t v z 0 1) (matrix b n t v z 1 1) i) (number_of f1))
            (cond x (vector_of (matrix b n t v' z' 0 0) (matrix b n t v' z' 0 1) (matrix b n t v' z' 1 1) i) (number_of f1))
        branch true e = let q = eqb-true n 2 e in vector_cong w _ _ _ _ _ _ (matrix_cong 0 0 h h) (matrix_cong 0 1 h (omega arith)) (matrix_cong 1 1 (omega arith) (omega arith)) W.some i
        branch false e = refl

    pub third_cong : Upto w (third_derivative b n t v z) (third_derivative b n t v' z')
    unfolding third_derivative moved_along
    third_cong =
        let M : (i : ℕ) → i < n → Upto w (moved_along b n t v z i) (moved_along b n t v' z' i) = λ i l. moved_cong w (z i) (z' i) _ _ (Z i l) (vector_same i) in
        derivative_first w 3 _ _ W.fours (sum_first w _ _ (energy_cong v v' _ _ Vol M) _ _ (gas_cong v v' _ _ Vol M))
