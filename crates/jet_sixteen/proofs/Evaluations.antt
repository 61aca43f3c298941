-- Each formula of the evaluations of kinds 1 to 8 has in jets of 32 the first sixteen coefficients that it has in jets of 16. Assumes nothing.
use mathlib.Core.Path.{◌≡◌}
use Prim.Native.Nat.{ℕ}
use native.Mathlib.Omega.{arith}
use mathlib.Core.Bool.{Bool, cond, ◌||◌}
use mathlib.Core.List.{List}
use lib.Dec.{eqb}
use lib.Ieee.{Float, eq, le}
use Rattle.float.specs.Ops.{◌⊕◌, ◌⊖◌, ◌⊘◌, f0, f1, f2, f4}
use Rattle.jet.specs.Coefficients.{at, square_of}
use Rattle.linear.specs.SmallestEv.{half, smallest_of, length_of, unit_of, vector_of}
use Rattle.eos.specs.declared.types.Blend.{Blend}
use Rattle.eos.specs.Jets.{pair_of}
use Rattle.eos.specs.Cubic.{nth, components_of, sqrt2, ak_of, mix_term, mix_row, ak_mix, b_mix, repulsion, log_ratio, attraction, contribution}
use Rattle.eos.specs.Helmholtz.{partial_density, molefracs, energy_density, helmholtz}
use Rattle.evaluations.specs.Residual.{along_volume, derived, pressure_from, slope_from, curvature_from, p_dpdrho, p_dpdrho_d2pdrho2, chemical_potential}
use Rattle.evaluations.specs.Critical.{energy_over_t, along, second_along, dmu_dn, matrix, eigenvalue, eigenvector, moved, moved_along, ideal_term, ideal_gas, third_derivative, critical_count, fractions_of, criticality_of, criticality_conditions, stability_condition}
use Rattle.evaluations.specs.CriticalBinary.{density_of, molefracs_of, binary_eigenvalue, binary_third, criticality_conditions_t}
use Rattle.jet_sixteen.specs.Evaluations.{ak16, mix_term16, ak_mix16, b_mix16, repulsion16, log_ratio16, attraction16, contribution16, molefracs16, energy_density16, helmholtz16, fractions16, along_volume16, p_dpdrho16, p_dpdrho_d2pdrho2₁₆, chemical_potential16, smallest16, vector16, energy_over_t16, second_along16, dmu_dn16, matrix16, eigenvalue16, eigenvector16, moved16, ideal_term16, third16, criticality_conditions16, stability_condition16, criticality_conditions_t16}
use Rattle.jet_sixteen.proofs.Operations.{Sixteen, reads, numbers, marks, with_marks, sums, differences, products, quotients, roots, logarithms, derivatives, recips, branches, folds, totals}

-- jets by their index
abbrev All : (f g : ℕ → List Float) → Type 0
All f g = (i : ℕ) → Sixteen (f i) (g i)

-- ---- cubic.rs

ak_same : {t x : List Float} (tc kappa a : Float) → Sixteen t x → Sixteen (ak_of t tc kappa a) (ak16 x tc kappa a)
unfolding ak_of square_of ak16
ak_same tc kappa a h =
    let y = sums (products (differences (numbers f1) (roots (quotients h (numbers tc)))) (numbers kappa)) (numbers f1) in
    products (products y y) (numbers a)

term_same : {ai aj xi xj bi bj yi yj : List Float} (k : Float) → Sixteen ai bi → Sixteen aj bj → Sixteen xi yi → Sixteen xj yj → Sixteen (mix_term ai aj xi xj k) (mix_term16 bi bj yi yj k)
unfolding mix_term mix_term16
term_same k ai aj xi xj = products (roots (products ai aj)) (products (products xi xj) (numbers (f1 ⊖ k)))

mix_same : (n : ℕ) (ak x ak' x' : ℕ → List Float) (k : ℕ → ℕ → Float) → All ak ak' → All x x' → Sixteen (ak_mix n ak x k) (ak_mix16 n ak' x' k)
unfolding ak_mix mix_row ak_mix16
mix_same n ak x ak' x' k ha hx = folds _ _ (λ s r i e. folds _ _ (λ u w j d. sums d (term_same (k i j) (ha i) (ha j) (hx i) (hx j))) n 0 e) n 0 (numbers f0)

b_same : (n : ℕ) (x x' : ℕ → List Float) (b : ℕ → Float) → All x x' → Sixteen (b_mix n x b) (b_mix16 n x' b)
unfolding b_mix b_mix16
b_same n x x' b h = totals n _ _ (λ i. products (h i) (numbers (b i)))

repulsion_same : {v b v' b' : List Float} → Sixteen v v' → Sixteen b b' → Sixteen (repulsion v b) (repulsion16 v' b')
unfolding repulsion repulsion16
repulsion_same v b = logarithms (quotients v (differences v b))

ratio_same : {v b v' b' : List Float} → Sixteen v v' → Sixteen b b' → Sixteen (log_ratio v b) (log_ratio16 v' b')
unfolding log_ratio log_ratio16
ratio_same v b = logarithms (quotients (sums v (products b (numbers (f1 ⊕ sqrt2)))) (sums v (products b (numbers (f1 ⊖ sqrt2)))))

attraction_same : {ak b t v ak' b' t' v' : List Float} → Sixteen ak ak' → Sixteen b b' → Sixteen t t' → Sixteen v v' → Sixteen (attraction ak b t v) (attraction16 ak' b' t' v')
unfolding attraction attraction16
attraction_same ak b t v = products (quotients ak (products (products (products b (numbers sqrt2)) (numbers f2)) t)) (ratio_same v b)

contribution_same : {d ak b t d' ak' b' t' : List Float} → Sixteen d d' → Sixteen ak ak' → Sixteen b b' → Sixteen t t' → Sixteen (contribution d ak b t) (contribution16 d' ak' b' t')
unfolding contribution contribution16
contribution_same d ak b t = let v = recips d in products d (differences (repulsion_same v b) (attraction_same ak b t v))

-- ---- residual.rs

fractions_same : (n : ℕ) (ρ r : ℕ → List Float) → All ρ r → All (molefracs n ρ) (molefracs16 n r)
unfolding molefracs molefracs16
fractions_same n ρ r h i = quotients (h i) (totals n ρ r h)

density_same : (b : Blend) (n : ℕ) {t t' : List Float} (ρ r : ℕ → List Float) → Sixteen t t' → All ρ r → Sixteen (energy_density b n t ρ) (energy_density16 b n t' r)
unfolding energy_density energy_density16
density_same b n ρ r t h =
    let x = fractions_same n ρ r h in
    contribution_same (totals n ρ r h) (mix_same n _ _ _ _ _ (λ i. ak_same (nth b.tc i) (nth b.kappa i) (nth b.a i) t) x) (b_same n _ _ (nth b.b) x) t

energy_same : (b : Blend) (n : ℕ) {t v t' v' : List Float} (m m' : ℕ → List Float) → Sixteen t t' → Sixteen v v' → All m m' → Sixteen (helmholtz b n t v m) (helmholtz16 b n t' v' m')
unfolding helmholtz partial_density helmholtz16
energy_same b n m m' t v h = products (products (sums (numbers f0) (density_same b n _ _ t (λ i. quotients (h i) v))) t) v

given_same : (b : Blend) → All (fractions_of b) (fractions16 b)
unfolding fractions_of fractions16
given_same b i = numbers (nth b.x i)

volume_same : (b : Blend) (t v : Float) → Sixteen (along_volume b t v) (along_volume16 b t v)
unfolding along_volume along_volume16 fractions16
volume_same b t v = energy_same b (components_of b) _ _ (numbers t) (marks 1 v) (λ i. numbers (nth b.x i))

pub slope_same : (b : Blend) (t ρ : Float) → p_dpdrho b t ρ ≡ p_dpdrho16 b t ρ
unfolding p_dpdrho p_dpdrho16 pressure_from slope_from derived
slope_same b t ρ = let h = volume_same b t (f1 ⊘ ρ) in rw (reads h 1 (omega arith), reads h 2 (omega arith))

pub curvature_same : (b : Blend) (t ρ : Float) → p_dpdrho_d2pdrho2 b t ρ ≡ p_dpdrho_d2pdrho2₁₆ b t ρ
unfolding p_dpdrho_d2pdrho2 p_dpdrho_d2pdrho2₁₆ pressure_from slope_from curvature_from derived
curvature_same b t ρ = let h = volume_same b t (f1 ⊘ ρ) in rw (reads h 1 (omega arith), reads h 2 (omega arith), reads h 3 (omega arith))

pub potential_same : (b : Blend) (t ρ : Float) → chemical_potential b t ρ ≡ chemical_potential16 b t ρ
unfolding chemical_potential chemical_potential16 derived
potential_same b t ρ = let h = volume_same b t (f1 ⊘ ρ) in rw (reads h 0 (omega arith), reads h 1 (omega arith))

-- ---- critical_point.rs

module _ {m11 m12 m22 n11 n12 n22 : List Float} (h11 : Sixteen m11 n11) (h12 : Sixteen m12 n12) (h22 : Sixteen m22 n22) where
  smallest_same : Sixteen (smallest_of m11 m12 m22) (smallest16 n11 n12 n22)
  unfolding smallest_of smallest16
  smallest_same =
      let d = differences h11 h22 in
      products (differences (sums h11 h22) (roots (sums (products d d) (products (products (numbers f4) h12) h12)))) (numbers half)

  vector_same : (i : ℕ) → Sixteen (vector_of m11 m12 m22 i) (vector16 n11 n12 n22 i)
  unfolding vector_of length_of unit_of vector16
  vector_same i =
      let y = differences smallest_same h11 in
      rw (reads h12 0 (omega arith), reads h11 0 (omega arith), reads h22 0 (omega arith))
      (branches (eq (at n12 0) f0) (numbers (cond (eqb i (cond (le (at n11 0) (at n22 0)) 0 1)) f1 f0)) (quotients (branches (eqb i 0) h12 y) (roots (sums (products h12 h12) (products y y)))))

ideal_same : {n v n' v' : List Float} → Sixteen n n' → Sixteen v v' → Sixteen (ideal_term n v) (ideal_term16 n' v')
unfolding ideal_term ideal_term16
ideal_same {n' = n'} n v = rw (reads n 0 (omega arith)) (products n (branches (eq (at n' 0) f0) (numbers f0) (differences (logarithms (quotients n v)) (numbers f1))))

module _ (b : Blend) (n : ℕ) {t v t' v' : List Float} (z z' : ℕ → List Float) (ht : Sixteen t t') (hv : Sixteen v v') (hz : All z z') where
  over_same : (m m' : ℕ → List Float) → All m m' → Sixteen (energy_over_t b n t v m) (energy_over_t16 b n t' v' m')
  unfolding energy_over_t energy_over_t16
  over_same m m' h = quotients (energy_same b n m m' ht hv h) ht

  second_same : (direction : ℕ → Bool) → Sixteen (second_along b n t v z direction) (second_along16 b n t' v' z' direction)
  unfolding second_along along second_along16
  second_same direction = derivatives (over_same _ _ (λ i. branches (direction i) (with_marks 1 (hz i)) (hz i))) 2

  dmu_same : (i j : ℕ) → Sixteen (dmu_dn b n t v z i j) (dmu_dn16 b n t' v' z' i j)
  unfolding dmu_dn dmu_dn16
  dmu_same i j =
      branches (eqb i j) (second_same (eqb i))
      (products (differences (differences (second_same (λ k. eqb i k || eqb j k)) (second_same (eqb i))) (second_same (eqb j))) (numbers half))

  matrix_same : (i j : ℕ) → Sixteen (matrix b n t v z i j) (matrix16 b n t' v' z' i j)
  unfolding matrix matrix16
  matrix_same i j = sums (products (dmu_same i j) (products (roots (hz i)) (roots (hz j)))) (numbers (cond (eqb i j) f1 f0))

  pub eigenvalue_same : Sixteen (eigenvalue b n t v z) (eigenvalue16 b n t' v' z')
  unfolding eigenvalue eigenvalue16
  eigenvalue_same = branches (eqb n 2) (smallest_same (matrix_same 0 0) (matrix_same 0 1) (matrix_same 1 1)) (matrix_same 0 0)

  eigenvector_same : (i : ℕ) → Sixteen (eigenvector b n t v z i) (eigenvector16 b n t' v' z' i)
  unfolding eigenvector eigenvector16
  eigenvector_same i = branches (eqb n 2) (vector_same (matrix_same 0 0) (matrix_same 0 1) (matrix_same 1 1) i) (numbers f1)

  moved_same : All (moved_along b n t v z) (moved16 b n t' v' z')
  unfolding moved_along moved moved16
  moved_same i = sums (hz i) (products (products (roots (hz i)) (eigenvector_same i)) (marks 1 f0))

  pub third_same : Sixteen (third_derivative b n t v z) (third16 b n t' v' z')
  unfolding third_derivative ideal_gas third16
  third_same = derivatives (sums (over_same _ _ moved_same) (totals n _ _ (λ i. ideal_same (moved_same i) hv))) 3

six_same : {l c l' c' : List Float} → Sixteen l l' → Sixteen c c' → criticality_of l c ≡ criticality_of l' c'
unfolding criticality_of
six_same l c = rw (reads l 0 (omega arith), reads l 4 (omega arith), reads l 8 (omega arith), reads c 0 (omega arith), reads c 4 (omega arith), reads c 8 (omega arith))

pub criticality_same : (b : Blend) (t ρ : Float) → criticality_conditions b t ρ ≡ criticality_conditions16 b t ρ
unfolding criticality_conditions criticality_conditions16
criticality_same b t ρ =
    let n = critical_count b in
    let v = recips (marks 8 ρ) in
    six_same (eigenvalue_same b n _ _ (marks 4 t) v (given_same b)) (third_same b n _ _ (marks 4 t) v (given_same b))

pub stability_same : (b : Blend) (t ρ : Float) → stability_condition b t ρ ≡ stability_condition16 b t ρ
unfolding stability_condition stability_condition16
stability_same b t ρ = let h = eigenvalue_same b 1 _ _ (numbers t) (recips (marks 8 ρ)) (given_same b) in rw (reads h 0 (omega arith), reads h 8 (omega arith))

pair_same : {x y x' y' : List Float} → Sixteen x x' → Sixteen y y' → All (pair_of x y) (pair_of x' y')
pair_same h k i = branches (eqb i 0) h k

pub criticality_t_same : (b : Blend) (t ρ0 ρ1 : Float) → criticality_conditions_t b t ρ0 ρ1 ≡ criticality_conditions_t16 b t ρ0 ρ1
unfolding criticality_conditions_t binary_eigenvalue binary_third density_of molefracs_of criticality_conditions_t16
criticality_t_same b t ρ0 ρ1 =
    let r0 = marks 4 ρ0 in
    let r1 = marks 8 ρ1 in
    let d = sums r0 r1 in
    let z = pair_same (quotients r0 d) (quotients r1 d) in
    six_same (eigenvalue_same b 2 _ _ (numbers t) (recips d) z) (third_same b 2 _ _ (numbers t) (recips d) z)
