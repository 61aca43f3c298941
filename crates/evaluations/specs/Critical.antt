-- `criticality_conditions` and `stability_condition` of state/critical_point.rs on jets, over the number n of components, one or two: at the temperature t, the molar volume v
-- and the fractions z, e0 on the mole numbers or s. Definitions only.
use Rattle.std.specs.Prelude.{ℕ, Bool, cond, ◌||◌, List, eqb, Float}
use Rattle.std.specs.Float.Ieee.{eq}
use Rattle.float.specs.Ops.{f0, f1}
use Rattle.jet.specs.Coefficients.{at, number_of, marked_of, with_mark_of, recip_of, root_of, logarithm_of, derivative_of}
use Rattle.jet.specs.Ops.{◌⊞◌, ◌⊟◌, ◌⊠◌, ◌⧄◌}
use Rattle.linear.specs.SmallestEv.{half, smallest_of, vector_of}
use Rattle.eos.specs.declared.types.Blend.{Blend}
use Rattle.evaluations.specs.declared.types.Criticality.{Criticality}
use Rattle.evaluations.specs.declared.types.Stability.{Stability}
use Rattle.eos.specs.Indices.{jet_total}
use Rattle.eos.specs.Cubic.{nth}
use Rattle.eos.specs.Helmholtz.{helmholtz}

-- "eos.lift().residual_helmholtz_energy(t, v, &n) / t"
unfoldable pub energy_over_t : Blend → (n : ℕ) → List Float → List Float → (ℕ → List Float) → List Float
energy_over_t b n t v moles = helmholtz b n t v moles ⧄ t

-- the fractions as mole numbers, those of a direction with the mark e0
unfoldable pub along : (z : ℕ → List Float) (direction : ℕ → Bool) → ℕ → List Float
along z direction i = cond (direction i) (with_mark_of 1 (z i)) (z i)

module _ (b : Blend) (n : ℕ) (t v : List Float) (z : ℕ → List Float) where
  -- the second derivative in a direction
  unfoldable pub second_along : (direction : ℕ → Bool) → List Float
  second_along direction = derivative_of 2 (energy_over_t b n t v (along z direction))

  -- `dmu_dn`, entry i, j: "three jets in directions (1,0), (0,1) and (1,1); the mixed entry is half of the third less the first and less the second"
  unfoldable pub dmu_dn : (i j : ℕ) → List Float
  dmu_dn i j = cond (eqb i j) (second_along (eqb i)) ((second_along (λ k. eqb i k || eqb j k) ⊟ second_along (eqb i) ⊟ second_along (eqb j)) ⊠ number_of half)

  -- M, entry i, j: "m.component_mul(&z_mix) + OMatrix::identity_generic(r, c)", z_mix from "molefracs.map(|z| z.sqrt())"
  unfoldable pub matrix : (i j : ℕ) → List Float
  matrix i j = dmu_dn i j ⊠ (root_of (z i) ⊠ root_of (z j)) ⊞ number_of (cond (eqb i j) f1 f0)

  -- "smallest_ev(m)": of two components document 02's rules, "of one component .. the entry, vector 1"
  unfoldable pub eigenvalue : List Float
  eigenvalue = cond (eqb n 2) (smallest_of (matrix 0 0) (matrix 0 1) (matrix 1 1)) (matrix 0 0)

  unfoldable pub eigenvector : (i : ℕ) → List Float
  eigenvector i = cond (eqb n 2) (vector_of (matrix 0 0) (matrix 0 1) (matrix 1 1) i) (number_of f1)

-- "n + sqrt_z.component_mul(&u).map(Dual3::from_re) * s", with s = 0 + e0: of a fraction z and the entry u, and of each component
unfoldable pub moved : (z u : List Float) → List Float
moved z u = z ⊞ root_of z ⊠ u ⊠ marked_of 1 f0

unfoldable pub moved_along : Blend → (n : ℕ) → (t v : List Float) (z : ℕ → List Float) (i : ℕ) → List Float
moved_along b n t v z i = moved (z i) (eigenvector b n t v z i)

-- "n.dot(..)": a component's term, where `is_zero` looks at position 0, and their sum
unfoldable pub ideal_term : List Float → List Float → List Float
ideal_term n v = n ⊠ cond (eq (at n 0) f0) (number_of f0) (logarithm_of (n ⧄ v) ⊟ number_of f1)

unfoldable pub ideal_gas : (n : ℕ) → (ℕ → List Float) → List Float → List Float
ideal_gas n moles v = jet_total n (λ i. ideal_term (moles i) v)

-- c2: the third derivative by s
unfoldable pub third_derivative : Blend → (n : ℕ) → (t v : List Float) (z : ℕ → List Float) → List Float
third_derivative b n t v z = derivative_of 3 (energy_over_t b n t v (moved_along b n t v z) ⊞ ideal_gas n (moved_along b n t v z) v)

-- how many components a critical point is of: two, or else the first alone
unfoldable pub critical_count : Blend → ℕ
critical_count b = cond (eqb b.n 2) 2 1

-- the blend's fractions, plain numbers
unfoldable pub fractions_of : Blend → ℕ → List Float
fractions_of b i = number_of (nth b.x i)

-- the two conditions with their derivatives by the unknowns that carry e1 and e2
unfoldable pub criticality_of : (l c : List Float) → Criticality
criticality_of l c = record { l = at l 0; c2 = at c 0; dl_d0 = at l 4; dl_d1 = at l 8; dc2_d0 = at c 4; dc2_d1 = at c 8 }

-- `criticality_conditions` with the Jacobian by the temperature, which carries e1, and the density, which carries e2
unfoldable pub criticality_conditions : Blend → Float → Float → Criticality
criticality_conditions b temperature density =
    let n = critical_count b in
    let t = marked_of 4 temperature in
    let v = recip_of (marked_of 8 density) in
    criticality_of (eigenvalue b n t v (fractions_of b)) (third_derivative b n t v (fractions_of b))

-- `stability_condition` of the first component, with its derivative by the density
unfoldable pub stability_condition : Blend → Float → Float → Stability
stability_condition b temperature density =
    let l = eigenvalue b 1 (number_of temperature) (recip_of (marked_of 8 density)) (fractions_of b) in
    record { f = at l 0; df = at l 8 }
