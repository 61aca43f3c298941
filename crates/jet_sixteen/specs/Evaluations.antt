-- The evaluations of kinds 1 to 8 in jets of 16, formula by formula as `eos`, `linear` and `evaluations` have them in jets of 32, and a request's sealed bytes by these. Definitions
-- only.
use Rattle.std.specs.Prelude.{ℕ, ◌+◌, ◌-◌, ◌*◌, Bool, cond, ◌||◌, List, eqb, Float}
use Rattle.std.specs.Float.Ieee.{eq, le}
use Rattle.float.specs.Ops.{◌⊕◌, ◌⊖◌, ◌⊗◌, ◌⊘◌, f0, f1, f2, f4}
use Rattle.float.specs.Ln.{ln_of}
use Rattle.jet.specs.Coefficients.{at}
use Rattle.linear.specs.SmallestEv.{half}
use Rattle.eos.specs.declared.types.Blend.{Blend}
use Rattle.eos.specs.Indices.{fold_from}
use Rattle.eos.specs.Jets.{pair_of}
use Rattle.eos.specs.Cubic.{nth, components_of, sqrt2}
use Rattle.evaluations.specs.declared.types.Pressure.{Pressure}
use Rattle.evaluations.specs.declared.types.Criticality.{Criticality}
use Rattle.evaluations.specs.declared.types.PressureCriticality.{PressureCriticality}
use Rattle.evaluations.specs.declared.types.Stability.{Stability}
use Rattle.evaluations.specs.Residual.{derived, pressure_from, slope_from, curvature_from}
use Rattle.evaluations.specs.Critical.{critical_count, criticality_of}
use Rattle.solver.specs.Search.{Evaluator, slope, curvature, potential, criticality, stability, criticality_t, criticality_p}
use Rattle.reader.specs.View.{view}
use Rattle.records.specs.Outcome.{end_of, job_course}
use Rattle.records.specs.Record.{sealed_bytes}
use Rattle.jet_sixteen.specs.Sixteen.{number16, marked16, with_mark16, root16, logarithm16, derivative16, ◌⊞'◌, ◌⊟'◌, ◌⊠'◌, ◌⧄'◌}

unfoldable pub recip16 : List Float → List Float
recip16 a = number16 f1 ⧄' a

unfoldable pub total16 : ℕ → (ℕ → List Float) → List Float
total16 n f = fold_from (λ s i. s ⊞' f i) (n - 1) 1 (f 0)

-- ---- cubic.rs

unfoldable pub ak16 : List Float → Float → Float → Float → List Float
ak16 t tc kappa a = let y = (number16 f1 ⊟' root16 (t ⧄' number16 tc)) ⊠' number16 kappa ⊞' number16 f1 in y ⊠' y ⊠' number16 a

unfoldable pub mix_term16 : List Float → List Float → List Float → List Float → Float → List Float
mix_term16 ai aj xi xj k = root16 (ai ⊠' aj) ⊠' (xi ⊠' xj ⊠' number16 (f1 ⊖ k))

unfoldable pub ak_mix16 : ℕ → (ℕ → List Float) → (ℕ → List Float) → (ℕ → ℕ → Float) → List Float
ak_mix16 n ak x k = fold_from (λ m i. fold_from (λ r j. r ⊞' mix_term16 (ak i) (ak j) (x i) (x j) (k i j)) n 0 m) n 0 (number16 f0)

unfoldable pub b_mix16 : ℕ → (ℕ → List Float) → (ℕ → Float) → List Float
b_mix16 n x b = total16 n (λ i. x i ⊠' number16 (b i))

unfoldable pub repulsion16 : List Float → List Float → List Float
repulsion16 v b = logarithm16 (v ⧄' (v ⊟' b))

unfoldable pub log_ratio16 : List Float → List Float → List Float
log_ratio16 v b = logarithm16 ((v ⊞' b ⊠' number16 (f1 ⊕ sqrt2)) ⧄' (v ⊞' b ⊠' number16 (f1 ⊖ sqrt2)))

unfoldable pub attraction16 : List Float → List Float → List Float → List Float → List Float
attraction16 ak b t v = ak ⧄' (b ⊠' number16 sqrt2 ⊠' number16 f2 ⊠' t) ⊠' log_ratio16 v b

unfoldable pub contribution16 : List Float → List Float → List Float → List Float → List Float
contribution16 density ak b t = density ⊠' (repulsion16 (recip16 density) b ⊟' attraction16 ak b t (recip16 density))

-- ---- residual.rs

unfoldable pub molefracs16 : ℕ → (ℕ → List Float) → ℕ → List Float
molefracs16 n ρ i = ρ i ⧄' total16 n ρ

abbrev pub aks16 : Blend → List Float → ℕ → List Float
aks16 b t i = ak16 t (nth b.tc i) (nth b.kappa i) (nth b.a i)

unfoldable pub energy_density16 : Blend → ℕ → List Float → (ℕ → List Float) → List Float
energy_density16 b n t ρ =
    let x = molefracs16 n ρ in
    contribution16 (total16 n ρ) (ak_mix16 n (aks16 b t) x (λ i j. nth b.k_ij (8 * i + j))) (b_mix16 n x (nth b.b)) t

unfoldable pub helmholtz16 : Blend → ℕ → List Float → List Float → (ℕ → List Float) → List Float
helmholtz16 b n t v moles = (number16 f0 ⊞' energy_density16 b n t (λ i. moles i ⧄' v)) ⊠' t ⊠' v

unfoldable pub fractions16 : Blend → ℕ → List Float
fractions16 b i = number16 (nth b.x i)

unfoldable pub along_volume16 : Blend → Float → Float → List Float
along_volume16 b t v = helmholtz16 b (components_of b) (number16 t) (marked16 1 v) (fractions16 b)

unfoldable pub p_dpdrho16 : Blend → Float → Float → Pressure
p_dpdrho16 b t ρ =
    let v = f1 ⊘ ρ in
    let a = along_volume16 b t v in
    record { p = pressure_from t ρ a; dp_drho = slope_from t v a; d2p_drho2 = f0 }

unfoldable pub p_dpdrho_d2pdrho2₁₆ : Blend → Float → Float → Pressure
p_dpdrho_d2pdrho2₁₆ b t ρ =
    let v = f1 ⊘ ρ in
    let a = along_volume16 b t v in
    record { p = pressure_from t ρ a; dp_drho = slope_from t v a; d2p_drho2 = curvature_from v a }

unfoldable pub chemical_potential16 : Blend → Float → Float → Float
chemical_potential16 b t ρ =
    let v = f1 ⊘ ρ in
    let a = along_volume16 b t v in
    at a 0 ⊖ derived 1 a ⊗ v ⊕ t ⊗ ln_of ρ

-- ---- critical_point.rs

unfoldable pub smallest16 : (m11 m12 m22 : List Float) → List Float
smallest16 m11 m12 m22 = (m11 ⊞' m22 ⊟' root16 ((m11 ⊟' m22) ⊠' (m11 ⊟' m22) ⊞' number16 f4 ⊠' m12 ⊠' m12)) ⊠' number16 half

unfoldable pub vector16 : (m11 m12 m22 : List Float) (i : ℕ) → List Float
vector16 m11 m12 m22 i =
    let y = smallest16 m11 m12 m22 ⊟' m11 in
    cond (eq (at m12 0) f0) (number16 (cond (eqb i (cond (le (at m11 0) (at m22 0)) 0 1)) f1 f0)) (cond (eqb i 0) m12 y ⧄' root16 (m12 ⊠' m12 ⊞' y ⊠' y))

unfoldable pub energy_over_t16 : Blend → (n : ℕ) → List Float → List Float → (ℕ → List Float) → List Float
energy_over_t16 b n t v moles = helmholtz16 b n t v moles ⧄' t

module _ (b : Blend) (n : ℕ) (t v : List Float) (z : ℕ → List Float) where
  unfoldable pub second_along16 : (direction : ℕ → Bool) → List Float
  second_along16 direction = derivative16 2 (energy_over_t16 b n t v (λ i. cond (direction i) (with_mark16 1 (z i)) (z i)))

  unfoldable pub dmu_dn16 : (i j : ℕ) → List Float
  dmu_dn16 i j = cond (eqb i j) (second_along16 (eqb i)) ((second_along16 (λ k. eqb i k || eqb j k) ⊟' second_along16 (eqb i) ⊟' second_along16 (eqb j)) ⊠' number16 half)

  unfoldable pub matrix16 : (i j : ℕ) → List Float
  matrix16 i j = dmu_dn16 i j ⊠' (root16 (z i) ⊠' root16 (z j)) ⊞' number16 (cond (eqb i j) f1 f0)

  unfoldable pub eigenvalue16 : List Float
  eigenvalue16 = cond (eqb n 2) (smallest16 (matrix16 0 0) (matrix16 0 1) (matrix16 1 1)) (matrix16 0 0)

  unfoldable pub eigenvector16 : (i : ℕ) → List Float
  eigenvector16 i = cond (eqb n 2) (vector16 (matrix16 0 0) (matrix16 0 1) (matrix16 1 1) i) (number16 f1)

  unfoldable pub moved16 : (i : ℕ) → List Float
  moved16 i = z i ⊞' root16 (z i) ⊠' eigenvector16 i ⊠' marked16 1 f0

unfoldable pub ideal_term16 : List Float → List Float → List Float
ideal_term16 n v = n ⊠' cond (eq (at n 0) f0) (number16 f0) (logarithm16 (n ⧄' v) ⊟' number16 f1)

unfoldable pub third16 : Blend → (n : ℕ) → (t v : List Float) (z : ℕ → List Float) → List Float
third16 b n t v z = let m = moved16 b n t v z in derivative16 3 (energy_over_t16 b n t v m ⊞' total16 n (λ i. ideal_term16 (m i) v))

unfoldable pub criticality_conditions16 : Blend → Float → Float → Criticality
criticality_conditions16 b temperature density =
    let n = critical_count b in
    let t = marked16 4 temperature in
    let v = recip16 (marked16 8 density) in
    criticality_of (eigenvalue16 b n t v (fractions16 b)) (third16 b n t v (fractions16 b))

unfoldable pub stability_condition16 : Blend → Float → Float → Stability
stability_condition16 b temperature density =
    let l = eigenvalue16 b 1 (number16 temperature) (recip16 (marked16 8 density)) (fractions16 b) in
    record { f = at l 0; df = at l 8 }

unfoldable pub criticality_conditions_t16 : Blend → (temperature ρ0 ρ1 : Float) → Criticality
criticality_conditions_t16 b temperature ρ0 ρ1 =
    let t = number16 temperature in
    let r0 = marked16 4 ρ0 in
    let r1 = marked16 8 ρ1 in
    let density = r0 ⊞' r1 in
    let v = recip16 density in
    let z = pair_of (r0 ⧄' density) (r1 ⧄' density) in
    criticality_of (eigenvalue16 b 2 t v z) (third16 b 2 t v z)

-- ---- a request's evaluations and its sealed bytes

-- Kind 9's evaluation alone has three unknowns, and so no form in jets of 16: any other stands for it here.
module _ (other : (pressure temperature ρ0 ρ1 : Float) → PressureCriticality) where
  unfoldable pub evaluated16 : Blend → Evaluator
  evaluated16 b (slope t ρ) = p_dpdrho16 b t ρ
  evaluated16 b (curvature t ρ) = p_dpdrho_d2pdrho2₁₆ b t ρ
  evaluated16 b (potential t ρ) = chemical_potential16 b t ρ
  evaluated16 b (criticality t ρ) = criticality_conditions16 b t ρ
  evaluated16 b (stability t ρ) = stability_condition16 b t ρ
  evaluated16 b (criticality_t t ρ0 ρ1) = criticality_conditions_t16 b t ρ0 ρ1
  evaluated16 b (criticality_p p t ρ0 ρ1) = other p t ρ0 ρ1

  unfoldable pub sealed16 : (kind n : ℕ) → List ℕ → List ℕ
  sealed16 kind n block = let job = view kind n block in sealed_bytes (end_of (evaluated16 job.blend) (job_course job))
