-- The evaluations along the density: `p_dpdrho` and `p_dpdrho_d2pdrho2` of residual.rs, `_chemical_potential` of density_iteration.rs. Definitions only.
use Rattle.std.specs.Prelude.{ℕ, List, Float}
use Rattle.std.specs.Float.Ieee.{neg}
use Rattle.float.specs.Ops.{◌⊕◌, ◌⊖◌, ◌⊗◌, ◌⊘◌, f0, f1, f2}
use Rattle.float.specs.Ln.{ln_of}
use Rattle.jet.specs.Coefficients.{at, number_of, marked_of, factorial_of}
use Rattle.eos.specs.declared.types.Blend.{Blend}
use Rattle.eos.specs.Cubic.{nth, components_of}
use Rattle.eos.specs.Helmholtz.{helmholtz}
use Rattle.evaluations.specs.declared.types.Pressure.{Pressure}

-- the Helmholtz energy at a temperature and a molar volume that carries e0, with the blend's fractions
unfoldable pub along_volume : Blend → Float → Float → List Float
along_volume b t v = helmholtz b (components_of b) (number_of t) (marked_of 1 v) (λ i. number_of (nth b.x i))

-- "A k-th derivative by e0 is k factorial times that coefficient"
unfoldable pub derived : ℕ → List Float → Float
derived k a = factorial_of k ⊗ at a k

-- "-da + temperature * density" and "molar_volume * molar_volume * d2a + temperature"
unfoldable pub pressure_from : Float → Float → List Float → Float
pressure_from t ρ a = neg (derived 1 a) ⊕ t ⊗ ρ

unfoldable pub slope_from : Float → Float → List Float → Float
slope_from t v a = v ⊗ v ⊗ derived 2 a ⊕ t

-- "-molar_volume * molar_volume * molar_volume * (d2a * 2.0 + molar_volume * d3a)"
unfoldable pub curvature_from : Float → List Float → Float
curvature_from v a = neg v ⊗ v ⊗ v ⊗ (derived 2 a ⊗ f2 ⊕ v ⊗ derived 3 a)

-- `p_dpdrho`; the record's third float is +0
unfoldable pub p_dpdrho : Blend → Float → Float → Pressure
p_dpdrho b t ρ =
    let v = f1 ⊘ ρ in
    let a = along_volume b t v in
    record { p = pressure_from t ρ a; dp_drho = slope_from t v a; d2p_drho2 = f0 }

-- `p_dpdrho_d2pdrho2`
unfoldable pub p_dpdrho_d2pdrho2 : Blend → Float → Float → Pressure
p_dpdrho_d2pdrho2 b t ρ =
    let v = f1 ⊘ ρ in
    let a = along_volume b t v in
    record { p = pressure_from t ρ a; dp_drho = slope_from t v a; d2p_drho2 = curvature_from v a }

-- `_chemical_potential` of density_iteration.rs: "a_res - da_res * molar_volume + temperature * density.ln()"
unfoldable pub chemical_potential : Blend → Float → Float → Float
chemical_potential b t ρ =
    let v = f1 ⊘ ρ in
    let a = along_volume b t v in
    at a 0 ⊖ derived 1 a ⊗ v ⊕ t ⊗ ln_of ρ
