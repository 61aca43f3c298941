-- The evaluations of `critical_point_binary_t` and `critical_point_binary_p` of state/critical_point.rs: the conditions of two components at two partial densities. Definitions
-- only.
use Rattle.std.specs.Prelude.{ℕ, List, Float}
use Rattle.jet.specs.Coefficients.{at, number_of, marked_of, with_mark_of, recip_of, negation_of, derivative_of}
use Rattle.jet.specs.Ops.{◌⊞◌, ◌⊠◌, ◌⧄◌}
use Rattle.eos.specs.declared.types.Blend.{Blend}
use Rattle.eos.specs.Jets.{pair_of}
use Rattle.eos.specs.Helmholtz.{helmholtz}
use Rattle.evaluations.specs.declared.types.Condition.{Condition}
use Rattle.evaluations.specs.declared.types.Criticality.{Criticality}
use Rattle.evaluations.specs.declared.types.PressureCriticality.{PressureCriticality}
use Rattle.evaluations.specs.Critical.{eigenvalue, third_derivative, criticality_of}

-- "rho.sum()", and "partial_density[0] + partial_density[1]"
unfoldable pub density_of : (ρ0 ρ1 : List Float) → List Float
density_of ρ0 ρ1 = ρ0 ⊞ ρ1

-- "rho / density"
unfoldable pub molefracs_of : (ρ0 ρ1 : List Float) → ℕ → List Float
molefracs_of ρ0 ρ1 = pair_of (ρ0 ⧄ density_of ρ0 ρ1) (ρ1 ⧄ density_of ρ0 ρ1)

-- "criticality_conditions(&eos.lift(), t, density, &molefracs)": the two conditions
unfoldable pub binary_eigenvalue : Blend → (t ρ0 ρ1 : List Float) → List Float
binary_eigenvalue b t ρ0 ρ1 = eigenvalue b 2 t (recip_of (density_of ρ0 ρ1)) (molefracs_of ρ0 ρ1)

unfoldable pub binary_third : Blend → (t ρ0 ρ1 : List Float) → List Float
binary_third b t ρ0 ρ1 = third_derivative b 2 t (recip_of (density_of ρ0 ρ1)) (molefracs_of ρ0 ρ1)

-- `criticality_conditions` at a plain temperature, with the Jacobian by the partial densities, which carry e1 and e2
unfoldable pub criticality_conditions_t : Blend → (temperature ρ0 ρ1 : Float) → Criticality
criticality_conditions_t b temperature ρ0 ρ1 =
    let t = number_of temperature in
    let r0 = marked_of 4 ρ0 in
    let r1 = marked_of 8 ρ1 in
    criticality_of (binary_eigenvalue b t r0 r1) (binary_third b t r0 r1)

-- "-p_calc + pressure", with "p_calc = -da + density * temperature" and da "first_derivative(a, density.recip())"
unfoldable pub pressure_condition : Blend → (pressure : Float) (t ρ0 ρ1 : List Float) → List Float
pressure_condition b pressure t ρ0 ρ1 =
    let density = density_of ρ0 ρ1 in
    let da = derivative_of 1 (helmholtz b 2 t (with_mark_of 1 (recip_of density)) (molefracs_of ρ0 ρ1)) in
    negation_of (negation_of da ⊞ density ⊠ t) ⊞ number_of pressure

-- a condition with its derivatives by e1, e2 and e3
unfoldable pub condition_of : List Float → Condition
condition_of x = record { value = at x 0; d0 = at x 4; d1 = at x 8; d2 = at x 16 }

-- `criticality_conditions_p`, with the Jacobian by the temperature and the partial densities, which carry e1, e2 and e3
unfoldable pub criticality_conditions_p : Blend → (pressure temperature ρ0 ρ1 : Float) → PressureCriticality
criticality_conditions_p b pressure temperature ρ0 ρ1 =
    let t = marked_of 4 temperature in
    let r0 = marked_of 8 ρ0 in
    let r1 = marked_of 16 ρ1 in
    record { l = condition_of (binary_eigenvalue b t r0 r1); c2 = condition_of (binary_third b t r0 r1); p = condition_of (pressure_condition b pressure t r0 r1) }
