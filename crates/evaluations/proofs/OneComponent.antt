-- What the definitions over the number of components come to for one. Assumes nothing.
use mathlib.Core.Path.{◌≡◌, refl}
use Prim.Native.Nat.{ℕ}
use mathlib.Core.List.{List}
use lib.Ieee.{Float}
use Rattle.eos.specs.declared.types.Blend.{Blend}
use Rattle.eos.specs.Indices.{fold_from, jet_total}
use Rattle.eos.specs.Cubic.{mix_row, ak_mix, b_mix}
use Rattle.eos.specs.Helmholtz.{partial_density, molefracs, energy_density, helmholtz}
use Rattle.evaluations.specs.Critical.{energy_over_t, along, second_along, dmu_dn, matrix, eigenvalue, eigenvector, moved_along, ideal_gas, third_derivative}
use Rattle.evaluations.specs.OneComponent.{OfOne}

-- of one component the first mole number decides
first_alone : (b : Blend) (t v : List Float) (moles : ℕ → List Float) → helmholtz b 1 t v moles ≡ helmholtz b 1 t v (λ i. moles 0)
unfolding helmholtz energy_density partial_density molefracs ak_mix mix_row b_mix jet_total fold_from
first_alone b t v moles = refl

pub of_one : (b : Blend) (t v : List Float) (z : ℕ → List Float) → OfOne b t v z
unfolding eigenvalue matrix dmu_dn second_along along energy_over_t third_derivative eigenvector moved_along ideal_gas jet_total fold_from
of_one b t v z = record { value = rw (first_alone b t v); third = rw (first_alone b t v) }
