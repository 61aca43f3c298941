-- `residual_helmholtz_energy` of residual.rs and `StateHD` of state/mod.rs, on jets. Definitions only.
use Rattle.std.specs.Prelude.{ℕ, ◌+◌, ◌*◌, List, Float}
use Rattle.float.specs.Ops.{f0}
use Rattle.jet.specs.Coefficients.{Upto, number_of, root_of}
use Rattle.jet.specs.Ops.{◌⊞◌, ◌⊠◌, ◌⧄◌}
use Rattle.eos.specs.declared.types.Blend.{Blend}
use Rattle.eos.specs.declared.types.Mixture.{Mixture}
use Rattle.eos.specs.declared.types.PairRoots.{PairRoots}
use Rattle.eos.specs.Indices.{jet_total}
use Rattle.eos.specs.Cubic.{nth, ak_of, ak_mix, b_mix, contribution}

-- `StateHD::new`: partial densities and mole fractions of n components
unfoldable pub partial_density : (ℕ → List Float) → List Float → ℕ → List Float
partial_density moles v i = moles i ⧄ v

unfoldable pub molefracs : ℕ → (ℕ → List Float) → ℕ → List Float
molefracs n ρ i = ρ i ⧄ jet_total n ρ

-- `for_each_contribution` of cubic.rs, for the blend's parameters: ak of each component, ak_mix and b of the mixture, and the energy density
abbrev pub aks_of : Blend → List Float → ℕ → List Float
aks_of b t i = ak_of t (nth b.tc i) (nth b.kappa i) (nth b.a i)

abbrev pub ak_mix_of : Blend → ℕ → List Float → (ℕ → List Float) → List Float
ak_mix_of b n t ρ = ak_mix n (aks_of b t) (molefracs n ρ) (λ i j. nth b.k_ij (8 * i + j))

abbrev pub b_mix_of : Blend → ℕ → (ℕ → List Float) → List Float
b_mix_of b n ρ = b_mix n (molefracs n ρ) (nth b.b)

unfoldable pub energy_density : Blend → ℕ → List Float → (ℕ → List Float) → List Float
energy_density b n t ρ = contribution (jet_total n ρ) (ak_mix_of b n t ρ) (b_mix_of b n ρ) t

-- the mixture m is that of the partial densities ρ in the first w coefficients
abbrev pub Mixes : ℕ → Blend → ℕ → List Float → (ℕ → List Float) → Mixture → Type 0
Mixes w b n t ρ m = Upto w m.density.c (jet_total n ρ) × Upto w m.a.c (ak_mix_of b n t ρ) × Upto w m.b.c (b_mix_of b n ρ)

-- the roots of the products of ak that the terms of ak_mix begin with, of two components, in the first w coefficients
pub record AkRoots (w : ℕ) (ak : ℕ → List Float) (r : PairRoots) : Type 0 where
  pub first_first : Upto w r.r11.c (root_of (ak 0 ⊠ ak 0))
  pub first_second : Upto w r.r12.c (root_of (ak 0 ⊠ ak 1))
  pub second_first : Upto w r.r21.c (root_of (ak 1 ⊠ ak 0))
  pub second_second : Upto w r.r22.c (root_of (ak 1 ⊠ ak 1))

-- `residual_helmholtz_energy`: zero plus the contribution, times temperature, times volume
unfoldable pub helmholtz : Blend → ℕ → List Float → List Float → (ℕ → List Float) → List Float
helmholtz b n t v moles = (number_of f0 ⊞ energy_density b n t (partial_density moles v)) ⊠ t ⊠ v
