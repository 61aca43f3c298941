-- cubic.rs: the parameters of a blend, its maximum density, and the Helmholtz energy of Peng and Robinson on jets. Definitions only.
use Rattle.std.specs.Prelude.{ℕ, min, cond, List, ◌∷◌, get_or, replicate, eqb, ltb, Float}
use Rattle.std.specs.Float.{nan, binary64}
use Rattle.std.specs.Float.Ieee.{of_bits}
use Rattle.float.specs.Ops.{◌⊕◌, ◌⊖◌, ◌⊗◌, ◌⊘◌, f0, f1, f2}
use Rattle.jet.specs.Coefficients.{number_of, recip_of, square_of, root_of, logarithm_of}
use Rattle.jet.specs.Ops.{◌⊞◌, ◌⊟◌, ◌⊠◌, ◌⧄◌}
use Rattle.eos.specs.declared.types.Component.{Component}
use Rattle.eos.specs.declared.types.Blend.{Blend}
use Rattle.eos.specs.Indices.{fold_from, total, jet_total}

-- ---- numbers

-- KB_A3 = 13806490
abbrev pub kb : Float
kb = of_bits binary64 0x416a_5573_4000_0000

-- 0.45724 and 0.07780
abbrev pub d0·45724 : Float
d0·45724 = of_bits binary64 0x3fdd_436b_8f9b_1316

abbrev pub d0·07780 : Float
d0·07780 = of_bits binary64 0x3fb3_eab3_67a0_f909

-- 0.37464, 1.54226 and 0.26992
abbrev pub d0·37464 : Float
d0·37464 = of_bits binary64 0x3fd7_fa1a_0cf1_800a

abbrev pub d1·54226 : Float
d1·54226 = of_bits binary64 0x3ff8_ad18_d25e_dd05

abbrev pub d0·26992 : Float
d0·26992 = of_bits binary64 0x3fd1_465e_8922_5311

-- 0.9
abbrev pub d0·9 : Float
d0·9 = of_bits binary64 0x3fec_cccc_cccc_cccd

-- SQRT_2
abbrev pub sqrt2 : Float
sqrt2 = of_bits binary64 0x3ff6_a09e_667f_3bcd

-- ---- a blend

-- `PengRobinson::new`, for one component of critical temperature tc, critical pressure pc and acentric factor ω
unfoldable pub component_of : Float → Float → Float → Component
component_of tc pc ω = record {
  tc = tc;
  a = d0·45724 ⊗ kb ⊗ (tc ⊗ tc ⊘ pc);
  b = d0·07780 ⊗ kb ⊗ (tc ⊘ pc);
  kappa = d0·37464 ⊕ (d1·54226 ⊖ d0·26992 ⊗ ω) ⊗ ω;
}

-- a blend from its rows
abbrev pub blend_by : ℕ → List Float → List Float → List Float → List Float → List Float → List Float → Blend
blend_by n tc a b kappa k x = record { n = n; tc = tc; a = a; b = b; kappa = kappa; k_ij = k; x = x }

-- element i of a row of floats
abbrev pub nth : List Float → ℕ → Float
nth s i = get_or s i nan

-- element i of a row of eight, and NaN beyond it
unfoldable pub element_of : List Float → ℕ → Float
element_of s i = cond (ltb i 8) (nth s i) nan

-- how many components are mixed: n from 1 to 8, and a number beyond as the nearer end
unfoldable pub components_of : Blend → ℕ
components_of b = cond (eqb b.n 0) 1 (min b.n 8)

-- a row of eight with x first
abbrev pub alone : Float → List Float
alone x = x ∷ replicate 7 f0

-- component i alone, with fraction 1
unfoldable pub pure_of : Blend → ℕ → Blend
pure_of b i = record {
  n = 1;
  tc = alone (element_of b.tc i);
  a = alone (element_of b.a i);
  b = alone (element_of b.b i);
  kappa = alone (element_of b.kappa i);
  k_ij = replicate 64 f0;
  x = alone f1;
}

-- `compute_max_density`
unfoldable pub max_density : Blend → Float
max_density b = d0·9 ⊘ total (components_of b) (λ i. nth b.x i ⊗ nth b.b i)

-- ---- `for_each_contribution`, at the temperature t, with n components of partial densities ρ and mole fractions x

-- ak of a component: "D::one() - (state.temperature / tc).sqrt()", times kappa, plus 1.0, squared, times a
unfoldable pub ak_of : List Float → Float → Float → Float → List Float
ak_of t tc kappa a = square_of ((number_of f1 ⊟ root_of (t ⧄ number_of tc)) ⊠ number_of kappa ⊞ number_of f1) ⊠ number_of a

-- "(ak[i] * ak[j]).sqrt() * (x[i] * x[j] * (1.0 - self.k_ij[(i, j)]))"
unfoldable pub mix_term : List Float → List Float → List Float → List Float → Float → List Float
mix_term ai aj xi xj k = root_of (ai ⊠ aj) ⊠ (xi ⊠ xj ⊠ number_of (f1 ⊖ k))

-- "ak_mix", from zero, over j within i; `mix_row` adds the terms of one i to s
unfoldable pub mix_row : ℕ → (ℕ → List Float) → (ℕ → List Float) → (ℕ → ℕ → Float) → ℕ → List Float → List Float
mix_row n ak x k i s = fold_from (λ m j. m ⊞ mix_term (ak i) (ak j) (x i) (x j) (k i j)) n 0 s

unfoldable pub ak_mix : ℕ → (ℕ → List Float) → (ℕ → List Float) → (ℕ → ℕ → Float) → List Float
ak_mix n ak x k = fold_from (λ m i. mix_row n ak x k i m) n 0 (number_of f0)

-- "x.dot(&self.b.map(D::from))"
unfoldable pub b_mix : ℕ → (ℕ → List Float) → (ℕ → Float) → List Float
b_mix n x b = jet_total n (λ i. x i ⊠ number_of (b i))

-- "(v / (v - b)).ln()"
unfoldable pub repulsion : List Float → List Float → List Float
repulsion v b = logarithm_of (v ⧄ (v ⊟ b))

-- "((v + b * (1.0 + SQRT_2)) / (v + b * (1.0 - SQRT_2))).ln()"
unfoldable pub log_ratio : List Float → List Float → List Float
log_ratio v b = logarithm_of ((v ⊞ b ⊠ number_of (f1 ⊕ sqrt2)) ⧄ (v ⊞ b ⊠ number_of (f1 ⊖ sqrt2)))

-- "ak_mix / (b * SQRT_2 * 2.0 * state.temperature) * .."
unfoldable pub attraction : List Float → List Float → List Float → List Float → List Float
attraction ak b t v = ak ⧄ (b ⊠ number_of sqrt2 ⊠ number_of f2 ⊠ t) ⊠ log_ratio v b

-- "density * (.. - ..)", with v the density's reciprocal
unfoldable pub contribution : List Float → List Float → List Float → List Float → List Float
contribution density ak b t = density ⊠ (repulsion (recip_of density) b ⊟ attraction ak b t (recip_of density))
