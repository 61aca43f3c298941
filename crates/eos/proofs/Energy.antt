-- What the components make together and the residual Helmholtz energy, worked out one operation after the other in the first w coefficients.
-- Assumes nothing.
use mathlib.Core.Path.{◌≡◌, refl, ◌∙◌}
use Prim.Native.Nat.{ℕ, zero, suc, ◌+◌, ◌*◌, ◌≤◌, ◌<◌}
use native.Mathlib.Omega.{arith}
use mathlib.Core.List.{List}
use lib.Ieee.{Float}
use Rattle.float.specs.Ops.{f0}
use Rattle.jet.specs.Coefficients.{Upto, number_of, sum_of, product_of, quotient_of}
use Rattle.jet.specs.Ops.{◌⊞◌, ◌⊠◌, ◌⧄◌}
use Rattle.jet.proofs.Prefix.{is, add_upto, mul_upto, div_upto}
use Rattle.jet.proofs.Depends.{sum_first, product_first, quotient_first}
use Rattle.eos.specs.declared.types.Blend.{Blend}
use Rattle.eos.specs.declared.types.Mixture.{Mixture}
use Rattle.eos.specs.Indices.{fold_from, jet_total}
use Rattle.eos.specs.Cubic.{nth, mix_term, mix_row, ak_mix, b_mix, contribution}
use Rattle.eos.specs.Helmholtz.{aks_of, partial_density, molefracs, ak_mix_of, b_mix_of, energy_density, Mixes, helmholtz}
use Rattle.eos.proofs.Chain.{contribution_cong}
use Rattle.eos.proofs.Totals.{total_cong, ak_mix_cong, b_mix_cong}

-- ---- one component: totals of one term

pub only_first : (P : ℕ → Type 0) → P 0 → (i : ℕ) → i < 1 → P i
only_first P p zero l = p
only_first P p (suc i) l = absurd (omega arith)

mix_one : (ak x : ℕ → List Float) (k : ℕ → ℕ → Float) → number_of f0 ⊞ mix_term (ak 0) (ak 0) (x 0) (x 0) (k 0 0) ≡ ak_mix 1 ak x k
unfolding ak_mix mix_row fold_from
mix_one ak x k = refl

b_one : (x : ℕ → List Float) (b : ℕ → Float) → x 0 ⊠ number_of (b 0) ≡ b_mix 1 x b
unfolding b_mix jet_total fold_from
b_one x b = refl

abbrev kij : Blend → ℕ → ℕ → Float
kij b i j = nth b.k_ij (8 * i + j)

pub alone_law : (w : ℕ) (b : Blend) (t v n : List Float) (density x ak none term a nb m : List Float)
    → Upto w density (quotient_of n v) → Upto w x (quotient_of density density) → Upto w ak (aks_of b t 0) → Upto w term (mix_term ak ak x x (nth b.k_ij 0)) → none ≡ number_of f0 → Upto w a (sum_of none term) → nb ≡ number_of (nth b.b 0) → Upto w m (product_of x nb)
    → Upto w density (jet_total 1 (partial_density (λ i. n) v)) × Upto w a (ak_mix_of b 1 t (partial_density (λ i. n) v)) × Upto w m (b_mix_of b 1 (partial_density (λ i. n) v))
unfolding partial_density molefracs jet_total fold_from
alone_law w b t v n density x ak none term a nb m ed ex eak et ez ea eb em =
    let D = div_upto w n n density refl v v refl ed in
    let X = div_upto w density (n ⧄ v) x D density (n ⧄ v) D ex in
    let A = add_upto w none (number_of f0) a (is w ez) term (mix_term ak ak x x (kij b 0 0)) et ea ∙ is w (mix_one (λ i. ak) (λ i. x) (kij b)) in
    let M = mul_upto w x x m refl nb (number_of (nth b.b 0)) (is w eb) em ∙ is w (b_one (λ i. x) (nth b.b)) in
    let X' : (i : ℕ) → i < 1 → Upto w x (molefracs 1 (partial_density (λ i. n) v) i) = λ i l. X in (
      D,
      A ∙ ak_mix_cong w 1 (λ i. ak) (aks_of b t) (λ i. x) (molefracs 1 (partial_density (λ i. n) v)) (kij b) (only_first (λ i. Upto w ak (aks_of b t i)) eak) X',
      M ∙ b_mix_cong w 1 (λ i. x) (molefracs 1 (partial_density (λ i. n) v)) (nth b.b) (omega arith) X',
    )

module _ (w n : ℕ) (h : 1 ≤ n) (b : Blend) where
  pub many_law : (t v : List Float) (moles ρ x ak : ℕ → List Float) (density a m : List Float)
      → ((i : ℕ) → i < n → Upto w (ρ i) (moles i ⧄ v)) → Upto w density (jet_total n ρ) → ((i : ℕ) → i < n → Upto w (x i) (ρ i ⧄ density)) → ((i : ℕ) → i < n → Upto w (ak i) (aks_of b t i)) → Upto w a (ak_mix n ak x (kij b)) → Upto w m (b_mix n x (nth b.b))
      → Upto w density (jet_total n (partial_density moles v)) × Upto w a (ak_mix_of b n t (partial_density moles v)) × Upto w m (b_mix_of b n (partial_density moles v))
  unfolding partial_density molefracs
  many_law t v moles ρ x ak density a m er ed ex eak ea em =
      let D = ed ∙ total_cong w n ρ (partial_density moles v) h er in
      let X : (i : ℕ) → i < n → Upto w (x i) (molefracs n (partial_density moles v) i) = λ i l. ex i l ∙ quotient_first w (ρ i) (moles i ⧄ v) (er i l) density (jet_total n (partial_density moles v)) D in (
        D,
        ea ∙ ak_mix_cong w n ak (aks_of b t) x (molefracs n (partial_density moles v)) (kij b) eak X,
        em ∙ b_mix_cong w n x (molefracs n (partial_density moles v)) (nth b.b) h X,
      )

  -- mole numbers alike give mixtures alike
  pub mixes_cong : (t v : List Float) (moles moles' : ℕ → List Float) (m : Mixture) → ((i : ℕ) → i < n → Upto w (moles i) (moles' i)) → Mixes w b n t (partial_density moles v) m → Mixes w b n t (partial_density moles' v) m
  unfolding partial_density molefracs
  mixes_cong t v moles moles' m e em =
      let R : (i : ℕ) → i < n → Upto w (moles i ⧄ v) (moles' i ⧄ v) = λ i l. quotient_first w (moles i) (moles' i) (e i l) v v refl in
      let D = total_cong w n (partial_density moles v) (partial_density moles' v) h R in
      let X : (i : ℕ) → i < n → Upto w (molefracs n (partial_density moles v) i) (molefracs n (partial_density moles' v) i) = λ i l. quotient_first w (moles i ⧄ v) (moles' i ⧄ v) (R i l) _ _ D in (
        em.0 ∙ D,
        em.1 ∙ ak_mix_cong w n (aks_of b t) (aks_of b t) (molefracs n (partial_density moles v)) (molefracs n (partial_density moles' v)) (kij b) (λ i l. refl) X,
        em.2 ∙ b_mix_cong w n (molefracs n (partial_density moles v)) (molefracs n (partial_density moles' v)) (nth b.b) h X,
      )

  pub helmholtz_law : (t v : List Float) (moles : ℕ → List Float) (m : Mixture) (e none s p out : List Float)
      → Mixes w b n t (partial_density moles v) m → Upto w e (contribution m.density.c m.a.c m.b.c t) → none ≡ number_of f0 → Upto w s (sum_of none e) → Upto w p (product_of s t) → Upto w out (product_of p v)
      → Upto w out (helmholtz b n t v moles)
  unfolding helmholtz energy_density
  helmholtz_law t v moles m e none s p out em ee ez es ep eo =
      let E = ee ∙ contribution_cong w m.density.c _ m.a.c _ m.b.c _ t t em.0 em.1 em.2 refl in
      let S = add_upto w none (number_of f0) s (is w ez) e (energy_density b n t (partial_density moles v)) E es in
      let P = mul_upto w s _ p S t t refl ep in
      mul_upto w p _ out P v v refl eo

  -- the first n of ρ decide
  pub energy_cong : (t : List Float) (ρ ρ' : ℕ → List Float) → ((i : ℕ) → i < n → Upto w (ρ i) (ρ' i)) → Upto w (energy_density b n t ρ) (energy_density b n t ρ')
  unfolding energy_density molefracs
  energy_cong t ρ ρ' e =
      let D = total_cong w n ρ ρ' h e in
      let X : (i : ℕ) → i < n → Upto w (molefracs n ρ i) (molefracs n ρ' i) = λ i l. quotient_first w (ρ i) (ρ' i) (e i l) (jet_total n ρ) (jet_total n ρ') D in
      contribution_cong w (jet_total n ρ) (jet_total n ρ') _ _ _ _ t t D
      (ak_mix_cong w n (aks_of b t) (aks_of b t) (molefracs n ρ) (molefracs n ρ') (kij b) (λ i l. refl) X) (b_mix_cong w n (molefracs n ρ) (molefracs n ρ') (nth b.b) h X) refl

  -- the first n of the mole numbers decide
  pub helmholtz_cong : (t v : List Float) (moles moles' : ℕ → List Float) → ((i : ℕ) → i < n → Upto w (moles i) (moles' i)) → Upto w (helmholtz b n t v moles) (helmholtz b n t v moles')
  unfolding helmholtz partial_density
  helmholtz_cong t v moles moles' e =
      let E = energy_cong t (partial_density moles v) (partial_density moles' v) (λ i l. quotient_first w (moles i) (moles' i) (e i l) v v refl) in
      let S = sum_first w (number_of f0) (number_of f0) refl _ _ E in
      product_first w _ _ (product_first w _ _ S t t refl) v v refl

  -- and so do the first coefficients of the volume
  pub volume_cong : (t v v' : List Float) (moles : ℕ → List Float) → Upto w v v' → Upto w (helmholtz b n t v moles) (helmholtz b n t v' moles)
  unfolding helmholtz partial_density
  volume_cong t v v' moles e =
      let E = energy_cong t (partial_density moles v) (partial_density moles v') (λ i l. quotient_first w (moles i) (moles i) refl v v' e) in
      let S = sum_first w (number_of f0) (number_of f0) refl _ _ E in
      product_first w _ _ (product_first w _ _ S t t refl) v v' e
