-- What one component and two make with the roots of their ak made apart, worked out one operation after the other in the first w coefficients. Assumes nothing.
use mathlib.Core.Path.{◌≡◌, refl, ◌∙◌}
use Prim.Native.Nat.{ℕ, zero, suc, ◌+◌, ◌*◌, ◌<◌}
use native.Mathlib.Omega.{arith}
use mathlib.Core.List.{List}
use lib.Ieee.{Float}
use Rattle.float.specs.Ops.{◌⊖◌, f0, f1}
use Rattle.jet.specs.Coefficients.{Upto, number_of, sum_of, product_of, quotient_of, root_of}
use Rattle.jet.specs.Ops.{◌⊞◌, ◌⊠◌, ◌⧄◌}
use Rattle.jet.proofs.Prefix.{is, add_upto, mul_upto, div_upto, sqrt_upto}
use Rattle.jet.proofs.Depends.{product_first, root_first}
use Rattle.eos.specs.declared.types.Blend.{Blend}
use Rattle.eos.specs.declared.types.PairRoots.{PairRoots}
use Rattle.eos.specs.Indices.{fold_from, jet_total}
use Rattle.eos.specs.Jets.{pair_of}
use Rattle.eos.specs.Cubic.{nth, mix_term, mix_row, ak_mix, b_mix}
use Rattle.eos.specs.Helmholtz.{aks_of, AkRoots, partial_density, ak_mix_of, b_mix_of}
use Rattle.eos.proofs.Energy.{many_law}

pub both : (P : ℕ → Type 0) → P 0 → P 1 → (i : ℕ) → i < 2 → P i
both P p q zero l = p
both P p q (suc zero) l = q
both P p q (suc (suc i)) l = absurd (omega arith)

mix_two : (ak x : ℕ → List Float) (k : ℕ → ℕ → Float)
    → number_of f0 ⊞ mix_term (ak 0) (ak 0) (x 0) (x 0) (k 0 0) ⊞ mix_term (ak 0) (ak 1) (x 0) (x 1) (k 0 1) ⊞ mix_term (ak 1) (ak 0) (x 1) (x 0) (k 1 0) ⊞ mix_term (ak 1) (ak 1) (x 1) (x 1) (k 1 1) ≡ ak_mix 2 ak x k
unfolding ak_mix mix_row fold_from
mix_two ak x k = refl

b_two : (x : ℕ → List Float) (b : ℕ → Float) → x 0 ⊠ number_of (b 0) ⊞ x 1 ⊠ number_of (b 1) ≡ b_mix 2 x b
unfolding b_mix jet_total fold_from
b_two x b = refl

sum_two : (x y : List Float) → sum_of x y ≡ jet_total 2 (pair_of x y)
unfolding jet_total fold_from
sum_two x y = refl

module _ (w : ℕ) where
  pub ak_root_law : (ai aj p out : List Float) → Upto w p (product_of ai aj) → Upto w out (root_of p) → Upto w out (root_of (ai ⊠ aj))
  ak_root_law ai aj p out ep eo = sqrt_upto w p (ai ⊠ aj) out (mul_upto w ai ai p refl aj aj refl ep) eo

  pub term_law : (r xi xj : List Float) (k : Float) (x n y out : List Float) → Upto w x (product_of xi xj) → n ≡ number_of (f1 ⊖ k) → Upto w y (product_of x n) → Upto w out (product_of r y) → Upto w out (r ⊠ (xi ⊠ xj ⊠ number_of (f1 ⊖ k)))
  term_law r xi xj k x n y out ex en ey eo =
      let X = mul_upto w xi xi x refl xj xj refl ex in
      let Y = mul_upto w x (xi ⊠ xj) y X n (number_of (f1 ⊖ k)) (is w en) ey in
      mul_upto w r r out refl y (xi ⊠ xj ⊠ number_of (f1 ⊖ k)) Y eo

  pub ak_roots_law : (ak : ℕ → List Float) (a1 a2 : List Float) (root : PairRoots) → Upto w a1 (ak 0) → Upto w a2 (ak 1)
      → Upto w root.r11.c (root_of (a1 ⊠ a1)) → Upto w root.r12.c (root_of (a1 ⊠ a2)) → Upto w root.r21.c (root_of (a2 ⊠ a1)) → Upto w root.r22.c (root_of (a2 ⊠ a2)) → AkRoots w ak root
  ak_roots_law ak a1 a2 root A1 A2 e11 e12 e21 e22 = record {
    first_first = e11 ∙ root_first w _ _ (product_first w a1 (ak 0) A1 a1 (ak 0) A1);
    first_second = e12 ∙ root_first w _ _ (product_first w a1 (ak 0) A1 a2 (ak 1) A2);
    second_first = e21 ∙ root_first w _ _ (product_first w a2 (ak 1) A2 a1 (ak 0) A1);
    second_second = e22 ∙ root_first w _ _ (product_first w a2 (ak 1) A2 a2 (ak 1) A2);
  }

  -- a term of ak_mix from the root of its ak
  pub term_of_root : (ai aj xi xj : List Float) (k : Float) (r out : List Float) → Upto w r (root_of (ai ⊠ aj)) → Upto w out (r ⊠ (xi ⊠ xj ⊠ number_of (f1 ⊖ k))) → Upto w out (mix_term ai aj xi xj k)
  unfolding mix_term
  term_of_root ai aj xi xj k r out er eo = eo ∙ product_first w r (root_of (ai ⊠ aj)) er (xi ⊠ xj ⊠ number_of (f1 ⊖ k)) (xi ⊠ xj ⊠ number_of (f1 ⊖ k)) refl

  module _ (x1 x2 : List Float) where
    pub ak_mix_law : (root : PairRoots) (k none t11 m11 t12 m12 t21 m21 t22 out : List Float)
        → none ≡ number_of f0 → Upto w t11 (root.r11.c ⊠ (x1 ⊠ x1 ⊠ number_of (f1 ⊖ nth k 0))) → Upto w m11 (sum_of none t11) → Upto w t12 (root.r12.c ⊠ (x1 ⊠ x2 ⊠ number_of (f1 ⊖ nth k 1))) → Upto w m12 (sum_of m11 t12) → Upto w t21 (root.r21.c ⊠ (x2 ⊠ x1 ⊠ number_of (f1 ⊖ nth k 8))) → Upto w m21 (sum_of m12 t21) → Upto w t22 (root.r22.c ⊠ (x2 ⊠ x2 ⊠ number_of (f1 ⊖ nth k 9))) → Upto w out (sum_of m21 t22)
        → (ak : ℕ → List Float) → AkRoots w ak root → Upto w out (ak_mix 2 ak (pair_of x1 x2) (λ i j. nth k (8 * i + j)))
    ak_mix_law root k none t11 m11 t12 m12 t21 m21 t22 out e0 e11 s11 e12 s12 e21 s21 e22 s22 ak R =
        let T11 = term_of_root (ak 0) (ak 0) x1 x1 (nth k 0) root.r11.c t11 R.first_first e11 in
        let T12 = term_of_root (ak 0) (ak 1) x1 x2 (nth k 1) root.r12.c t12 R.first_second e12 in
        let T21 = term_of_root (ak 1) (ak 0) x2 x1 (nth k 8) root.r21.c t21 R.second_first e21 in
        let T22 = term_of_root (ak 1) (ak 1) x2 x2 (nth k 9) root.r22.c t22 R.second_second e22 in
        let M11 = add_upto w none (number_of f0) m11 (is w e0) t11 _ T11 s11 in
        let M12 = add_upto w m11 _ m12 M11 t12 _ T12 s12 in
        let M21 = add_upto w m12 _ m21 M12 t21 _ T21 s21 in
        add_upto w m21 _ out M21 t22 _ T22 s22 ∙ is w (mix_two ak (pair_of x1 x2) (λ i j. nth k (8 * i + j)))

    pub b_mix_law : (b n1 m1 n2 m2 out : List Float) → n1 ≡ number_of (nth b 0) → Upto w m1 (product_of x1 n1) → n2 ≡ number_of (nth b 1) → Upto w m2 (product_of x2 n2) → Upto w out (sum_of m1 m2) → Upto w out (b_mix 2 (pair_of x1 x2) (nth b))
    b_mix_law b n1 m1 n2 m2 out e1 em1 e2 em2 eo =
        let M1 = mul_upto w x1 x1 m1 refl n1 (number_of (nth b 0)) (is w e1) em1 in
        let M2 = mul_upto w x2 x2 m2 refl n2 (number_of (nth b 1)) (is w e2) em2 in
        add_upto w m1 _ out M1 m2 _ M2 eo ∙ is w (b_two (pair_of x1 x2) (nth b))

  pub two_law : (b : Blend) (t v n1 n2 ρ1 ρ2 density x1 x2 a m : List Float)
      → Upto w ρ1 (quotient_of n1 v) → Upto w ρ2 (quotient_of n2 v) → Upto w density (sum_of ρ1 ρ2) → Upto w x1 (quotient_of ρ1 density) → Upto w x2 (quotient_of ρ2 density) → Upto w a (ak_mix 2 (aks_of b t) (pair_of x1 x2) (λ i j. nth b.k_ij (8 * i + j))) → Upto w m (b_mix 2 (pair_of x1 x2) (nth b.b))
      → Upto w density (jet_total 2 (partial_density (pair_of n1 n2) v)) × Upto w a (ak_mix_of b 2 t (partial_density (pair_of n1 n2) v)) × Upto w m (b_mix_of b 2 (partial_density (pair_of n1 n2) v))
  two_law b t v n1 n2 ρ1 ρ2 density x1 x2 a m e1 e2 ed ex1 ex2 ea em =
      many_law w 2 (omega arith) b t v (pair_of n1 n2) (pair_of ρ1 ρ2) (pair_of x1 x2) (aks_of b t) density a m
      (both (λ i. Upto w (pair_of ρ1 ρ2 i) (pair_of n1 n2 i ⧄ v)) (div_upto w n1 n1 ρ1 refl v v refl e1) (div_upto w n2 n2 ρ2 refl v v refl e2))
      (ed ∙ is w (sum_two ρ1 ρ2))
      (both (λ i. Upto w (pair_of x1 x2 i) (pair_of ρ1 ρ2 i ⧄ density)) (div_upto w ρ1 ρ1 x1 refl density density refl ex1) (div_upto w ρ2 ρ2 x2 refl density density refl ex2))
      (λ i l. refl) ea em
