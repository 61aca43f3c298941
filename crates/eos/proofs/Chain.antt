-- The formulas of cubic.rs on jets, worked out one operation after the other in the first w coefficients. Each law names the jets that a function
-- makes on its way and says what the last one is. Assumes nothing.
use mathlib.Core.Path.{◌≡◌, refl, ◌∙◌}
use Prim.Native.Nat.{ℕ}
use mathlib.Core.List.{List}
use lib.Ieee.{Float}
use Rattle.float.specs.Ops.{◌⊕◌, ◌⊖◌, f1, f2}
use Rattle.jet.specs.Coefficients.{Upto, number_of, sum_of, difference_of, product_of, quotient_of, recip_of, square_of, root_of, logarithm_of}
use Rattle.jet.specs.Ops.{◌⊞◌, ◌⊟◌, ◌⊠◌, ◌⧄◌}
use Rattle.jet.proofs.Prefix.{is, add_upto, sub_upto, mul_upto, div_upto, sqrt_upto, ln_upto}
use Rattle.jet.proofs.Depends.{sum_first, difference_first, product_first, quotient_first, root_first, logarithm_first}
use Rattle.eos.specs.Cubic.{sqrt2, ak_of, mix_term, repulsion, log_ratio, attraction, contribution}

module _ (w : ℕ) where
  pub ak_law : (t : List Float) (tc kappa a : Float) (one n1 q r d n2 m y s n3 out : List Float)
      → one ≡ number_of f1 → n1 ≡ number_of tc → Upto w q (quotient_of t n1) → Upto w r (root_of q) → Upto w d (difference_of one r) → n2 ≡ number_of kappa → Upto w m (product_of d n2) → Upto w y (sum_of m one) → Upto w s (product_of y y) → n3 ≡ number_of a → Upto w out (product_of s n3)
      → Upto w out (ak_of t tc kappa a)
  unfolding ak_of square_of
  ak_law t tc kappa a one n1 q r d n2 m y s n3 out e1 e2 eq er ed e3 em ey es e4 eo =
      let Q = div_upto w t t q refl n1 (number_of tc) (is w e2) eq in
      let R = sqrt_upto w q (t ⧄ number_of tc) r Q er in
      let D = sub_upto w one (number_of f1) d (is w e1) r (root_of (t ⧄ number_of tc)) R ed in
      let M = mul_upto w d (number_of f1 ⊟ root_of (t ⧄ number_of tc)) m D n2 (number_of kappa) (is w e3) em in
      let y' = (number_of f1 ⊟ root_of (t ⧄ number_of tc)) ⊠ number_of kappa ⊞ number_of f1 in
      let Y = add_upto w m ((number_of f1 ⊟ root_of (t ⧄ number_of tc)) ⊠ number_of kappa) y M one (number_of f1) (is w e1) ey in
      let S = mul_upto w y y' s Y y y' Y es in
      mul_upto w s (y' ⊠ y') out S n3 (number_of a) (is w e4) eo

  pub repulsion_law : (v b d q out : List Float) → Upto w d (difference_of v b) → Upto w q (quotient_of v d) → Upto w out (logarithm_of q) → Upto w out (repulsion v b)
  unfolding repulsion
  repulsion_law v b d q out ed eq eo =
      let Q = div_upto w v v q refl d (v ⊟ b) ed eq in
      ln_upto w q (v ⧄ (v ⊟ b)) out Q eo

  -- v plus b times a number
  shifted : (v b : List Float) (x : Float) (n m s : List Float) → n ≡ number_of x → Upto w m (product_of b n) → Upto w s (sum_of v m) → Upto w s (v ⊞ b ⊠ number_of x)
  shifted v b x n m s en em es = add_upto w v v s refl m (b ⊠ number_of x) (mul_upto w b b m refl n (number_of x) (is w en) em) es

  pub log_ratio_law : (v b n m s n' m' s' q out : List Float)
      → n ≡ number_of (f1 ⊕ sqrt2) → Upto w m (product_of b n) → Upto w s (sum_of v m) → n' ≡ number_of (f1 ⊖ sqrt2) → Upto w m' (product_of b n') → Upto w s' (sum_of v m') → Upto w q (quotient_of s s') → Upto w out (logarithm_of q)
      → Upto w out (log_ratio v b)
  unfolding log_ratio
  log_ratio_law v b n m s n' m' s' q out en em es en' em' es' eq eo =
      let S = shifted v b (f1 ⊕ sqrt2) n m s en em es in
      let S' = shifted v b (f1 ⊖ sqrt2) n' m' s' en' em' es' in
      let Q = div_upto w s (v ⊞ b ⊠ number_of (f1 ⊕ sqrt2)) q S s' (v ⊞ b ⊠ number_of (f1 ⊖ sqrt2)) S' eq in
      ln_upto w q ((v ⊞ b ⊠ number_of (f1 ⊕ sqrt2)) ⧄ (v ⊞ b ⊠ number_of (f1 ⊖ sqrt2))) out Q eo

  pub attraction_law : (ak b t v n1 m1 n2 m2 m3 q l out : List Float)
      → n1 ≡ number_of sqrt2 → Upto w m1 (product_of b n1) → n2 ≡ number_of f2 → Upto w m2 (product_of m1 n2) → Upto w m3 (product_of m2 t) → Upto w q (quotient_of ak m3) → Upto w l (log_ratio v b) → Upto w out (product_of q l)
      → Upto w out (attraction ak b t v)
  unfolding attraction
  attraction_law ak b t v n1 m1 n2 m2 m3 q l out e1 em1 e2 em2 em3 eq el eo =
      let M1 = mul_upto w b b m1 refl n1 (number_of sqrt2) (is w e1) em1 in
      let M2 = mul_upto w m1 (b ⊠ number_of sqrt2) m2 M1 n2 (number_of f2) (is w e2) em2 in
      let M3 = mul_upto w m2 (b ⊠ number_of sqrt2 ⊠ number_of f2) m3 M2 t t refl em3 in
      let Q = div_upto w ak ak q refl m3 (b ⊠ number_of sqrt2 ⊠ number_of f2 ⊠ t) M3 eq in
      mul_upto w q (ak ⧄ (b ⊠ number_of sqrt2 ⊠ number_of f2 ⊠ t)) out Q l (log_ratio v b) el eo

  -- ---- which formulas keep jets alike

  pub repulsion_cong : (v v' b b' : List Float) → Upto w v v' → Upto w b b' → Upto w (repulsion v b) (repulsion v' b')
  unfolding repulsion
  repulsion_cong v v' b b' Vol B = logarithm_first w (v ⧄ (v ⊟ b)) (v' ⧄ (v' ⊟ b')) (quotient_first w v v' Vol (v ⊟ b) (v' ⊟ b') (difference_first w v v' Vol b b' B))

  shifted_cong : (v v' b b' : List Float) (x : Float) → Upto w v v' → Upto w b b' → Upto w (v ⊞ b ⊠ number_of x) (v' ⊞ b' ⊠ number_of x)
  shifted_cong v v' b b' x Vol B = sum_first w v v' Vol (b ⊠ number_of x) (b' ⊠ number_of x) (product_first w b b' B (number_of x) (number_of x) refl)

  log_ratio_cong : (v v' b b' : List Float) → Upto w v v' → Upto w b b' → Upto w (log_ratio v b) (log_ratio v' b')
  unfolding log_ratio
  log_ratio_cong v v' b b' Vol B =
      let S = shifted_cong v v' b b' (f1 ⊕ sqrt2) Vol B in
      let S' = shifted_cong v v' b b' (f1 ⊖ sqrt2) Vol B in
      logarithm_first w _ _ (quotient_first w _ _ S _ _ S')

  pub attraction_cong : (ak ak' b b' t t' v v' : List Float) → Upto w ak ak' → Upto w b b' → Upto w t t' → Upto w v v' → Upto w (attraction ak b t v) (attraction ak' b' t' v')
  unfolding attraction
  attraction_cong ak ak' b b' t t' v v' A B T Vol =
      let M1 = product_first w b b' B (number_of sqrt2) (number_of sqrt2) refl in
      let M2 = product_first w (b ⊠ number_of sqrt2) (b' ⊠ number_of sqrt2) M1 (number_of f2) (number_of f2) refl in
      let M3 = product_first w (b ⊠ number_of sqrt2 ⊠ number_of f2) (b' ⊠ number_of sqrt2 ⊠ number_of f2) M2 t t' T in
      product_first w _ _ (quotient_first w ak ak' A _ _ M3) (log_ratio v b) (log_ratio v' b') (log_ratio_cong v v' b b' Vol B)

  pub contribution_cong : (d d' ak ak' b b' t t' : List Float) → Upto w d d' → Upto w ak ak' → Upto w b b' → Upto w t t' → Upto w (contribution d ak b t) (contribution d' ak' b' t')
  unfolding contribution recip_of
  contribution_cong d d' ak ak' b b' t t' D A B T =
      let Vol = quotient_first w (number_of f1) (number_of f1) refl d d' D in
      product_first w d d' D _ _
      (difference_first w _ _ (repulsion_cong (recip_of d) (recip_of d') b b' Vol B) _ _ (attraction_cong ak ak' b b' t t' (recip_of d) (recip_of d') A B T Vol))

  pub contribution_law : (density ak b t n v r a d out : List Float)
      → n ≡ number_of f1 → Upto w v (quotient_of n density) → Upto w r (repulsion v b) → Upto w a (attraction ak b t v) → Upto w d (difference_of r a) → Upto w out (product_of density d)
      → Upto w out (contribution density ak b t)
  unfolding contribution recip_of
  contribution_law density ak b t n v r a d out en ev er ea ed eo =
      let Vol = div_upto w n (number_of f1) v (is w en) density density refl ev in
      let R = er ∙ repulsion_cong v (recip_of density) b b Vol refl in
      let A = ea ∙ attraction_cong ak ak b b t t v (recip_of density) refl refl refl Vol in
      let D = sub_upto w r (repulsion (recip_of density) b) d R a (attraction ak b t (recip_of density)) A ed in
      mul_upto w density density out refl d _ D eo

  pub mix_term_cong : (ai ai' aj aj' xi xi' xj xj' : List Float) (k : Float) → Upto w ai ai' → Upto w aj aj' → Upto w xi xi' → Upto w xj xj' → Upto w (mix_term ai aj xi xj k) (mix_term ai' aj' xi' xj' k)
  unfolding mix_term
  mix_term_cong ai ai' aj aj' xi xi' xj xj' k AI AJ XI XJ =
      let P = product_first w ai ai' AI aj aj' AJ in
      let X = product_first w xi xi' XI xj xj' XJ in
      let Y = product_first w (xi ⊠ xj) (xi' ⊠ xj') X (number_of (f1 ⊖ k)) (number_of (f1 ⊖ k)) refl in
      product_first w _ _ (root_first w (ai ⊠ aj) (ai' ⊠ aj') P) _ _ Y
