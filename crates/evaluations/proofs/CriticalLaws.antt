-- The conditions of criticality and of stability, worked out one operation after the other in the coefficients of first order below w. Assumes nothing.
use mathlib.Core.Path.{◌≡◌, refl, sym, ap, ◌∙◌}
use Prim.Native.Nat.{ℕ, ◌≤◌, ◌<◌}
use native.Mathlib.Omega.{arith}
use mathlib.Core.Bool.{Bool, true, false, cond, ◌||◌}
use mathlib.Core.List.{List}
use lib.Dec.{eqb}
use lib.Ieee.{Float, eq}
use borrow.Author.Tests.{eqb-true}
use Rattle.float.specs.Ops.{f0, f1}
use Rattle.jet.specs.Positions.{first_order}
use Rattle.jet.specs.Coefficients.{at, Upto, number_of, marked_of, with_mark_of, sum_of, difference_of, product_of, quotient_of, recip_of, root_of, logarithm_of, negation_of, derivative_of}
use Rattle.jet.specs.Ops.{◌⊞◌, ◌⊠◌}
use Rattle.jet.proofs.Prefix.{is, add_upto, sub_upto, mul_upto, div_upto, sqrt_upto, ln_upto}
use Rattle.jet.proofs.Depends.{taken, mark_first, negation_first, derivative_first}
use Rattle.jet.proofs.WithMark.{marked_number}
use Rattle.linear.specs.declared.types.Eigenpair.{Eigenpair}
use Rattle.linear.specs.SmallestEv.{half, Smallest}
use Rattle.linear.proofs.Eigenvectors.{smallest_cong, vector_cong}
use Rattle.eos.specs.declared.types.Blend.{Blend}
use Rattle.eos.specs.Indices.{fold_from, jet_total}
use Rattle.eos.specs.Jets.{pair_of}
use Rattle.eos.specs.Cubic.{nth}
use Rattle.eos.specs.Helmholtz.{helmholtz}
use Rattle.eos.proofs.Energy.{only_first, helmholtz_cong, volume_cong}
use Rattle.eos.proofs.Pair.{both}
use Rattle.evaluations.specs.declared.types.Stability.{Stability}
use Rattle.evaluations.specs.declared.types.PressureCriticality.{PressureCriticality}
use Rattle.evaluations.specs.declared.types.SymmetricMatrix.{SymmetricMatrix}
use Rattle.evaluations.specs.declared.types.BinaryState.{BinaryState}
use Rattle.evaluations.specs.Critical.{energy_over_t, along, second_along, dmu_dn, matrix, eigenvalue, eigenvector, moved, moved_along, ideal_term, ideal_gas, third_derivative, critical_count, fractions_of, criticality_of, criticality_conditions, stability_condition}
use Rattle.evaluations.specs.CriticalBinary.{density_of, molefracs_of, binary_eigenvalue, binary_third, criticality_conditions_t, pressure_condition, condition_of, criticality_conditions_p}
use Rattle.evaluations.specs.Entries.{Width, Entries, third_at, StateOf}
use Rattle.evaluations.proofs.CriticalCong.{entry_cong, moved_cong, energy_cong, gas_cong, eigenvalue_cong, third_cong}

-- the positions of two marks, and of three
pub two_marks : Width 12
two_marks = record { some = omega arith; most = omega arith; fours = refl }

pub three_marks : Width 20
three_marks = record { some = omega arith; most = omega arith; fours = refl }

pub volume_law : (ρ : Float) (one r v : List Float) → one ≡ number_of f1 → r ≡ marked_of 8 ρ → Upto 12 v (quotient_of one r) → Upto 12 v (recip_of (marked_of 8 ρ))
unfolding recip_of
volume_law ρ one r v e1 er ev = div_upto 12 one (number_of f1) v (is 12 e1) r (marked_of 8 ρ) (is 12 er) ev

-- ---- mole numbers

module _ (w : ℕ) where
  pub entry_law : (h si sj : List Float) (one : Float) (q m o out : List Float) → Upto w q (product_of si sj) → Upto w m (product_of h q) → o ≡ number_of one → Upto w out (sum_of m o) → Upto w out (h ⊠ (si ⊠ sj) ⊞ number_of one)
  entry_law h si sj one q m o out eq em e1 eo =
      let Q = mul_upto w si si q refl sj sj refl eq in
      let M = mul_upto w h h m refl q (si ⊠ sj) Q em in
      add_upto w m (h ⊠ (si ⊠ sj)) out M o (number_of one) (is w e1) eo

  pub moved_law : (z u s d e m out : List Float) → Upto w s (root_of z) → Upto w d (product_of s u) → e ≡ marked_of 1 f0 → Upto w m (product_of d e) → Upto w out (sum_of z m) → Upto w out (moved z u)
  unfolding moved
  moved_law z u s d e m out es ed ee em eo =
      let D = mul_upto w s (root_of z) d es u u refl ed in
      let M = mul_upto w d (root_of z ⊠ u) m D e (marked_of 1 f0) (is w ee) em in
      add_upto w z z out refl m (root_of z ⊠ u ⊠ marked_of 1 f0) M eo

  module _ (n v : List Float) where
    pub none_law : (zero out : List Float) → eq (at n 0) f0 ≡ true → zero ≡ number_of f0 → Upto w out (product_of n zero) → Upto w out (ideal_term n v)
    unfolding ideal_term
    none_law zero out h ez eo = rw h (mul_upto w n n out refl zero (number_of f0) (is w ez) eo)

    pub some_law : (q l one d out : List Float) → eq (at n 0) f0 ≡ false → Upto w q (quotient_of n v) → Upto w l (logarithm_of q) → one ≡ number_of f1 → Upto w d (difference_of l one) → Upto w out (product_of n d) → Upto w out (ideal_term n v)
    unfolding ideal_term
    some_law q l one d out h eq el e1 ed eo =
        let Q = div_upto w n n q refl v v refl eq in
        let L = ln_upto w q _ l Q el in
        let D = sub_upto w l _ d L one (number_of f1) (is w e1) ed in
        rw h (mul_upto w n n out refl d _ D eo)

  pub energy_law : (b : Blend) (t v : List Float) (n : ℕ) (moles : ℕ → List Float) (a out : List Float) → Upto w a (helmholtz b n t v moles) → Upto w out (quotient_of a t) → Upto w out (energy_over_t b n t v moles)
  unfolding energy_over_t
  energy_law b t v n moles a out ea eo = div_upto w a (helmholtz b n t v moles) out ea t t refl eo

-- ---- one component

module _ (b : Blend) (t v : List Float) where
  abbrev z : ℕ → List Float
  z = fractions_of b

  -- its mole number with the mark
  marked_first : along z (eqb 0) 0 ≡ marked_of 1 (nth b.x 0)
  unfolding along fractions_of
  marked_first = marked_number (nth b.x 0)

  pub marked_law : (n e : List Float) → n ≡ marked_of 1 (nth b.x 0) → Upto 12 e (energy_over_t b 1 t v (λ i. n)) → Upto 12 e (energy_over_t b 1 t v (along z (eqb 0)))
  marked_law n e en ee = ee ∙ energy_cong 12 two_marks b 1 (omega arith) t v v (λ i. n) (along z (eqb 0)) refl (only_first (λ i. Upto 12 n (along z (eqb 0) i)) (is 12 (en ∙ sym marked_first)))

  pub smallest_of_one : (e d x s out : List Float) → Upto 12 e (energy_over_t b 1 t v (along z (eqb 0))) → x ≡ number_of (nth b.x 0) → Upto 12 s (root_of x) → d ≡ derivative_of 2 e → Upto 12 out (d ⊠ (s ⊠ s) ⊞ number_of f1) → Upto 12 out (eigenvalue b 1 t v z)
  unfolding eigenvalue matrix dmu_dn second_along fractions_of
  smallest_of_one e d x s out ee ex es ed eo =
      let S = sqrt_upto 12 x (number_of (nth b.x 0)) s (is 12 ex) es in
      eo ∙ entry_cong 12 d _ s _ s _ f1 (is 12 ed ∙ derivative_first 12 2 e _ refl ee) S S

  -- the energy at the marked mole number is that at n, where n is the same
  pub moved_energy_law : (n e : List Float) → Upto 12 n (marked_of 1 (nth b.x 0)) → Upto 12 e (energy_over_t b 1 t v (along z (eqb 0))) → Upto 12 e (energy_over_t b 1 t v (λ i. n))
  moved_energy_law n e en ee = ee ∙ energy_cong 12 two_marks b 1 (omega arith) t v v (along z (eqb 0)) (λ i. n) refl (only_first (λ i. Upto 12 (along z (eqb 0) i) n) (sym (en ∙ is 12 (sym marked_first))))

  pub third_of_one : (n a g s out : List Float) → Upto 12 n (moved (number_of (nth b.x 0)) (number_of f1)) → Upto 12 a (energy_over_t b 1 t v (λ i. n)) → Upto 12 g (ideal_term n v) → Upto 12 s (sum_of a g) → out ≡ derivative_of 3 s → Upto 12 out (third_derivative b 1 t v z)
  unfolding third_derivative moved_along eigenvector ideal_gas jet_total fold_from fractions_of
  third_of_one n a g s out en ea eg es eo =
      let moles : ℕ → List Float = moved_along b 1 t v z in
      let A = ea ∙ energy_cong 12 two_marks b 1 (omega arith) t v v (λ i. n) moles refl (only_first (λ i. Upto 12 n (moles i)) en) in
      let G = eg ∙ gas_cong 12 two_marks b 1 (omega arith) t v v (λ i. n) moles refl (only_first (λ i. Upto 12 n (moles i)) en) in
      is 12 eo ∙ derivative_first 12 3 s _ refl (add_upto 12 a _ s A g _ G es)

-- ---- two components

module _ (w : ℕ) (W : Width w) (b : Blend) (t v : List Float) where
  pub second_derivative_law : (n1 n2 a out : List Float) → Upto w a (energy_over_t b 2 t v (pair_of n1 n2)) → out ≡ derivative_of 2 a → Upto w out (derivative_of 2 (energy_over_t b 2 t v (pair_of n1 n2)))
  second_derivative_law n1 n2 a out ea eo = is w eo ∙ derivative_first w 2 a _ W.fours ea

  two_terms : (n1 n2 : List Float) → ideal_term n1 v ⊞ ideal_term n2 v ≡ ideal_gas 2 (pair_of n1 n2) v
  unfolding ideal_gas jet_total fold_from
  two_terms n1 n2 = refl

  pub third_at_law : (n1 n2 a g1 g2 g s out : List Float) → Upto w a (energy_over_t b 2 t v (pair_of n1 n2)) → Upto w g1 (ideal_term n1 v) → Upto w g2 (ideal_term n2 v) → Upto w g (sum_of g1 g2) → Upto w s (sum_of a g) → out ≡ derivative_of 3 s → Upto w out (third_at b t v n1 n2)
  unfolding third_at
  third_at_law n1 n2 a g1 g2 g s out ea eg1 eg2 eg es eo =
      is w eo ∙ derivative_first w 3 s _ W.fours (add_upto w a _ s ea g _ (add_upto w g1 _ g eg1 g2 _ eg2 eg) es)

  module _ (z1 z2 : List Float) where
    abbrev fractions : ℕ → List Float
    fractions = pair_of z1 z2

    in_direction : (d : ℕ → Bool) (n1 n2 h : List Float) → n1 ≡ along fractions d 0 → n2 ≡ along fractions d 1 → Upto w h (derivative_of 2 (energy_over_t b 2 t v (pair_of n1 n2))) → Upto w h (second_along b 2 t v fractions d)
    unfolding second_along
    in_direction d n1 n2 h e1 e2 eh =
        eh ∙ derivative_first w 2 _ _ W.fours (energy_cong w W b 2 (omega arith) t v v (pair_of n1 n2) (along fractions d) refl (both (λ i. Upto w (pair_of n1 n2 i) (along fractions d i)) (is w e1) (is w e2)))

    module _ (r : SymmetricMatrix) where
      pub dmu_law : (n1 n2 h d1 d2 hf : List Float)
          → n1 ≡ with_mark_of 1 z1 → n2 ≡ with_mark_of 1 z2 → Upto w r.m11.c (derivative_of 2 (energy_over_t b 2 t v (pair_of n1 z2))) → Upto w r.m22.c (derivative_of 2 (energy_over_t b 2 t v (pair_of z1 n2))) → Upto w h (derivative_of 2 (energy_over_t b 2 t v (pair_of n1 n2)))
          → Upto w d1 (difference_of h r.m11.c) → Upto w d2 (difference_of d1 r.m22.c) → hf ≡ number_of half → Upto w r.m12.c (product_of d2 hf)
          → Entries w (dmu_dn b 2 t v fractions) r
      unfolding dmu_dn along
      dmu_law n1 n2 h d1 d2 hf e1 e2 e11 e22 eh ed1 ed2 ehf em =
          let H11 = in_direction (eqb 0) n1 z2 r.m11.c e1 refl e11 in
          let H22 = in_direction (eqb 1) z1 n2 r.m22.c refl e2 e22 in
          let H = in_direction (λ k. eqb 0 k || eqb 1 k) n1 n2 h e1 e2 eh in
          let D1 = sub_upto w h _ d1 H r.m11.c _ H11 ed1 in
          let D2 = sub_upto w d1 _ d2 D1 r.m22.c _ H22 ed2 in
          record { first = H11; mixed = mul_upto w d2 _ r.m12.c D2 hf (number_of half) (is w ehf) em; second = H22 }

      pub matrix_law : (h : SymmetricMatrix) (s1 s2 : List Float) → Upto w s1 (root_of z1) → Upto w s2 (root_of z2) → Entries w (dmu_dn b 2 t v fractions) h
          → Upto w r.m11.c (h.m11.c ⊠ (s1 ⊠ s1) ⊞ number_of f1) → Upto w r.m12.c (h.m12.c ⊠ (s1 ⊠ s2) ⊞ number_of f0) → Upto w r.m22.c (h.m22.c ⊠ (s2 ⊠ s2) ⊞ number_of f1)
          → Entries w (matrix b 2 t v fractions) r
      unfolding matrix
      matrix_law h s1 s2 S1 S2 H e11 e12 e22 = record {
        first = e11 ∙ entry_cong w h.m11.c _ s1 _ s1 _ f1 H.first S1 S1;
        mixed = e12 ∙ entry_cong w h.m12.c _ s1 _ s2 _ f0 H.mixed S1 S2;
        second = e22 ∙ entry_cong w h.m22.c _ s2 _ s2 _ f1 H.second S2 S2;
      }

      -- the eigenpair of a matrix that is M in these coefficients
      module _ (e : Eigenpair) (M : Entries w (matrix b 2 t v fractions) r) (S : Smallest w r.m11.c r.m12.c r.m22.c e) where
        pub value_law : Upto w e.l.c (eigenvalue b 2 t v fractions)
        unfolding eigenvalue
        value_law = S.value ∙ smallest_cong w _ _ _ _ _ _ M.first M.mixed M.second

        first_entry : Upto w e.u1.c (eigenvector b 2 t v fractions 0)
        unfolding eigenvector
        first_entry = S.first ∙ vector_cong w _ _ _ _ _ _ M.first M.mixed M.second W.some 0

        second_entry : Upto w e.u2.c (eigenvector b 2 t v fractions 1)
        unfolding eigenvector
        second_entry = S.second ∙ vector_cong w _ _ _ _ _ _ M.first M.mixed M.second W.some 1

        pub third_law : (n1 n2 out : List Float) → Upto w n1 (moved z1 e.u1.c) → Upto w n2 (moved z2 e.u2.c) → Upto w out (third_at b t v n1 n2) → Upto w out (third_derivative b 2 t v fractions)
        unfolding third_derivative moved_along third_at
        third_law n1 n2 out e1 e2 eo =
            let moles : ℕ → List Float = moved_along b 2 t v fractions in
            let N : (i : ℕ) → i < 2 → Upto w (pair_of n1 n2 i) (moles i) = both (λ i. Upto w (pair_of n1 n2 i) (moles i)) (e1 ∙ moved_cong w z1 z1 e.u1.c _ refl first_entry) (e2 ∙ moved_cong w z2 z2 e.u2.c _ refl second_entry) in
            let A = energy_cong w W b 2 (omega arith) t v v (pair_of n1 n2) moles refl N in
            let G = is w (two_terms n1 n2) ∙ gas_cong w W b 2 (omega arith) t v v (pair_of n1 n2) moles refl N in
            eo ∙ derivative_first w 3 _ _ W.fours (add_upto w _ _ _ A _ _ G refl)

-- ---- what is read off

-- how many components: the test on the blend's number
pub count_two : (b : Blend) → b.n ≡ 2 → critical_count b ≡ 2
unfolding critical_count
count_two b e = rw e

pub count_one : (b : Blend) → (b.n ≡ 2 → ⊥) → critical_count b ≡ 1
unfolding critical_count
count_one b e = go (eqb b.n 2) refl
  where
    go : (x : Bool) → eqb b.n 2 ≡ x → ◌≡◌ {A = ℕ} (cond x 2 1) 1
    go true q = absurd (e (eqb-true b.n 2 q))
    go false q = refl

count_positive : (b : Blend) → 1 ≤ critical_count b
unfolding critical_count
count_positive b = go (eqb b.n 2)
  where
    go : (x : Bool) → 1 ≤ cond x 2 1
    go true = omega arith
    go false = omega arith

-- the conditions of two components at the blend's fractions
module _ (b : Blend) (t v x1 x2 : List Float) (e1 : x1 ≡ number_of (nth b.x 0)) (e2 : x2 ≡ number_of (nth b.x 1)) where
  given : (i : ℕ) → i < 2 → Upto 12 (pair_of x1 x2 i) (fractions_of b i)
  unfolding fractions_of
  given = both (λ i. Upto 12 (pair_of x1 x2 i) (fractions_of b i)) (is 12 e1) (is 12 e2)

  pub given_eigenvalue : Upto 12 (eigenvalue b 2 t v (pair_of x1 x2)) (eigenvalue b 2 t v (fractions_of b))
  given_eigenvalue = eigenvalue_cong 12 two_marks b 2 (omega arith) t v v (pair_of x1 x2) (fractions_of b) refl given

  pub given_third : Upto 12 (third_derivative b 2 t v (pair_of x1 x2)) (third_derivative b 2 t v (fractions_of b))
  given_third = third_cong 12 two_marks b 2 (omega arith) t v v (pair_of x1 x2) (fractions_of b) refl given

-- six numbers read off two jets
module _ (l l' c c' : List Float) (L : Upto 12 l l') (C : Upto 12 c c') where
  pub six_read : criticality_of l c ≡ criticality_of l' c'
  unfolding criticality_of first_order
  six_read =
      rw (taken 12 0 l l' L (omega arith) refl, taken 12 4 l l' L (omega arith) refl, taken 12 8 l l' L (omega arith) refl, taken 12 0 c c' C (omega arith) refl, taken 12 4 c c' C (omega arith) refl, taken 12 8 c c' C (omega arith) refl)

module _ (b : Blend) (τ ρ : Float) (t v : List Float) (ev : Upto 12 v (recip_of (marked_of 8 ρ))) where
  abbrev volume : List Float
  volume = recip_of (marked_of 8 ρ)

  pub criticality_law : (l c : List Float) → t ≡ marked_of 4 τ → Upto 12 l (eigenvalue b (critical_count b) t v (fractions_of b)) → Upto 12 c (third_derivative b (critical_count b) t v (fractions_of b))
      → criticality_of l c ≡ criticality_conditions b τ ρ
  unfolding criticality_conditions
  criticality_law l c et el ec =
      let k = critical_count b in
      let L = el ∙ eigenvalue_cong 12 two_marks b k (count_positive b) t v volume (fractions_of b) (fractions_of b) ev (λ i h. refl) ∙ is 12 (ap (λ (y : List Float). eigenvalue b k y volume (fractions_of b)) et) in
      let C = ec ∙ third_cong 12 two_marks b k (count_positive b) t v volume (fractions_of b) (fractions_of b) ev (λ i h. refl) ∙ is 12 (ap (λ (y : List Float). third_derivative b k y volume (fractions_of b)) et) in
      six_read l (eigenvalue b k (marked_of 4 τ) volume (fractions_of b)) c (third_derivative b k (marked_of 4 τ) volume (fractions_of b)) L C

  pub stability_law : (l : List Float) → t ≡ number_of τ → Upto 12 l (eigenvalue b 1 t v (fractions_of b)) → ◌≡◌ {A = Stability} (record { f = at l 0; df = at l 8 }) (stability_condition b τ ρ)
  unfolding stability_condition first_order
  stability_law l et el =
      let l' = eigenvalue b 1 (number_of τ) volume (fractions_of b) in
      let L : Upto 12 l l' = el ∙ eigenvalue_cong 12 two_marks b 1 (omega arith) t v volume (fractions_of b) (fractions_of b) ev (λ i h. refl) ∙ is 12 (ap (λ (y : List Float). eigenvalue b 1 y volume (fractions_of b)) et) in
      rw (taken 12 0 l l' L (omega arith) refl, taken 12 8 l l' L (omega arith) refl)

-- ---- two partial densities

module _ (w : ℕ) (ρ0 ρ1 : List Float) where
  pub state_law : (s : BinaryState) (one : List Float) → Upto w s.density.c (sum_of ρ0 ρ1) → one ≡ number_of f1 → Upto w s.v.c (quotient_of one s.density.c) → Upto w s.z0.c (quotient_of ρ0 s.density.c) → Upto w s.z1.c (quotient_of ρ1 s.density.c) → StateOf w ρ0 ρ1 s
  unfolding density_of recip_of
  state_law s one ed e1 ev e0' e1' = record {
    density = ed;
    volume = div_upto w one (number_of f1) s.v.c (is w e1) s.density.c (ρ0 ⊞ ρ1) ed ev;
    first = div_upto w ρ0 ρ0 s.z0.c refl s.density.c (ρ0 ⊞ ρ1) ed e0';
    second = div_upto w ρ1 ρ1 s.z1.c refl s.density.c (ρ0 ⊞ ρ1) ed e1';
  }

  module _ (W : Width w) (b : Blend) (t : List Float) (s : BinaryState) (S : StateOf w ρ0 ρ1 s) where
    abbrev density : List Float
    density = density_of ρ0 ρ1

    held : (i : ℕ) → i < 2 → Upto w (pair_of s.z0.c s.z1.c i) (molefracs_of ρ0 ρ1 i)
    unfolding molefracs_of
    held = both (λ i. Upto w (pair_of s.z0.c s.z1.c i) (molefracs_of ρ0 ρ1 i)) S.first S.second

    pub binary_eigenvalue_lem : (l : List Float) → Upto w l (eigenvalue b 2 t s.v.c (pair_of s.z0.c s.z1.c)) → Upto w l (binary_eigenvalue b t ρ0 ρ1)
    unfolding binary_eigenvalue
    binary_eigenvalue_lem l e = e ∙ eigenvalue_cong w W b 2 (omega arith) t s.v.c (recip_of density) (pair_of s.z0.c s.z1.c) (molefracs_of ρ0 ρ1) S.volume held

    pub binary_third_lem : (c : List Float) → Upto w c (third_derivative b 2 t s.v.c (pair_of s.z0.c s.z1.c)) → Upto w c (binary_third b t ρ0 ρ1)
    unfolding binary_third
    binary_third_lem c e = e ∙ third_cong w W b 2 (omega arith) t s.v.c (recip_of density) (pair_of s.z0.c s.z1.c) (molefracs_of ρ0 ρ1) S.volume held

    pub pressure_law : (pressure : Float) (v a da nd m p np n out : List Float)
        → v ≡ with_mark_of 1 s.v.c → Upto w a (helmholtz b 2 t v (pair_of s.z0.c s.z1.c)) → da ≡ derivative_of 1 a → nd ≡ negation_of da → Upto w m (product_of s.density.c t) → Upto w p (sum_of nd m) → np ≡ negation_of p → n ≡ number_of pressure → Upto w out (sum_of np n)
        → Upto w out (pressure_condition b pressure t ρ0 ρ1)
    unfolding pressure_condition
    pressure_law pressure v a da nd m p np n out ev ea eda end em ep enp en eo =
        let v' = with_mark_of 1 (recip_of density) in
        let z = pair_of s.z0.c s.z1.c in
        let Vol = is w ev ∙ mark_first w s.v.c (recip_of density) S.volume 1 in
        let A = ea ∙ helmholtz_cong w 2 (omega arith) b t v z (molefracs_of ρ0 ρ1) held ∙ volume_cong w 2 (omega arith) b t v v' (molefracs_of ρ0 ρ1) Vol in
        let D = is w eda ∙ derivative_first w 1 a _ W.fours A in
        let N = is w end ∙ negation_first w da _ D in
        let M = mul_upto w s.density.c density m S.density t t refl em in
        let P = add_upto w nd _ p N m _ M ep in
        add_upto w np _ out (is w enp ∙ negation_first w p _ P) n (number_of pressure) (is w en) eo

pub criticality_t_law : (b : Blend) (τ ρ0 ρ1 : Float) (t r0 r1 l c : List Float) → t ≡ number_of τ → r0 ≡ marked_of 4 ρ0 → r1 ≡ marked_of 8 ρ1 → Upto 12 l (binary_eigenvalue b t r0 r1) → Upto 12 c (binary_third b t r0 r1)
    → criticality_of l c ≡ criticality_conditions_t b τ ρ0 ρ1
unfolding criticality_conditions_t
criticality_t_law b τ ρ0 ρ1 t r0 r1 l c et e0 e1 el ec =
    six_read l (binary_eigenvalue b (number_of τ) (marked_of 4 ρ0) (marked_of 8 ρ1)) c (binary_third b (number_of τ) (marked_of 4 ρ0) (marked_of 8 ρ1)) (el ∙ is 12 (rw (et, e0, e1))) (ec ∙ is 12 (rw (et, e0, e1)))

-- four numbers read off a jet
pub four_read : (x x' : List Float) → Upto 20 x x' → condition_of x ≡ condition_of x'
unfolding condition_of first_order
four_read x x' X = rw (taken 20 0 x x' X (omega arith) refl, taken 20 4 x x' X (omega arith) refl, taken 20 8 x x' X (omega arith) refl, taken 20 16 x x' X (omega arith) refl)

pub criticality_p_law : (b : Blend) (pressure τ ρ0 ρ1 : Float) (t r0 r1 l c p : List Float) (r : PressureCriticality) → t ≡ marked_of 4 τ → r0 ≡ marked_of 8 ρ0 → r1 ≡ marked_of 16 ρ1
    → Upto 20 l (binary_eigenvalue b t r0 r1) → Upto 20 c (binary_third b t r0 r1) → Upto 20 p (pressure_condition b pressure t r0 r1) → r.l ≡ condition_of l → r.c2 ≡ condition_of c → r.p ≡ condition_of p → r ≡ criticality_conditions_p b pressure τ ρ0 ρ1
unfolding criticality_conditions_p
criticality_p_law b pressure τ ρ0 ρ1 t r0 r1 l c p r et e0 e1 el ec ep fl fc fp =
    let l' = binary_eigenvalue b (marked_of 4 τ) (marked_of 8 ρ0) (marked_of 16 ρ1) in
    let c' = binary_third b (marked_of 4 τ) (marked_of 8 ρ0) (marked_of 16 ρ1) in
    let p' = pressure_condition b pressure (marked_of 4 τ) (marked_of 8 ρ0) (marked_of 16 ρ1) in
    let L : r.l ≡ condition_of l' = fl ∙ four_read l l' (el ∙ is 20 (rw (et, e0, e1))) in
    let C : r.c2 ≡ condition_of c' = fc ∙ four_read c c' (ec ∙ is 20 (rw (et, e0, e1))) in
    let Q : r.p ≡ condition_of p' = fp ∙ four_read p p' (ep ∙ is 20 (rw (et, e0, e1))) in
    rw (L, C, Q)
