-- The evaluations along the density, from the first coefficients of the Helmholtz energy. Assumes nothing.
use mathlib.Core.Path.{◌≡◌, refl, ap, ◌∙◌}
use Prim.Native.Nat.{ℕ, ◌≤◌, ◌<◌}
use native.Mathlib.Omega.{arith}
use mathlib.Core.Bool.{true}
use mathlib.Core.List.{List}
use lib.Ieee.{Float, of_int, of_bits}
use Rattle.float.specs.Ops.{◌⊕◌, ◌⊖◌, ◌⊗◌, ◌⊘◌, f1}
use Rattle.float.specs.Ln.{ln_of}
use Rattle.jet.specs.Coefficients.{at, Upto, number_of, marked_of, factorial, factorial_of}
use Rattle.jet.specs.Positions.{first_order}
use Rattle.jet.proofs.Prefix.{is, head_same}
use Rattle.jet.proofs.Depends.{taken}
use Rattle.eos.specs.declared.types.Blend.{Blend}
use Rattle.evaluations.specs.declared.types.Pressure.{Pressure}
use Rattle.eos.specs.Cubic.{nth, components_of}
use Rattle.eos.specs.Helmholtz.{helmholtz}
use Rattle.evaluations.specs.Residual.{along_volume, derived, pressure_from, slope_from, curvature_from, p_dpdrho_d2pdrho2, chemical_potential}
use Rattle.eos.proofs.Energy.{helmholtz_cong}

pub along_law : (b : Blend) (t v : Float) (n : ℕ) (T U : List Float) (moles : ℕ → List Float) (out : List Float)
    → 1 ≤ n → n ≡ components_of b → T ≡ number_of t → U ≡ marked_of 1 v → ((i : ℕ) → i < n → moles i ≡ number_of (nth b.x i)) → Upto 4 out (helmholtz b n T U moles)
    → Upto 4 out (along_volume b t v)
unfolding along_volume
along_law b t v n T U moles out h en et ev em eo =
    eo
    ∙ helmholtz_cong 4 n h b T U moles (λ i. number_of (nth b.x i)) (λ i l. is 4 (em i l))
    ∙ is 4 (ap (λ (a : List Float). (helmholtz b n a U (λ i. number_of (nth b.x i)))) et)
    ∙ is 4 (ap (λ (a : List Float). (helmholtz b n (number_of t) a (λ i. number_of (nth b.x i)))) ev)
    ∙ is 4 (ap (λ (k : ℕ). (helmholtz b k (number_of t) (marked_of 1 v) (λ i. number_of (nth b.x i)))) en)

derived_of : (k : ℕ) (a b : List Float) → k < 4 → first_order k ≡ true → Upto 4 a b → derived k a ≡ derived k b
unfolding derived
derived_of k a b h f e = ap (λ (x : Float). factorial_of k ⊗ x) (taken 4 k a b e h f)

module _ (b : Blend) (t ρ : Float) (a : List Float) (e : Upto 4 a (along_volume b t (f1 ⊘ ρ))) where
  first : derived 1 a ≡ derived 1 (along_volume b t (f1 ⊘ ρ))
  unfolding first_order
  first = derived_of 1 a (along_volume b t (f1 ⊘ ρ)) (omega arith) refl e

  second : derived 2 a ≡ derived 2 (along_volume b t (f1 ⊘ ρ))
  unfolding first_order
  second = derived_of 2 a (along_volume b t (f1 ⊘ ρ)) (omega arith) refl e

  third : derived 3 a ≡ derived 3 (along_volume b t (f1 ⊘ ρ))
  unfolding first_order
  third = derived_of 3 a (along_volume b t (f1 ⊘ ρ)) (omega arith) refl e

  pressure_of : pressure_from t ρ a ≡ pressure_from t ρ (along_volume b t (f1 ⊘ ρ))
  unfolding pressure_from
  pressure_of = rw first

  slope_of : slope_from t (f1 ⊘ ρ) a ≡ slope_from t (f1 ⊘ ρ) (along_volume b t (f1 ⊘ ρ))
  unfolding slope_from
  slope_of = rw second

  curvature_of : curvature_from (f1 ⊘ ρ) a ≡ curvature_from (f1 ⊘ ρ) (along_volume b t (f1 ⊘ ρ))
  unfolding curvature_from
  curvature_of = rw (second, third)

  pub p_dpdrho_d2pdrho2_law : (p s d : Float) → p ≡ pressure_from t ρ a → s ≡ slope_from t (f1 ⊘ ρ) a → d ≡ curvature_from (f1 ⊘ ρ) a → ◌≡◌ {A = Pressure} (record { p = p; dp_drho = s; d2p_drho2 = d }) (p_dpdrho_d2pdrho2 b t ρ)
  unfolding p_dpdrho_d2pdrho2
  p_dpdrho_d2pdrho2_law p s d ep es ed = rw (ep ∙ pressure_of, es ∙ slope_of, ed ∙ curvature_of)

  -- the first derivative is one times its coefficient
  one_times : f1 ⊗ at a 1 ≡ derived 1 a
  unfolding derived factorial_of factorial of_int of_bits
  one_times = refl

  pub potential_law : (l : Float) → l ≡ ln_of ρ → at a 0 ⊖ f1 ⊗ at a 1 ⊗ (f1 ⊘ ρ) ⊕ t ⊗ l ≡ chemical_potential b t ρ
  unfolding chemical_potential
  potential_law l el = rw (el, one_times, first, head_same 4 a (along_volume b t (f1 ⊘ ρ)) (omega arith) e)
