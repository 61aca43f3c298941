-- "Old kinds give the bits they gave": what jets of 32 yield is what jets of 16 yield. Statement only; `same_sixteen` in proofs/Same.antt proves it.
use Rattle.std.specs.Prelude.{◌≡◌, ℕ, ◌≤◌, List, Float}
use Rattle.eos.specs.declared.types.Blend.{Blend}
use Rattle.evaluations.specs.declared.types.PressureCriticality.{PressureCriticality}
use Rattle.evaluations.specs.Residual.{p_dpdrho, p_dpdrho_d2pdrho2, chemical_potential}
use Rattle.evaluations.specs.Critical.{criticality_conditions, stability_condition}
use Rattle.evaluations.specs.CriticalBinary.{criticality_conditions_t}
use Rattle.records.specs.Record.{sealed_of}
use Rattle.jet_sixteen.specs.Sixteen.{number16, marked16, with_mark16}
use Rattle.jet_sixteen.specs.Evaluations.{p_dpdrho16, p_dpdrho_d2pdrho2₁₆, chemical_potential16, criticality_conditions16, stability_condition16, criticality_conditions_t16, sealed16}

pub record SameSixteen : Type 0 where
  -- each evaluation of kinds 1 to 8, of every blend, at any numbers
  pub slope : (b : Blend) (t ρ : Float) → p_dpdrho b t ρ ≡ p_dpdrho16 b t ρ
  pub curvature : (b : Blend) (t ρ : Float) → p_dpdrho_d2pdrho2 b t ρ ≡ p_dpdrho_d2pdrho2₁₆ b t ρ
  pub potential : (b : Blend) (t ρ : Float) → chemical_potential b t ρ ≡ chemical_potential16 b t ρ
  pub criticality : (b : Blend) (t ρ : Float) → criticality_conditions b t ρ ≡ criticality_conditions16 b t ρ
  pub stability : (b : Blend) (t ρ : Float) → stability_condition b t ρ ≡ stability_condition16 b t ρ
  pub criticality_t_lem : (b : Blend) (t ρ0 ρ1 : Float) → criticality_conditions_t b t ρ0 ρ1 ≡ criticality_conditions_t16 b t ρ0 ρ1
  -- in kinds 5 to 7, whose fractions are plain numbers, a fraction with the mark e0 is the marked number
  pub mark : (x : Float) → with_mark16 1 (number16 x) ≡ marked16 1 x
  -- the 48 sealed bytes of every request of these kinds, whatever stands for kind 9's evaluation
  pub sealed : (other : (pressure temperature ρ0 ρ1 : Float) → PressureCriticality) (kind n : ℕ) (block : List ℕ) → kind ≤ 8 → sealed_of kind n block ≡ sealed16 other kind n block
