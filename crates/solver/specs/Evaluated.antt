-- The evaluations of a blend, as a search asks for them. Definitions only.
use Rattle.eos.specs.declared.types.Blend.{Blend}
use Rattle.evaluations.specs.Residual.{p_dpdrho, p_dpdrho_d2pdrho2, chemical_potential}
use Rattle.evaluations.specs.Critical.{criticality_conditions, stability_condition}
use Rattle.evaluations.specs.CriticalBinary.{criticality_conditions_t, criticality_conditions_p}
use Rattle.solver.specs.Search.{Evaluator, slope, curvature, potential, criticality, stability, criticality_t, criticality_p}

unfoldable pub evaluated : Blend → Evaluator
evaluated blend (slope t ρ) = p_dpdrho blend t ρ
evaluated blend (curvature t ρ) = p_dpdrho_d2pdrho2 blend t ρ
evaluated blend (potential t ρ) = chemical_potential blend t ρ
evaluated blend (criticality t ρ) = criticality_conditions blend t ρ
evaluated blend (stability t ρ) = stability_condition blend t ρ
evaluated blend (criticality_t t ρ0 ρ1) = criticality_conditions_t blend t ρ0 ρ1
evaluated blend (criticality_p p t ρ0 ρ1) = criticality_conditions_p blend p t ρ0 ρ1
