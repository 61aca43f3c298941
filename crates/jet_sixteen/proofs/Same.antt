-- What jets of 32 yield is what jets of 16 yield. Assumes nothing.
use mathlib.Core.Path.{◌≡◌, sym, ap, ◌∙◌}
use Prim.Native.Nat.{ℕ, ◌≤◌}
use mathlib.Core.Bool.{true, false≢true}
use mathlib.Core.List.{List}
use lib.ListN.{take}
use lib.Ieee.{Float}
use Rattle.jet.proofs.WithMark.{marked_number}
use Rattle.eos.specs.declared.types.Blend.{Blend}
use Rattle.evaluations.specs.declared.types.PressureCriticality.{PressureCriticality}
use Rattle.solver.specs.Search.{Query, slope, curvature, potential, criticality, stability, criticality_t, criticality_p}
use Rattle.solver.specs.Evaluated.{evaluated}
use Rattle.reader.specs.View.{view}
use Rattle.records.specs.Outcome.{outcome_of}
use Rattle.records.specs.Record.{sealed_bytes, sealed_of}
use Rattle.jet_sixteen.specs.Sixteen.{number16, marked16, with_mark16}
use Rattle.jet_sixteen.specs.Evaluations.{evaluated16, sealed16}
use Rattle.jet_sixteen.specs.Same.{SameSixteen}
use Rattle.jet_sixteen.proofs.Operations.{numbers, marks, with_marks}
use Rattle.jet_sixteen.proofs.Evaluations.{slope_same, curvature_same, potential_same, criticality_same, stability_same, criticality_t_same}
use Rattle.jet_sixteen.proofs.Asks.{has_sixteen, job_asks, end_same}

module _ (other : (pressure temperature ρ0 ρ1 : Float) → PressureCriticality) where
  evaluated_same : (b : Blend) (q : Query) → has_sixteen q ≡ true → evaluated b q ≡ evaluated16 other b q
  unfolding evaluated evaluated16
  evaluated_same b (slope t ρ) h = slope_same b t ρ
  evaluated_same b (curvature t ρ) h = curvature_same b t ρ
  evaluated_same b (potential t ρ) h = potential_same b t ρ
  evaluated_same b (criticality t ρ) h = criticality_same b t ρ
  evaluated_same b (stability t ρ) h = stability_same b t ρ
  evaluated_same b (criticality_t t ρ0 ρ1) h = criticality_t_same b t ρ0 ρ1
  evaluated_same b (criticality_p p t ρ0 ρ1) h = absurd (false≢true h)

  sealed_same : (kind n : ℕ) (block : List ℕ) → kind ≤ 8 → sealed_of kind n block ≡ sealed16 other kind n block
  unfolding sealed_of sealed16 outcome_of
  sealed_same kind n block h = let b = (view kind n block).blend in ap sealed_bytes (end_same (evaluated b) (evaluated16 other b) (evaluated_same b) (job_asks kind n block h))

mark_same : (x : Float) → with_mark16 1 (number16 x) ≡ marked16 1 x
mark_same x = sym (with_marks 1 (numbers x)).same ∙ ap (take 16) (marked_number x) ∙ (marks 1 x).same

pub same_sixteen : SameSixteen
same_sixteen = record {
  slope = slope_same;
  curvature = curvature_same;
  potential = potential_same;
  criticality = criticality_same;
  stability = stability_same;
  criticality_t_lem = criticality_t_same;
  mark = mark_same;
  sealed = sealed_same;
}
