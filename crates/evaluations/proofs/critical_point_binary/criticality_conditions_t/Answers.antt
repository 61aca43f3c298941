-- `evaluations::critical_point_binary::criticality_conditions_t`.
use mathlib.Core.Path.{◌∙◌}
use native.Mathlib.Omega.{arith}
use Rattle.evaluations.proofs.CriticalLaws.{criticality_t_law, two_marks}
use Rattle.evaluations.proofs.critical_point_binary.criticality_conditions_t.Goals as goal

pub at-pair-requires : goal.at-pair-requires
at-pair-requires c = (omega arith, two_marks)

pub returns : goal.returns
returns c =
    let a = c.args in
    let d = rw (c.at-pair.ensures.0, c.at-pair.ensures.1) at c.conditions.ensures in
    c.criticality.ensures
    ∙ criticality_t_law a.blend a.temperature a.rho0 a.rho1 _ _ _ _ _ c.number.ensures c.marked.ensures c.marked-2.ensures d.0 d.1
