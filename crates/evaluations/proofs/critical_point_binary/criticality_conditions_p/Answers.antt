-- `evaluations::critical_point_binary::criticality_conditions_p`.
use native.Mathlib.Omega.{arith}
use Rattle.evaluations.proofs.CriticalLaws.{criticality_p_law, three_marks}
use Rattle.evaluations.proofs.critical_point_binary.criticality_conditions_p.Goals as goal

pub at-pair-requires : goal.at-pair-requires
at-pair-requires c = (omega arith, three_marks)

pub returns : goal.returns
returns c =
    let a = c.args in
    let same = c.at-pair.ensures in
    let d = rw (same.0, same.1) at c.conditions-c.ensures in
    let p = rw (same.0, same.1) at c.pressure_condition-p.ensures in
    criticality_p_law a.blend a.pressure a.temperature a.rho0 a.rho1 _ _ _ _ _ _ _ c.marked.ensures c.marked-r0.ensures c.marked-r1.ensures d.0 d.1 p c.condition.ensures c.condition-2.ensures c.condition-3.ensures
