-- `evaluations::critical_point_binary::conditions`.
use Rattle.evaluations.proofs.CriticalLaws.{binary_eigenvalue_lem, binary_third_lem}
use Rattle.evaluations.proofs.critical_point_binary.conditions.Goals as goal

pub returns : goal.returns
returns g c =
    let a = c.args in
    let s = a.pair.now in
    let q = c.state-s in
    (binary_eigenvalue_lem g.row.W a.rho0.c a.rho1.c s.width s.blend s.t.c q.result q.ensures _ c.conditions.ensures.0, binary_third_lem g.row.W a.rho0.c a.rho1.c s.width s.blend s.t.c q.result q.ensures _ c.conditions.ensures.1)
