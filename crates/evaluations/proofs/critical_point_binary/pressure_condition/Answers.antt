-- `evaluations::critical_point_binary::pressure_condition`.
use Rattle.evaluations.proofs.CriticalLaws.{pressure_law}
use Rattle.evaluations.proofs.critical_point_binary.pressure_condition.Goals as goal

pub returns : goal.returns
returns g c =
    let a = c.args in
    let s = a.pair.now in
    let q = c.state-s in
    pressure_law g.row.W a.rho0.c a.rho1.c s.width s.blend s.t.c q.result q.ensures a.pressure _ _ _ _ _ _ _ _ _ c.with_mark-v.ensures c.helmholtz_of_two-a.ensures c.derivative-da.ensures c.neg.ensures c.mul.ensures c.add-p_calc.ensures c.neg-2.ensures c.number.ensures c.add.ensures
