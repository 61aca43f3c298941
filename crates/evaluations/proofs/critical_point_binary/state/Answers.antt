-- `evaluations::critical_point_binary::state`.
use Rattle.evaluations.proofs.CriticalLaws.{state_law}
use Rattle.evaluations.proofs.critical_point_binary.state.Goals as goal

pub returns : goal.returns
returns g c =
    let a = c.args in
    state_law g.row.W a.rho0.c a.rho1.c _ _ c.add-density.ensures c.number.ensures c.div.ensures c.div-2.ensures c.div-3.ensures
