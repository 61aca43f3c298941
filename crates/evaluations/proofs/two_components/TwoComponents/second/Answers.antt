-- `evaluations::two_components::TwoComponents::second`.
use Rattle.evaluations.proofs.CriticalLaws.{second_derivative_law}
use Rattle.evaluations.proofs.two_components.TwoComponents.second.Goals as goal

pub returns : goal.returns
returns g c =
    let a = c.args in
    let s = a.self.now in
    second_derivative_law g.row.W s.width s.blend s.t.c a.v.c a.n1.c a.n2.c _ _ c.energy_over_t.ensures c.derivative.ensures
