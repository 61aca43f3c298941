-- `evaluations::two_components::TwoComponents::third`.
use Rattle.evaluations.proofs.CriticalLaws.{third_at_law}
use Rattle.evaluations.proofs.two_components.TwoComponents.third.Goals as goal

pub returns : goal.returns
returns g c =
    let a = c.args in
    let s = a.self.now in
    third_at_law g.row.W s.width s.blend s.t.c a.v.c a.n1.c a.n2.c _ _ _ _ _ _ c.energy_over_t-a.ensures c.ideal_gas.ensures c.ideal_gas-2.ensures c.add-ig.ensures c.add.ensures c.derivative.ensures
