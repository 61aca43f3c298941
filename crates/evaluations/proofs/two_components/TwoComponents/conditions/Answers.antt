-- `evaluations::two_components::TwoComponents::conditions`.
use Rattle.evaluations.proofs.CriticalLaws.{value_law, third_law}
use Rattle.evaluations.proofs.two_components.TwoComponents.conditions.Goals as goal

pub returns : goal.returns
returns g c =
    let a = c.args in
    let s = a.self.now in
    let m = c.matrix-m in
    let e = c.smallest_ev-e in
    (value_law g.row.W s.width s.blend s.t.c a.v.c a.z1.c a.z2.c m.result e.result m.ensures e.ensures, third_law g.row.W s.width s.blend s.t.c a.v.c a.z1.c a.z2.c m.result e.result m.ensures e.ensures _ _ _ c.moved.ensures c.moved-2.ensures c.third.ensures)
