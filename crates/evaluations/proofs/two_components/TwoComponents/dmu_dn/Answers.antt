-- `evaluations::two_components::TwoComponents::dmu_dn`.
use Rattle.evaluations.proofs.CriticalLaws.{dmu_law}
use Rattle.evaluations.proofs.two_components.TwoComponents.dmu_dn.Goals as goal

pub returns : goal.returns
returns g c =
    let a = c.args in
    let s = a.self.now in
    dmu_law g.row.W s.width s.blend s.t.c a.v.c a.z1.c a.z2.c _ _ _ c.second-h.result.c _ _ _ c.with_mark-n1.ensures c.with_mark-n2.ensures c.second-h11.ensures c.second-h22.ensures c.second-h.ensures c.sub.ensures c.sub-mixed.ensures c.number.ensures c.mul.ensures
