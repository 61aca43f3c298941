-- `evaluations::two_components::TwoComponents::matrix`.
use Rattle.evaluations.proofs.CriticalLaws.{matrix_law}
use Rattle.evaluations.proofs.two_components.TwoComponents.matrix.Goals as goal

pub returns : goal.returns
returns g c =
    let a = c.args in
    let s = a.self.now in
    matrix_law g.row.W s.width s.blend s.t.c a.v.c a.z1.c a.z2.c _ c.dmu_dn-h.result c.sqrt-s1.result.c c.sqrt-s2.result.c c.sqrt-s1.ensures c.sqrt-s2.ensures c.dmu_dn-h.ensures c.entry.ensures c.entry-2.ensures c.entry-3.ensures
