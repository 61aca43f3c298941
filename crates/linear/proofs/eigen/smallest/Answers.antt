-- `linear::eigen::smallest`.
use Rattle.linear.proofs.Eigenvectors.{smallest_law}
use Rattle.linear.proofs.eigen.smallest.Goals as goal

pub returns : goal.returns
returns g c =
    let a = c.args in
    smallest_law _ a.m11.c a.m12.c a.m22.c _ _ _ _ _ _ _ _ _ _ _ c.sub-d.ensures c.number.ensures c.mul.ensures c.mul-mixed.ensures c.mul-2.ensures c.add.ensures c.sqrt-root.ensures c.add-2.ensures c.sub.ensures c.number-2.ensures c.mul-3.ensures
