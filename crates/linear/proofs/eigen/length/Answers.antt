-- `linear::eigen::length`.
use Rattle.linear.proofs.Eigenvectors.{length_law}
use Rattle.linear.proofs.eigen.length.Goals as goal

pub returns : goal.returns
returns g c =
    let a = c.args in
    length_law _ a.x.c a.y.c _ _ _ _ c.mul.ensures c.mul-2.ensures c.add.ensures c.sqrt.ensures
