-- `linear::eigen::smallest_ev`.
use Rattle.linear.proofs.Eigenvectors.{first_unit_law, second_unit_law, scaled_law}
use Rattle.linear.proofs.eigen.smallest_ev.Goals as goal

pub returns-then-m11-m22 : goal.returns-then-m11-m22
returns-then-m11-m22 g c =
    first_unit_law _ _ _ _ _ c.smallest-l.ensures c.if-m12.true c.if-m11-m22.true c.number.ensures c.number-then-m11-m22.ensures

pub returns-then-m12 : goal.returns-then-m12
returns-then-m12 g c =
    second_unit_law _ _ _ _ _ c.smallest-l.ensures c.if-m12.true c.if-m11-m22.false c.number-then-m12.ensures c.number-then-m12-2.ensures

pub returns : goal.returns
returns g c =
    scaled_law _ _ _ _ _ c.smallest-l.ensures _ _ c.if-m12.false c.sub-y.ensures c.length-size.ensures c.div.ensures c.div-2.ensures
