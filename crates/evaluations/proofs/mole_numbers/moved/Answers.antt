-- `evaluations::mole_numbers::moved`.
use Rattle.evaluations.proofs.CriticalLaws.{moved_law}
use Rattle.evaluations.proofs.mole_numbers.moved.Goals as goal

pub returns : goal.returns
returns g c =
    let a = c.args in
    moved_law g.row.W a.z.c a.u.c _ _ _ _ _ c.sqrt.ensures c.mul-direction.ensures c.marked.ensures c.mul.ensures c.add.ensures
